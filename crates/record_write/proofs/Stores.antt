-- What the writer's stores leave in the lent slice. Assumes nothing.
use Rattle.std.proofs.Common.{◌≡◌, ℕ, zero, suc, ◌+◌, ◌-◌, ◌/◌, ◌%◌, ◌<◌, cond, eqb, List, [], ◌∷◌, ◌++◌, length, take, drop, replicate, refl, ap, ◌∙◌, append-nil, arith, length-take, length-drop, drop_of_length-le}
use Rattle.std.proofs.lemmas.List.{length-replicate}
use Rattle.std.proofs.lemmas.Slice.{take-put_mid}
use borrow.Rule.Slice.PartMut.{put_mid, post_of}
use Rattle.statement.specs.Bytes.{four_bytes, word_sum}
use Rattle.statement.specs.Record.{record_length, sum_word, summed, record_of}
use Rattle.record_write.specs.Parts.{pad}

-- header, body and end together
pub laid_out : (kind n : ℕ) (body out mark size store now : List ℕ) → length out ≡ record_length (length body)
    → mark ≡ 0x53 ∷ 0x70 ∷ kind ∷ n ∷ [] → size ≡ four_bytes (length body) → store ≡ body
    → now ≡ summed (take (8 + length body) (put_mid 8 (8 + length body - 8) (put_mid 4 4 (mark ++ drop 4 out) size) store) ++ pad (length body))
    → now ≡ record_of kind n body
unfolding record_of
laid_out kind n body out mark size store now fits a b c e =
    let header : List ℕ = put_mid 4 4 ((0x53 ∷ 0x70 ∷ kind ∷ n ∷ []) ++ drop 4 out) (four_bytes (length body)) in
    e ∙ rw (a, b, c, take-put_mid 8 (8 + length body - 8) header body (8 + length body) (omega arith) (omega arith))

-- the pad
zeros : (m : ℕ) → m < 2 → replicate {A = ℕ} m 0 ≡ cond (eqb m 1) (0 ∷ []) []
zeros zero h = refl
zeros (suc zero) h = refl
zeros (suc (suc m)) h = absurd (omega arith)

-- pad and sum word
module _ (out pads two : List ℕ) (len sum word : ℕ) (size : length out ≡ record_length len) where
  abbrev pub padded : List ℕ
  padded = put_mid (8 + len) (8 + len + len % 2 - (8 + len)) out pads

  pub ended : pads ≡ replicate (length (take (8 + len + len % 2 - (8 + len)) (drop (8 + len) out))) 0 → sum ≡ word_sum (take (8 + len + len % 2) padded)
      → (word + sum) % 65536 ≡ 0 → word < 65536 → two ≡ word % 256 ∷ word / 256 % 256 ∷ []
      → put_mid (8 + len + len % 2) (length padded - (8 + len + len % 2)) padded two ≡ summed (take (8 + len) out ++ pad len)
  unfolding summed
  ended filled is wraps small bytes =
      let end : ℕ = 8 + len + len % 2 in
      let front : List ℕ = take (8 + len) out ++ pad len in
      let odd : length (take (end - (8 + len)) (drop (8 + len) out)) ≡ len % 2 = simp (length-take, length-drop) (omega arith) in
      let pad_is : pads ≡ pad len = filled ∙ ap (λ (m : ℕ). replicate {A = ℕ} m 0) odd ∙ zeros (len % 2) (omega arith) in
      let long : length pads ≡ len % 2 = ap length filled ∙ (simp length-replicate) ∙ odd in
      let before : take end padded ≡ front = take-put_mid (8 + len) (end - (8 + len)) out pads end (omega arith) (omega arith) ∙ ap (λ (l : List ℕ). take (8 + len) out ++ l) pad_is in
      let none : post_of end (length padded - end) padded ≡ [] = drop_of_length-le (drop end padded) (simp length-drop (omega arith)) in
      let total : sum ≡ word_sum front = is ∙ ap word_sum before in
      let chosen : word ≡ sum_word front = omega arith in
      let high : word / 256 % 256 ≡ word / 256 = omega arith in
      rw (none, append-nil, before, bytes, high, chosen)
