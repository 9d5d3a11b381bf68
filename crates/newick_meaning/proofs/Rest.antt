-- NOTHING PAST THE SEMICOLON is read. Assumes nothing.
use native.Mathlib.Omega.{arith}
use Prim.Native.Nat.{ℕ}
use mathlib.Core.Path.{◌≡◌, refl, sym, ◌∙◌, ap, ap₂}
use mathlib.Core.List.{List, [], ◌∷◌, ◌++◌}
use lib.ListN.{length, take, length-append}
use lib.Seq.{take_at}
use Rattle.statement.specs.Grammar.{IsSentence}
use Rattle.statement.specs.Sentence.{Digits, none, more, Numeral, nought, lead, Children, leaf, group, leaf_then, group_then, digits_text, numeral_text, children_text}
use Rattle.newick_text.proofs.Productions.{by_productions}
use Rattle.newick_meaning.specs.Parse.{read_newick}
use Rattle.newick_meaning.proofs.Unique.{one_way, alike_reply, sentence_read}

-- what follows a text stands behind it
digits_split : (d : Digits) (s r : List ℕ) → digits_text d s ++ r ≡ digits_text d (s ++ r)
digits_split none s r = refl
digits_split (more c p d) s r = ap (λ (u : List ℕ). c ∷ u) (digits_split d s r)

num_split : (x : Numeral) (s r : List ℕ) → numeral_text x s ++ r ≡ numeral_text x (s ++ r)
num_split nought s r = refl
num_split (lead c p q d) s r = ap (λ (u : List ℕ). c ∷ u) (digits_split d s r)

kids_split : (f : Children) (s r : List ℕ) → children_text f s ++ r ≡ children_text f (s ++ r)
kids_split (leaf x w) s r = num_split x (58 ∷ numeral_text w s) r ∙ ap (λ (u : List ℕ). numeral_text x (58 ∷ u)) (num_split w s r)
kids_split (group f w) s r = ap (λ (u : List ℕ). 40 ∷ u) (kids_split f (41 ∷ 58 ∷ numeral_text w s) r ∙ ap (λ (u : List ℕ). children_text f (41 ∷ 58 ∷ u)) (num_split w s r))
kids_split (leaf_then x w k) s r =
    num_split x (58 ∷ numeral_text w (44 ∷ children_text k s)) r
    ∙ ap (λ (u : List ℕ). numeral_text x (58 ∷ u)) (num_split w (44 ∷ children_text k s) r ∙ ap (λ (u : List ℕ). numeral_text w (44 ∷ u)) (kids_split k s r))
kids_split (group_then f w k) s r =
    ap (λ (u : List ℕ). 40 ∷ u) (kids_split f (41 ∷ 58 ∷ numeral_text w (44 ∷ children_text k s)) r
    ∙ ap (λ (u : List ℕ). children_text f (41 ∷ 58 ∷ u)) (num_split w (44 ∷ children_text k s) r ∙ ap (λ (u : List ℕ). numeral_text w (44 ∷ u)) (kids_split k s r)))

tail_of : {a b : ℕ} {s t : List ℕ} → a ∷ s ≡ b ∷ t → s ≡ t
tail_of e = cc

-- what is before the same end
cancel : (s t r : List ℕ) → s ++ r ≡ t ++ r → s ≡ t
cancel s t r e = sym (take_at s r (length s) refl) ∙ ap₂ take (same_length) e ∙ take_at t r (length t) refl
  where
    same_length : length s ≡ length t
    same_length = omega (arith, ap length e, length-append s r, length-append t r)

ends : (f : Children) (s r : List ℕ) → s ++ r ≡ 40 ∷ children_text f (41 ∷ 59 ∷ r) → 40 ∷ children_text f (41 ∷ 59 ∷ []) ≡ s
ends f s r e =
    let k = kids_split f (41 ∷ 59 ∷ []) r in
    cancel (40 ∷ children_text f (41 ∷ 59 ∷ [])) s r (ap (λ (u : List ℕ). 40 ∷ u) k ∙ sym e)

-- whatever stands behind a sentence, the reply is the same
pub rest_unread : (n : ℕ) (s r r' : List ℕ) → IsSentence s → read_newick n (s ++ r) ≡ read_newick n (s ++ r')
rest_unread n s r r' d =
    let (f, i, p) = (by_productions 129 (s ++ r) r).0 (s, d, refl) in
    let (g, j, q) = (by_productions 129 (s ++ r') r').0 (s, d, refl) in
    let e : 40 ∷ children_text f (41 ∷ 59 ∷ []) ≡ s = ends f s r p in
    let h : 40 ∷ children_text g (41 ∷ 59 ∷ []) ≡ s = ends g s r' q in
    sentence_read n f (s ++ r) r i p ∙ alike_reply n f g (one_way f g (59 ∷ []) (59 ∷ []) (tail_of (e ∙ sym h))).0 ∙ sym (sentence_read n g (s ++ r') r' j q)
