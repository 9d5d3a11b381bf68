-- Texts written one after the other, and a number digit by digit. Assumes nothing.
use mathlib.Core.Path.{◌≡◌, sym, ap, ap₂, ◌∙◌}
use mathlib.Core.List.{List, [], ◌∷◌, ◌++◌}
use Prim.Native.Nat.{ℕ, ◌+◌, ◌/◌, ◌%◌, ◌≤◌, ◌<◌}
use native.Mathlib.Omega.{arith}
use lib.ListN.{length-append}
use lib.Seq.{sets}
use Rattle.statement.specs.Decimal.{decimal}
use Rattle.newick_digits.specs.declared.Pen.{Pen}
use Rattle.newick_digits.specs.Pen.{Wrote}
use Rattle.newick_digits.proofs.Decimal.{sets_append, decimal_one, decimal_more}

pub wrote_then : {p q r : Pen} {x y : List ℕ} → Wrote p q x → Wrote q r y → Wrote p r (x ++ y)
wrote_then {p} {q} {r} {x} {y} a b = record {
  same = b.same ∙ a.same;
  stored = b.stored ∙ ap₂ (λ (l : List ℕ) (k : ℕ). sets l k y) a.stored a.place ∙ sym (sets_append x y p.out.now p.at);
  place = omega (arith, a.place, b.place, length-append x y);
}

module _ {p q : Pen} (n : ℕ) where
  pub wrote_digit : n < 10 → Wrote p q ((48 + n % 10) ∷ []) → Wrote p q (decimal n)
  wrote_digit h w = rw (decimal_one n h ∙ ap (λ (d : ℕ). (48 + d) ∷ []) (let e : n ≡ n % 10 = omega arith in e)) w

  pub wrote_digits : {r : Pen} → 10 ≤ n → Wrote p r (decimal (n / 10)) → Wrote r q ((48 + n % 10) ∷ []) → Wrote p q (decimal n)
  wrote_digits h w v = rw (decimal_more n h) (wrote_then w v)
