-- What a search through taxa answers, as its two implications. Assumes nothing.
use Rattle.std.proofs.Common.{◌≡◌, Bool, true, false, sym}
use Rattle.std.specs.Bool.{MatchBool}
use mathlib.Core.Bool.{true≢false}

pub decided : {A B P : Type 0} (r : Bool) → MatchBool r A B → (A → P) → (B → P → ⊥) → (r ≡ true → P) × (r ≡ false → P → ⊥)
decided true m f g = ((λ _. f m), (λ e. absurd (true≢false e)))
decided false m f g = ((λ e. absurd (true≢false (sym e))), (λ _. g m))
