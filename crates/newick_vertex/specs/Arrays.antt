-- What the writer's loops speak of: the tree by the arrays that hold it.
use Rattle.std.specs.Prelude.{ℕ, ◌-◌, ◌≤◌, ◌<◌, ◌≡◌, Bool, true, false, List, eqb, get_or}
use Rattle.statement.specs.NewickText.{Shape, those_from, homed, unbracketed}

-- the places from i to e that hold x
abbrev pub having : List ℕ → ℕ → ℕ → ℕ → List ℕ
having xs x i e = those_from (λ j. eqb (get_or xs j 0) x) i (e - i)

abbrev pub shape_in : ℕ → ℕ → List ℕ → List ℕ → List ℕ → Shape
shape_in n m links homes weights =
    record { taxa = n; edges = m; link = λ c. get_or links c 0; home = λ i. get_or homes i 0; weight = λ c. get_or weights c 0 }

-- the byte before an item: an opening bracket where nothing stands before it
abbrev pub lead_at : Bool → ℕ
lead_at true = 40
lead_at false = 44

-- r is the taxon that stands for v without brackets, and n where v has brackets
pub record Lone (t : Shape) (v r : ℕ) : Type 0 where
  pub bare : r < t.taxa → (unbracketed t v ≡ true) × (get_or (homed t v) 0 0 ≡ r)
  pub brackets : t.taxa ≤ r → unbracketed t v ≡ false
