-- A matrix that is not checked yet: it is n by n, for at most 64 taxa. Its distances may be any numbers.
use Rattle.std.specs.Prelude.{ℕ, ◌*◌, ◌≤◌, ◌≡◌, List, length}

pub record Square (n : ℕ) (entries : List ℕ) : Type 0 where
  pub few : n ≤ 64
  pub size : length entries ≡ n * n
