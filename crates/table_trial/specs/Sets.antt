-- The sets of a newcomer x: for each pair of earlier taxa i<j the set of the taxa that the table joins with x against i and j, as a number,
-- at C(j,2) + i. And what a trial asks of them.
use Rattle.std.specs.Prelude.{ℕ, ◌+◌, ◌*◌, ◌^◌, ◌<◌, ◌≡◌, Bool, true, cond, ◌&&◌, List, eqb, ltb, length, get_or, set}
use Rattle.std.specs.Int.Bits.{bit_and, bit_or}
use Rattle.statement.specs.Cluster.{bit}
use Rattle.statement.specs.Table.{choose, place}

-- with the taxon u in the set at p
abbrev pub put : List ℕ → ℕ → ℕ → List ℕ
put sets p u = set sets p (bit_or (get_or sets p 0) (2 ^ u))

-- with what the byte v of the four i<j<l<x says: 1 joins l with x, 2 joins j, 3 joins i
unfoldable pub marked : ℕ → ℕ → ℕ → ℕ → List ℕ → List ℕ
marked v i j l sets =
    cond (eqb v 1) (put sets (choose j 2 + i) l) (cond (eqb v 2) (put sets (choose l 2 + i) j) (cond (eqb v 3) (put sets (choose l 2 + j) i) sets))

-- the three sets that the four i<j<l<x may be in are as its byte v says, where it is done, and lack it where it is not
pub record Told (v i j l : ℕ) (done : Bool) (sets : List ℕ) : Type 0 where
  pub one : bit (get_or sets (choose j 2 + i) 0) l ≡ cond (done && eqb v 1) 1 0
  pub two : bit (get_or sets (choose l 2 + i) 0) j ≡ cond (done && eqb v 2) 1 0
  pub three : bit (get_or sets (choose l 2 + j) 0) i ≡ cond (done && eqb v 3) 1 0

-- the fours of x before a key, in the order of their places, are done
pub record Filled (bytes : List ℕ) (x key : ℕ) (sets : List ℕ) : Type 0 where
  pub size : length sets ≡ 2016
  pub told : (i j l : ℕ) → i < j → j < l → l < x → Told (get_or bytes (place i j l x) 0) i j l (ltb (l * 4096 + j * 64 + i) key) sets

-- all of them are
abbrev pub Prepared : List ℕ → ℕ → List ℕ → Type 0
Prepared bytes x sets = (i j l : ℕ) → i < j → j < l → l < x → Told (get_or bytes (place i j l x) 0) i j l true sets

-- the whole side is in the set of q and each of the first m listed taxa; and of each two of them
abbrev pub RowHolds : ℕ → ℕ → ℕ → List ℕ → List ℕ → Type 0
RowHolds side q m taxa sets = (j : ℕ) → j < m → bit_and side (get_or sets (choose q 2 + get_or taxa j 0) 0) ≡ side

abbrev pub RowsHold : ℕ → ℕ → List ℕ → List ℕ → Type 0
RowsHold side m taxa sets = (i : ℕ) → i < m → RowHolds side (get_or taxa i 0) i taxa sets
