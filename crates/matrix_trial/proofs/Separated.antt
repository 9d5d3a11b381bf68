-- Laws of the separated trial: a turn of each of its loops, and that all the pairs make the trial. Assumes nothing.
use Prim.Native.Nat.{ℕ, ◌+◌, ◌≤◌, ◌<◌, min}
use native.Mathlib.Omega.{arith}
use native.Mathlib.Decide.{dec_lt, ℕ_discrete}
use mathlib.Core.Path.{◌≡◌, sym, subst}
use mathlib.Core.Logic.{◌≢◌, ◌↔◌}
use mathlib.Core.List.{List}
use lib.ListN.{length, get_or, set, take}
use Rattle.std.proofs.lemmas.List.{get_or-take, length-take, length-take-le}
use lib.IntN.{sub_ℕ}
use Rattle.statement.specs.Cluster.{Pair}
use Rattle.statement.specs.Matrix.{distance, AcceptedMatrix}
use Rattle.statement.specs.Growing.{above, pair_trial}
use Rattle.statement.proofs.Instances.{matrix_rule}
use Rattle.statement.proofs.Lesser.{same_below}
use Rattle.statement.proofs.Matrix.{to_score, of_score}
use Rattle.statement.proofs.Pairs.{trial_means}
use Rattle.statement.proofs.Trial.{Anchored}
use Rattle.bits.specs.Members.{Members}
use Rattle.bits.proofs.Stored.{stored}
use Rattle.matrix.proofs.Signs.{lowered_at}
use Rattle.neighbours.specs.Reach.{Reach}
use Rattle.neighbours.proofs.Reaches.{reach_cap, half}
use Rattle.matrix_trial.specs.Separated.{Under, Pairs, Paired, Reached, Halves, AllX, Paired_up, Partners, Swept}
use Rattle.matrix_trial.proofs.Sides.{pair_up, up_pair, partners_up, partners_most}

pub reached_turn : (d : ℕ → ℕ → ℕ) (k a c : ℕ) (taxa reaches : List ℕ) (m r : ℕ) → Reached d k a c taxa reaches m → m < length reaches
    → Reach d k k a c (get_or taxa m 0) r → Reached d k a c taxa (set reaches m r) (m + 1)
reached_turn d k a c taxa reaches m r h room new = stored (λ j. Reach d k k a c (get_or taxa j 0)) reaches m r room new h

-- THE LEAST of the pairs with z
pub paired_turn : (d : ℕ → ℕ → ℕ) (a z rz : ℕ) (taxa reaches : List ℕ) (m : ℕ) {low v next : ℕ} → Paired d a z rz taxa reaches m low
    → Pairs d a (get_or taxa m 0) z (get_or reaches m 0) rz v → next ≡ min low v → Paired d a z rz taxa reaches (m + 1) next
paired_turn d a z rz taxa reaches m {low} {v} {next} p e en = record { least = λ s. (there s, back s) }
  where
    there : (s : ℕ) → s ≤ next → (s ≤ 4000000) × ((j : ℕ) → j < m + 1 → Under d a (get_or taxa j 0) z (get_or reaches j 0) rz s)
    there s h = let q = (p.least s).0 (omega arith) in (q.0, λ j l. at j l (dec_lt j m) q.1)
      where
        at : (j : ℕ) → j < m + 1 → Dec (j < m) → ((i : ℕ) → i < m → Under d a (get_or taxa i 0) z (get_or reaches i 0) rz s) → Under d a (get_or taxa j 0) z (get_or reaches j 0) rz s
        at j l (yes q) f = f j q
        at j l (no q) f =
            let same : m ≡ j = omega arith in
            subst (λ (i : ℕ). Under d a (get_or taxa i 0) z (get_or reaches i 0) rz s) same ((e s).0 (omega (arith, en, h)))

    back : (s : ℕ) → (s ≤ 4000000) × ((j : ℕ) → j < m + 1 → Under d a (get_or taxa j 0) z (get_or reaches j 0) rz s) → s ≤ next
    back s h = omega (arith, en, (p.least s).1 (h.0, λ j l. h.1 j (omega arith)), (e s).1 (h.1 m (omega arith)))

-- over the first m taxa, cut off
paired_part : (d : ℕ → ℕ → ℕ) (a z rz : ℕ) (taxa reaches : List ℕ) (m low : ℕ) → m ≤ length taxa
    → Paired d a z rz (take m taxa) (take m reaches) (length (take m taxa)) low → Paired d a z rz taxa reaches m low
paired_part d a z rz taxa reaches m low few p =
    let long = length-take-le m taxa few in
    record {
      least = λ s. (
        (λ h. let q = (p.least s).0 h in (q.0, λ j l. rw (get_or-take m taxa j 0 l, get_or-take m reaches j 0 l) at (q.1 j (omega (arith, long))))),
        (λ h. (p.least s).1 (h.0, λ j l. let lj : j < m = omega (arith, long) in rw (get_or-take m taxa j 0 lj, get_or-take m reaches j 0 lj) (h.1 j lj))),
      );
    }

-- THE TRIAL
module _ (n : ℕ) (entries : List ℕ) (accepted : AcceptedMatrix n entries) (k a c : ℕ) (lk : k ≤ n) (la : a < k) where
  -- by the reaches of y and z
  under_all : (y z ry rz t : ℕ) → y < n → z < n → Reach (distance n entries) k k a c y ry → Reach (distance n entries) k k a c z rz
      → Under (distance n entries) a y z ry rz (t + 2000000) ↔ AllX (distance n entries) k a c z y t
  under_all y z ry rz t ly lz hy hz =
      let d = distance n entries in
      let ay = accepted.limit a y (omega arith) ly in
      let az = accepted.limit a z (omega arith) lz in
      let first = half d k a c z rz t (d z y) (d a y) la ay (λ x lx. accepted.limit x z (omega arith) lz) hz in
      let second = half d k a c y ry t (d z y) (d a z) la az (λ x lx. accepted.limit x y (omega arith) ly) hy in (
        (λ u x lx e. (second.0 u.1 x lx e, first.0 u.0 x lx e)),
        (λ f. (first.1 (λ x lx e. (f x lx e).1), second.1 (λ x lx e. (f x lx e).0))),
      )

  module _ (taxa : List ℕ) (count w : ℕ) where
    -- what is at most a weight lowered by the partners of the taxon at i
    turn_at : (reaches : List ℕ) (i m : ℕ) {rz best low next : ℕ} (t : ℕ) → 1 ≤ t → i < count → Members k a c taxa count → Partners count i m
        → Reach (distance n entries) k k a c (get_or taxa i 0) rz → Reached (distance n entries) k a c taxa reaches (i + 1)
        → Paired (distance n entries) a (get_or taxa i 0) rz taxa reaches m low
        → (m ≡ 0 → next ≡ best) × (m ≢ 0 → next ≡ min (above (sub_ℕ low 2000000)) best)
        → (t ≤ next) ↔ ((t ≤ best) × ((j : ℕ) → Paired_up count i j → AllX (distance n entries) k a c (get_or taxa i 0) (get_or taxa j 0) t))
    turn_at reaches i m {rz} {best} {low} {next} t pt li members partners reach reached paired lowered = go (ℕ_discrete m 0)
      where
        within : (j : ℕ) → j < m → j < i + 1
        within j l = omega (arith, ((partners_up count i m partners j).0 l).0)

        below : (j : ℕ) → j < i + 1 → get_or taxa j 0 < n
        below j l = omega (arith, (members.each j (omega arith)).0)

        meant : (j : ℕ) → (l : j < i + 1)
            → Under (distance n entries) a (get_or taxa j 0) (get_or taxa i 0) (get_or reaches j 0) rz (t + 2000000)
            ↔ AllX (distance n entries) k a c (get_or taxa i 0) (get_or taxa j 0) t
        meant j l =
            under_all (get_or taxa j 0) (get_or taxa i 0) (get_or reaches j 0) rz t (below j l) (below i (omega arith)) (reached j l) reach

        go : Dec (m ≡ 0) → (t ≤ next) ↔ ((t ≤ best) × ((j : ℕ) → Paired_up count i j → AllX (distance n entries) k a c (get_or taxa i 0) (get_or taxa j 0) t))
        go (yes e) = (
          (λ h. (omega (arith, lowered.0 e), λ j u. absurd (omega (arith, (partners_up count i m partners j).1 u)))),
          (λ h. omega (arith, h.0, lowered.0 e)),
        )
        go (no e) = (
          (λ h.
              let p = (lowered_at t low 2000000 best next pt (lowered.1 e)).0 h in
              let s = (paired.least (t + 2000000)).0 p.1 in
              (p.0, λ j u. let l = (partners_up count i m partners j).1 u in (meant j (within j l)).0 (s.1 j l))),
          (λ h.
              let under : (j : ℕ) → j < m → Under (distance n entries) a (get_or taxa j 0) (get_or taxa i 0) (get_or reaches j 0) rz (t + 2000000) =
              λ j l. (meant j (within j l)).1 (h.1 j ((partners_up count i m partners j).0 l)) in
              let most : t + 2000000 ≤ 4000000 =
              omega (arith, (under 0 (omega arith)).0, reach_cap reach, accepted.limit a (get_or taxa 0 0) (omega arith) (below 0 (omega arith))) in
              (lowered_at t low 2000000 best next pt (lowered.1 e)).1 (h.0, (paired.least (t + 2000000)).1 (most, under))),
        )

    pub swept_turn : (reaches : List ℕ) (i m : ℕ) {rz best low next : ℕ} → Members k a c taxa count → i < count → Partners count i m
        → Reach (distance n entries) k k a c (get_or taxa i 0) rz → Reached (distance n entries) k a c taxa reaches (i + 1)
        → Swept (distance n entries) k a c taxa count w i best → Paired (distance n entries) a (get_or taxa i 0) rz taxa reaches m low
        → (m ≡ 0 → next ≡ best) × (m ≢ 0 → next ≡ min (above (sub_ℕ low 2000000)) best) → Swept (distance n entries) k a c taxa count w (i + 1) next
    swept_turn reaches i m {rz} {best} {low} {next} members li partners reach reached swept paired lowered = record { least = λ t pt. (there t pt, back t pt) }
      where
        there : (t : ℕ) → 1 ≤ t → t ≤ next
            → (t ≤ w) × ((g j : ℕ) → g < i + 1 → Paired_up count g j → AllX (distance n entries) k a c (get_or taxa g 0) (get_or taxa j 0) t)
        there t pt h =
            let p = (turn_at reaches i m t pt li members partners reach reached paired lowered).0 h in
            let q = (swept.least t pt).0 p.0 in
            (q.0, λ g j lg u. go g j lg u (dec_lt g i) q.1 p.1)
          where
            go : (g j : ℕ) → g < i + 1 → Paired_up count g j → Dec (g < i)
                → ((g j : ℕ) → g < i → Paired_up count g j → AllX (distance n entries) k a c (get_or taxa g 0) (get_or taxa j 0) t)
                → ((j : ℕ) → Paired_up count i j → AllX (distance n entries) k a c (get_or taxa i 0) (get_or taxa j 0) t)
                → AllX (distance n entries) k a c (get_or taxa g 0) (get_or taxa j 0) t
            go g j lg u (yes l) f new = f g j l u
            go g j lg u (no l) f new =
                let same : i ≡ g = omega arith in
                subst (λ (h : ℕ). AllX (distance n entries) k a c (get_or taxa h 0) (get_or taxa j 0) t) same
                (new j (subst (λ (h : ℕ). Paired_up count h j) (sym same) u))

        back : (t : ℕ) → 1 ≤ t → (t ≤ w) × ((g j : ℕ) → g < i + 1 → Paired_up count g j → AllX (distance n entries) k a c (get_or taxa g 0) (get_or taxa j 0) t)
            → t ≤ next
        back t pt h =
            (turn_at reaches i m t pt li members partners reach reached paired lowered).1 (
              (swept.least t pt).1 (h.0, λ g j lg u. h.1 g j (omega arith) u),
              λ j u. h.1 i j (omega arith) u,
            )

    -- all pairs of the other side's taxa make the trial
    module _ (members : Members k a c taxa count) where
      pairs_anchored : (t : ℕ) → ((g j : ℕ) → g < count → Paired_up count g j → AllX (distance n entries) k a c (get_or taxa g 0) (get_or taxa j 0) t)
          → Anchored (matrix_rule n (distance n entries)) t k a c
      pairs_anchored t f x y z lx ly lz p asked =
          let (i, li, ei) = members.all y ly p.y_side in
          let (j, lj, ej) = members.all z lz p.z_side in
          to_score (distance n entries) t a x y z (go i j li lj ei ej (dec_lt i j))
        where
          go : (i j : ℕ) → i < count → j < count → get_or taxa i 0 ≡ y → get_or taxa j 0 ≡ z → Dec (i < j)
              → t + (distance n entries a x + distance n entries y z) ≤ min (distance n entries a y + distance n entries x z) (distance n entries a z + distance n entries x y)
          go i j li lj ei ej (yes l) =
              let h : Halves (distance n entries) a x z y t = subst (λ (v : ℕ). Halves (distance n entries) a x z v t) ei (subst (λ (v : ℕ). Halves (distance n entries) a x v (get_or taxa i 0) t) ej (f j i lj (omega arith, λ e. absurd (omega arith)) x lx (p.x_side, asked.0))) in
              omega (arith, h.0, h.1, accepted.same y z (omega arith) (omega arith))
          go i j li lj ei ej (no l) =
              let u : Paired_up count i j = up_pair k a c taxa count members i j li (omega arith)
              (subst (λ (v : ℕ). Pair k c v (get_or taxa j 0)) (sym ei) (subst (λ (v : ℕ). Pair k c y v) (sym ej) asked.1)) in
              let h : Halves (distance n entries) a x y z t = subst (λ (v : ℕ). Halves (distance n entries) a x y v t) ej (subst (λ (v : ℕ). Halves (distance n entries) a x v (get_or taxa j 0) t) ei (f i j li u x lx (p.x_side, asked.0))) in
              omega (arith, h.0, h.1)

      anchored_pairs : (t : ℕ) → Anchored (matrix_rule n (distance n entries)) t k a c → (g j : ℕ) → g < count → Paired_up count g j
          → AllX (distance n entries) k a c (get_or taxa g 0) (get_or taxa j 0) t
      anchored_pairs t h g j lg u x lx e =
          let mg = members.each g lg in
          let mj = members.each j (omega (arith, u.0)) in
          let s = of_score (distance n entries) t a x (get_or taxa g 0) (get_or taxa j 0)
          (h x (get_or taxa g 0) (get_or taxa j 0) lx mg.0 mj.0 (record { x_side = e.0; y_side = mg.1; z_side = mj.1 })
          (e.1, pair_up k a c taxa count members g j lg u)) in
          (omega (arith, s), omega (arith, s))

      pub swept_all : {i best : ℕ} → Swept (distance n entries) k a c taxa count w i best → i ≡ count → best ≡ pair_trial (distance n entries) k a c w
      swept_all {i} {best} s e =
          same_below best (pair_trial (distance n entries) k a c w)
          (λ t pt.
          let m = trial_means n (distance n entries) k a c w t pt in
          let l = s.least t pt in (
            (λ h. let p = l.0 h in m.1 (p.0, pairs_anchored t (λ g j lg u. p.1 g j (omega arith) u))),
            (λ h. let p = m.0 h in l.1 (p.0, λ g j lg u. anchored_pairs t p.1 g j (omega arith) u)),
          ))

      pub swept_zero : {i best : ℕ} → Swept (distance n entries) k a c taxa count w i best → i ≤ count → best ≡ 0 → 0 ≡ pair_trial (distance n entries) k a c w
      swept_zero {i} {best} s li e = go (dec_lt 0 (pair_trial (distance n entries) k a c w))
        where
          go : Dec (0 < pair_trial (distance n entries) k a c w) → 0 ≡ pair_trial (distance n entries) k a c w
          go (no l) = omega arith
          go (yes l) =
              let p = (trial_means n (distance n entries) k a c w 1 (omega arith)).0 (omega arith) in
              absurd (omega (arith, e, (s.least 1 (omega arith)).1 (p.0, λ g j lg u. anchored_pairs 1 p.1 g j (omega arith) u)))

  -- A TURN of the sweep: one reach more is stored, and the partners of its taxon lower the weight
  module _ (taxa reaches : List ℕ) (i m : ℕ) {rz : ℕ} (members : Members k a c taxa (length taxa)) (long : length reaches ≡ 64) (li : i < length taxa)
      (partners : Partners (length taxa) i m) (reach : Reach (distance n entries) k k a c (get_or taxa i 0) rz)
      (reached : Reached (distance n entries) k a c taxa reaches i) where
    few : m ≤ i + 1
    few = partners_most (length taxa) i m partners

    stored_one : Reached (distance n entries) k a c taxa (set reaches i rz) (i + 1)
    stored_one = reached_turn (distance n entries) k a c taxa reaches i rz reached (omega (arith, members.few, accepted.few)) reach

    pub partners_within : (j : ℕ) → j < length (take m taxa) → (get_or (take m taxa) j 0 < n) × (get_or (take m (set reaches i rz)) j 0 ≤ 2000000)
    partners_within j l =
        let lj : j < m = omega (arith, length-take m taxa) in
        rw (get_or-take m taxa j 0 lj, get_or-take m (set reaches i rz) j 0 lj)
        (omega (arith, (members.each j (omega (arith, few))).0), reach_cap (stored_one j (omega (arith, few))))

    pub swept_on : {w best low next : ℕ} → Swept (distance n entries) k a c taxa (length taxa) w i best
        → Paired (distance n entries) a (get_or taxa i 0) rz (take m taxa) (take m (set reaches i rz)) (length (take m taxa)) low
        → (m ≡ 0 → next ≡ best) × (m ≢ 0 → next ≡ min (above (sub_ℕ low 2000000)) best)
        → Reached (distance n entries) k a c taxa (set reaches i rz) (i + 1) × Swept (distance n entries) k a c taxa (length taxa) w (i + 1) next
    swept_on {w} {best} {low} {next} swept paired lowered = (
      stored_one,
      swept_turn taxa (length taxa) w (set reaches i rz) i m members li partners reach stored_one swept
          (paired_part (distance n entries) a (get_or taxa i 0) rz taxa (set reaches i rz) m low (omega (arith, few)) paired) lowered,
    )
