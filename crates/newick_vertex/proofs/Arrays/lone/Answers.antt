-- `newick_vertex::Arrays::lone` meets its contract: each way out is a law.
use Prim.Native.Nat.{◌+◌, ◌-◌, ◌<◌}
use native.Mathlib.Omega.{arith}
use mathlib.Core.Bool.{true, false}
use mathlib.Core.Path.{◌≡◌}
use lib.Dec.{eqb}
use lib.ListN.{length}
use Rattle.std.proofs.Common.{rules}
use Rattle.std.proofs.lemmas.Iterator.{IsFirst-from_position, YieldsList-from_slice}
use Rattle.std.proofs.lemmas.List.{get_or-take, length-take}
use borrow.Author.Tests.{tests}
use Rattle.newick_vertex.proofs.Bare.{in_front, behind, behind_length, lone_root, lone_child, lone_none, lone_two, lone_one}
use Rattle.newick_vertex.proofs.Arrays.lone.Goals as goal
use Rattle.newick_vertex.proofs.Arrays.lone.Goals.{then-v-self-via-then-v-self, then-v-self-via-else-v-self+then-contains}

pub returns-then-v-self-clause-lone : goal.returns-then-v-self-clause-lone
returns-then-v-self-clause-lone c =
    let a = c.args in let u = a.self.now in
    elim c.then-v-self.branch [
      | then-v-self-via-then-v-self w ↦ lone_root u a.v w.if-v-self.true
      | then-v-self-via-else-v-self+then-contains w ↦
          let k = w.if-contains.ensures.cases in let f = in_front u.links.now a.v k.0 k.1 in
          lone_child u a.v k.0 f.0 (rw f.1 at (k.2 0))
    ]

pub returns-in_err-i-clause-lone : goal.returns-in_err-i-clause-lone
returns-in_err-i-clause-lone c =
    let a = c.args in let u = a.self.now in
    let f = IsFirst-from_position _ _ _ (λ h. eqb h a.v ≡ true) (λ h. eqb h a.v ≡ false) c.in_err-i.ensures.ran (YieldsList-from_slice u.homes.now cc) (λ x q k. search (rules, tests)) (λ x q k. search (rules, tests)) in
    rw c.from_residual.ensures (lone_none u a.v (λ i l. f i 0 (omega arith) l))

pub returns-then-contains-2-clause-lone : goal.returns-then-contains-2-clause-lone
returns-then-contains-2-clause-lone c =
    let a = c.args in let u = a.self.now in let i = c.in_ok-i in
    let f = IsFirst-from_position _ _ _ (λ h. eqb h a.v ≡ true) (λ h. eqb h a.v ≡ false) i.ensures.ran (YieldsList-from_slice u.homes.now cc) (λ x q k. search (rules, tests)) (λ x q k. search (rules, tests)) in
    let k = c.if-contains-2.ensures.cases in
    let l : i.i + 1 + k.0 < length u.homes.now = omega (arith, k.1, behind_length u.homes.now (i.i + 1)) in
    lone_two u a.v i.i f.0 (f.1 0) (λ j l. f.2 j 0 (omega arith) l) (i.i + 1 + k.0) (omega arith) l (rw (behind u.homes.now (i.i + 1) k.0 l) at (k.2 0))

pub returns-clause-lone : goal.returns-clause-lone
returns-clause-lone c =
    let a = c.args in let u = a.self.now in let i = c.in_ok-i in
    let f = IsFirst-from_position _ _ _ (λ h. eqb h a.v ≡ true) (λ h. eqb h a.v ≡ false) i.ensures.ran (YieldsList-from_slice u.homes.now cc) (λ x q k. search (rules, tests)) (λ x q k. search (rules, tests)) in
    let none = c.if-contains.ensures.cases in let last = c.if-contains-2.ensures.cases in
    lone_one u a.v i.i f.0 (f.1 0) (λ j l. f.2 j 0 (omega arith) l) (omega (arith, c.if-v-self.false))
    (λ k l. rw (get_or-take a.v u.links.now k 0 l) at (none k 0 (omega arith) (omega (arith, length-take a.v u.links.now))))
    (λ j up l.
    let far : i.i + 1 + (j - (i.i + 1)) ≡ j = omega arith in
    rw (behind u.homes.now (i.i + 1) (j - (i.i + 1)) (omega arith), far) at (last (j - (i.i + 1)) 0 (omega arith) (omega (arith, behind_length u.homes.now (i.i + 1)))))
