-- Each byte that begins a token, and its token; any other ends the walk.
use Rattle.std.proofs.Common.{◌≡◌, unwrap_or}
use mathlib.Core.Path.{refl}
use native.Mathlib.Omega.{arith}
use Rattle.newick_text.proofs.Laws.{digit_yes, digit_low, digit_high}
use Rattle.newick_walk.specs.Machine.{walk_in}
use Rattle.newick_walk.proofs.Steps.{stops_other}
use Rattle.newick_walk.proofs.Turns.{going_from, going_ended, step_open, step_close, step_comma, step_weight, step_leaf}
use Rattle.newick_walk.proofs.walk_on.Goals as goal

pub loop-w-init : goal.loop-w-init
loop-w-init c =
    let a = c.args in let w = walk_in a.start in (going_from a.n a.t.now w w refl, omega (arith, c.requires.1, c.requires.2), omega (arith, c.requires.1))

pub loop-w-preserved-in-40-1 : goal.loop-w-preserved-in-40-1
loop-w-preserved-in-40-1 c =
    let a = c.args in let l = c.loop-w in let w = walk_in l.w in let b = unwrap_or c.peek.result 256 in let k : b ≡ c.in-Some-eq40.field-0 = cc in
    let s = step_open a.n a.t.now (walk_in a.start) w (walk_in c.open.new.self) b c.requires.0 l.w.table.room c.peek.ensures l.invariant.0 l.invariant.1 (omega arith) c.open.ensures in
    (s.going, s.shallow, s.within)

pub loop-w-smaller-in-40-1 : goal.loop-w-smaller-in-40-1
loop-w-smaller-in-40-1 c =
    let a = c.args in let l = c.loop-w in let w = walk_in l.w in let b = unwrap_or c.peek.result 256 in let k : b ≡ c.in-Some-eq40.field-0 = cc in
    let s = step_open a.n a.t.now (walk_in a.start) w (walk_in c.open.new.self) b c.requires.0 l.w.table.room c.peek.ensures l.invariant.0 l.invariant.1 (omega arith) c.open.ensures in
    omega (arith, s.on, s.within)

pub loop-w-preserved-in-41-1 : goal.loop-w-preserved-in-41-1
loop-w-preserved-in-41-1 c =
    let a = c.args in let l = c.loop-w in let w = walk_in l.w in let b = unwrap_or c.peek.result 256 in let k : b ≡ c.in-Some-eq41.field-0 = cc in
    let s = step_close a.n a.t.now (walk_in a.start) w (walk_in c.close.new.self) b c.requires.0 l.w.table.room c.peek.ensures l.invariant.0 l.invariant.1 (omega arith) c.close.ensures in
    (s.going, s.shallow, s.within)

pub loop-w-smaller-in-41-1 : goal.loop-w-smaller-in-41-1
loop-w-smaller-in-41-1 c =
    let a = c.args in let l = c.loop-w in let w = walk_in l.w in let b = unwrap_or c.peek.result 256 in let k : b ≡ c.in-Some-eq41.field-0 = cc in
    let s = step_close a.n a.t.now (walk_in a.start) w (walk_in c.close.new.self) b c.requires.0 l.w.table.room c.peek.ensures l.invariant.0 l.invariant.1 (omega arith) c.close.ensures in
    omega (arith, s.on, s.within)

pub loop-w-preserved-in-44-1 : goal.loop-w-preserved-in-44-1
loop-w-preserved-in-44-1 c =
    let a = c.args in let l = c.loop-w in let w = walk_in l.w in let b = unwrap_or c.peek.result 256 in let k : b ≡ c.in-Some-eq44.field-0 = cc in
    let s = step_comma a.n a.t.now (walk_in a.start) w (walk_in c.pass.new.self) b c.requires.0 l.w.table.room c.peek.ensures l.invariant.0 l.invariant.1 (omega arith) c.pass.ensures in
    (s.going, s.shallow, s.within)

pub loop-w-smaller-in-44-1 : goal.loop-w-smaller-in-44-1
loop-w-smaller-in-44-1 c =
    let a = c.args in let l = c.loop-w in let w = walk_in l.w in let b = unwrap_or c.peek.result 256 in let k : b ≡ c.in-Some-eq44.field-0 = cc in
    let s = step_comma a.n a.t.now (walk_in a.start) w (walk_in c.pass.new.self) b c.requires.0 l.w.table.room c.peek.ensures l.invariant.0 l.invariant.1 (omega arith) c.pass.ensures in
    omega (arith, s.on, s.within)

pub loop-w-preserved-in-58-1 : goal.loop-w-preserved-in-58-1
loop-w-preserved-in-58-1 c =
    let a = c.args in let l = c.loop-w in let w = walk_in l.w in let b = unwrap_or c.peek.result 256 in let k : b ≡ c.in-Some-eq58.field-0 = cc in
    let x = c.number-x in
    let s = step_weight a.n a.t.now (walk_in a.start) w (walk_in c.weigh.new.self) b c.requires.0 l.w.table.room c.peek.ensures l.invariant.0 l.invariant.1 x.result.0 x.result.1 (omega arith) x.ensures.0 x.ensures.1 c.weigh.ensures c.weigh.new.self.table.room in
    (s.going, s.shallow, s.within)

pub loop-w-smaller-in-58-1 : goal.loop-w-smaller-in-58-1
loop-w-smaller-in-58-1 c =
    let a = c.args in let l = c.loop-w in let w = walk_in l.w in let b = unwrap_or c.peek.result 256 in let k : b ≡ c.in-Some-eq58.field-0 = cc in
    let x = c.number-x in
    let s = step_weight a.n a.t.now (walk_in a.start) w (walk_in c.weigh.new.self) b c.requires.0 l.w.table.room c.peek.ensures l.invariant.0 l.invariant.1 x.result.0 x.result.1 (omega arith) x.ensures.0 x.ensures.1 c.weigh.ensures c.weigh.new.self.table.room in
    omega (arith, s.on, s.within)

pub loop-w-preserved : goal.loop-w-preserved
loop-w-preserved c =
    let a = c.args in let l = c.loop-w in let w = walk_in l.w in let b = unwrap_or c.peek.result 256 in let k : b ≡ c.in-Some-48-to-57.field-0 = cc in
    let x = c.number-x-in-Some-48-to-57 in
    let s = step_leaf a.n a.t.now (walk_in a.start) w (walk_in c.leaf.new.self) b c.requires.0 l.w.table.room c.peek.ensures l.invariant.0 l.invariant.1 x.result.0 x.result.1 (digit_yes b (omega arith) (omega arith)) x.ensures.0 x.ensures.1 c.leaf.ensures in
    (s.going, s.shallow, s.within)

pub loop-w-smaller : goal.loop-w-smaller
loop-w-smaller c =
    let a = c.args in let l = c.loop-w in let w = walk_in l.w in let b = unwrap_or c.peek.result 256 in let k : b ≡ c.in-Some-48-to-57.field-0 = cc in
    let x = c.number-x-in-Some-48-to-57 in
    let s = step_leaf a.n a.t.now (walk_in a.start) w (walk_in c.leaf.new.self) b c.requires.0 l.w.table.room c.peek.ensures l.invariant.0 l.invariant.1 x.result.0 x.result.1 (digit_yes b (omega arith) (omega arith)) x.ensures.0 x.ensures.1 c.leaf.ensures in
    omega (arith, s.on, s.within)

pub returns-in_default : goal.returns-in_default
returns-in_default c =
    let a = c.args in let l = c.loop-w in let b = unwrap_or c.peek.result 256 in let k : b ≡ c.in_default.field-0 = cc in
    going_ended a.n a.t.now (walk_in a.start) (walk_in l.w) b c.peek.ensures l.invariant.0 (stops_other b (digit_low b (omega arith)) (λ e. omega arith) (λ e. omega arith) (λ e. omega arith) (λ e. omega arith))

pub returns-in_default-2 : goal.returns-in_default-2
returns-in_default-2 c =
    let a = c.args in let l = c.loop-w in let b = unwrap_or c.peek.result 256 in let k : b ≡ c.in_default.field-0 = cc in
    going_ended a.n a.t.now (walk_in a.start) (walk_in l.w) b c.peek.ensures l.invariant.0 (stops_other b (digit_high b (omega arith)) (λ e. omega arith) (λ e. omega arith) (λ e. omega arith) (λ e. omega arith))

pub returns-in_default-3 : goal.returns-in_default-3
returns-in_default-3 c =
    let a = c.args in let l = c.loop-w in let b = unwrap_or c.peek.result 256 in let k : b ≡ 256 = cc in
    going_ended a.n a.t.now (walk_in a.start) (walk_in l.w) b c.peek.ensures l.invariant.0 (stops_other b (digit_high b (omega arith)) (λ e. omega arith) (λ e. omega arith) (λ e. omega arith) (λ e. omega arith))
