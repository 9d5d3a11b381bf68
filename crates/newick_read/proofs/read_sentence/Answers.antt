-- Each way out is a law of what the walk noted.
use Prim.Native.Nat.{◌-◌, ◌^◌}
use mathlib.Core.Path.{◌≡◌, sym, ◌∙◌, ap}
use Rattle.std.specs.Prelude.{Err}
use Rattle.statement.specs.declared.Refusal.{Refusal}
use Rattle.statement.specs.Replies.{reading_said}
use Rattle.newick_walk.specs.Machine.{walk_in}
use Rattle.newick_reading.proofs.Ways.{over, way20, way20', way14, way12, way13, way}
use Rattle.newick_read.proofs.read_sentence.Goals as goal

pub returns-in-Some : goal.returns-in-Some
returns-in-Some c =
    let a = c.args in let w = walk_in c.walk_over-w.result in
    let o = over a.n a.text.now w c.requires.0 c.requires.1 c.requires.2 c.walk_over-w.ensures in
    ap (λ (r : Refusal). reading_said (Err r)) c.at.ensures ∙ way20 a.n a.text.now w o c.in-Some.place c.in-Some.is

pub returns-then-w-full : goal.returns-then-w-full
returns-then-w-full c =
    let a = c.args in let w = walk_in c.walk_over-w.result in
    let o = over a.n a.text.now w c.requires.0 c.requires.1 c.requires.2 c.walk_over-w.ensures in
    ap (λ (r : Refusal). reading_said (Err r)) c.at-then-w-full.ensures ∙ way20' a.n a.text.now w o c.in_default.is (λ z. c.if-w-full.true (z ∙ sym c.full.ensures))

pub returns-in-Some-heavy : goal.returns-in-Some-heavy
returns-in-Some-heavy c =
    let a = c.args in let w = walk_in c.walk_over-w.result in
    let o = over a.n a.text.now w c.requires.0 c.requires.1 c.requires.2 c.walk_over-w.ensures in
    let all : w.met.seen ≡ 2 ^ a.n - 1 = c.if-w-full.false ∙ c.full.ensures in
    ap (λ (r : Refusal). reading_said (Err r)) c.at-in-Some-heavy.ensures ∙ way14 a.n a.text.now w o c.in_default.is all c.in-Some-heavy.place c.in-Some-heavy.is

pub returns-in-Some-bare : goal.returns-in-Some-bare
returns-in-Some-bare c =
    let a = c.args in let w = walk_in c.walk_over-w.result in
    let o = over a.n a.text.now w c.requires.0 c.requires.1 c.requires.2 c.walk_over-w.ensures in
    let all : w.met.seen ≡ 2 ^ a.n - 1 = c.if-w-full.false ∙ c.full.ensures in
    ap (λ (r : Refusal). reading_said (Err r)) c.at-in-Some-bare.ensures ∙ way12 a.n a.text.now w o c.in_default.is all c.in_default-heavy.is c.in-Some-bare.place c.in-Some-bare.is

pub returns-in-Some-twin : goal.returns-in-Some-twin
returns-in-Some-twin c =
    let a = c.args in let w = walk_in c.walk_over-w.result in
    let o = over a.n a.text.now w c.requires.0 c.requires.1 c.requires.2 c.walk_over-w.ensures in
    let all : w.met.seen ≡ 2 ^ a.n - 1 = c.if-w-full.false ∙ c.full.ensures in
    ap (λ (r : Refusal). reading_said (Err r)) c.at-in-Some-twin.ensures ∙ way13 a.n a.text.now w o c.in_default.is all c.in_default-heavy.is c.in_default-bare.is c.in-Some-twin.place (sym c.in-Some-twin.ensures)

pub returns : goal.returns
returns c =
    let a = c.args in let w = walk_in c.walk_over-w.result in
    let o = over a.n a.text.now w c.requires.0 c.requires.1 c.requires.2 c.walk_over-w.ensures in
    let all : w.met.seen ≡ 2 ^ a.n - 1 = c.if-w-full.false ∙ c.full.ensures in
    way a.n a.text.now w o c.in_default.is all c.in_default-heavy.is c.in_default-bare.is c.sorted.result (sym c.in_default-twin.ensures) c.sorted.ensures
