use Rattle.std.proofs.Common.{◌≡◌, sym, ap, ◌∙◌, arith, rules}
use Rattle.test_cases.specs.steps.Alike.{alike}
use Rattle.test_cases.proofs.SameLaws.{read_at, alike-start, alike_next, alike-fails}
use Rattle.test_cases.proofs.same.Goals as goal

pub loop-i-init : goal.loop-i-init
loop-i-init c = (search rules, alike-start _ _ _ _)

pub returns-then-byte : goal.returns-then-byte
returns-then-byte c =
    let s = c.args in
    let x = read_at s.one.now c.byte.ensures c.plus.ensures in
    let y = read_at s.other.now c.byte-in-loop-i.ensures c.plus-in-loop-i.ensures in
    alike-fails _ _ _ _ _ c.loop-i.i c.loop-i-test.true (λ e. c.if-byte.true (x ∙ e ∙ sym y))

pub loop-i-preserved : goal.loop-i-preserved
loop-i-preserved c =
    let s = c.args in
    let x = read_at s.one.now c.byte.ensures c.plus.ensures in
    let y = read_at s.other.now c.byte-in-loop-i.ensures c.plus-in-loop-i.ensures in
    (search rules, alike_next _ _ _ _ c.loop-i.i c.loop-i.invariant.1 (sym x ∙ c.if-byte.false ∙ y))

pub returns : goal.returns
returns c =
    let l = c.loop-i in
    let s = c.args in
    let e : l.i ≡ s.n = omega (arith, l.invariant.0, c.loop-i-test.false) in
    sym l.invariant.1 ∙ ap (alike s.one.now s.from s.other.now s.at) e
