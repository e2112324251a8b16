use native.Mathlib.Omega.{arith}
use Rattle.thalluscrest_figures.proofs.KindLaws.{kinds-on, kinds-done}
use Rattle.thalluscrest_figures.proofs.day.count_kinds.Goals as goal

pub loop-row-init : goal.loop-row-init
loop-row-init c = (omega arith, omega arith, omega arith)

pub overflow_add-count : goal.overflow_add-count
overflow_add-count c = let l = c.loop-row in let one = c.one_of_kinds-count.ensures.1 in omega (arith, l.invariant.1, one, c.loop-row-test.true)

pub loop-row-preserved : goal.loop-row-preserved
loop-row-preserved c = let a = c.args in let l = c.loop-row in let one = c.one_of_kinds-count.ensures in let t = c.loop-row-test.true in (omega arith, omega (arith, l.invariant.1, one.1), (let s = kinds-on a.low a.high a.rows.now l.row-index t in omega (arith, one.0, s, l.invariant.2)))

pub returns : goal.returns
returns c = let a = c.args in let l = c.loop-row in let d = kinds-done a.low a.high a.rows.now l.row-index c.loop-row-test.false in omega (arith, d, l.invariant.2)
