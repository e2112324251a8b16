use Rattle.std.proofs.Common.{sym, refl, ◌∙◌}
use Rattle.test_cases.proofs.FillLaws.{filled_more, filled-not, filled-end}
use Rattle.test_cases.proofs.is_filled.Goals as goal

pub loop-i-init : goal.loop-i-init
loop-i-init c = refl

pub returns-then-bytes-i : goal.returns-then-bytes-i
returns-then-bytes-i c =
    let l = c.loop-i in
    sym (filled-not _ l.i _ c.loop-i-test.true c.if-bytes-i.true) ∙ l.invariant

pub loop-i-preserved : goal.loop-i-preserved
loop-i-preserved c =
    let l = c.loop-i in
    filled_more _ l.i _ c.loop-i-test.true c.if-bytes-i.false ∙ l.invariant

pub returns : goal.returns
returns c =
    let l = c.loop-i in
    sym (filled-end _ l.i _ c.loop-i-test.false) ∙ l.invariant
