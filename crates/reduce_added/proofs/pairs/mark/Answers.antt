use mathlib.Core.Path.{◌∙◌}
use Rattle.reduce_added.proofs.Pairing.{pass_step, pass-end}
use Rattle.reduce_added.proofs.pairs.mark.Goals as goal

pub loop-row-preserved : goal.loop-row-preserved
loop-row-preserved c =
    let l = c.loop-row in
    let g = c.named-1.given in
    (g ∙ l.invariant.0, pass_step _ l.named _ l.row-index c.loop-row-test.true g c.mark_one.ensures l.invariant.1)

pub returns : goal.returns
returns c =
    pass-end _ c.loop-row.named c.loop-row.row-index c.loop-row-test.false c.loop-row.invariant.1
