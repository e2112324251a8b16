use Rattle.reduce_added.proofs.Joining.{joins-start, joins-next, joins-end}
use Rattle.reduce_added.proofs.groups.join_rows.Goals as goal

pub loop-row-init : goal.loop-row-init
loop-row-init c = joins-start _ _ c.new-state.ensures

pub loop-row-preserved : goal.loop-row-preserved
loop-row-preserved c =
    let l = c.loop-row in
    joins-next _ _ l.state l.row-index c.loop-row-test.true l.invariant c.join_one-state.ensures

pub returns : goal.returns
returns c = joins-end _ _ _ _ c.loop-row-test.false c.loop-row.invariant
