use Rattle.sets_analysis.proofs.BoundSteps.{bound-start, bound-on, bound-done}
use Rattle.sets_analysis.proofs.bound.bound_of.Goals as goal

pub loop-level-init : goal.loop-level-init
loop-level-init c = bound-start _ _ _ _ _ c.last_level-bound.ensures

pub lowered-bound-requires : goal.lowered-bound-requires
lowered-bound-requires c = c.requires.0

pub loop-level-preserved : goal.loop-level-preserved
loop-level-preserved c =
    bound-on _ _ _ _ _ _ _ c.loop-level-test.true c.lowered-bound.ensures c.loop-level.invariant

pub returns : goal.returns
returns c = bound-done _ _ _ _ _ _ c.loop-level-test.false c.loop-level.invariant
