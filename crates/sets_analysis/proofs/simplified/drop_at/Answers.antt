use mathlib.Core.Path.{sym, ◌∙◌}
use native.Mathlib.Omega.{arith}
use Rattle.sets_analysis.proofs.SimplifiedSteps.{drops_start, drops_out, drops_in, drops_done}
use Rattle.sets_analysis.proofs.simplified.drop_at.Goals as goal

pub loop-i-init : goal.loop-i-init
loop-i-init c = drops_start _ _ _ _

pub loop-i-preserved-then-not-stays_beside : goal.loop-i-preserved-then-not-stays_beside
loop-i-preserved-then-not-stays_beside c =
    drops_out _ _ _ _ _ _ _ _ c.loop-i.invariant c.loop-i-test.true (sym c.stays_beside.ensures ∙ c.if-not-stays_beside.true)

pub loop-i-preserved : goal.loop-i-preserved
loop-i-preserved c =
    drops_in _ _ _ _ _ _ _ _ c.loop-i.invariant c.loop-i-test.true (omega arith) (omega (arith, c.requires.0.paired)) (sym c.stays_beside.ensures ∙ c.if-not-stays_beside.false)

pub shape_of-masks : goal.shape_of-masks
shape_of-masks c = c.loop-i.invariant.same-masks

pub shape_of-levels : goal.shape_of-levels
shape_of-levels c = c.loop-i.invariant.same-levels

pub returns : goal.returns
returns c =
    drops_done _ _ _ _ _ _ _ _ c.requires.1 c.loop-i-test.false c.loop-i.invariant
