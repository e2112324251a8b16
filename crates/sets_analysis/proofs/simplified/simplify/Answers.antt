use native.Mathlib.Omega.{arith}
use lib.Seq.{length-take-le}
use Rattle.sets_analysis.proofs.SimplifiedSteps.{simplifies_start, simplifies_part, simplifies_done, simplifies_front}
use Rattle.sets_analysis.proofs.simplified.simplify.Goals as goal

pub loop-index-init : goal.loop-index-init
loop-index-init c = simplifies_start _ _ _

pub drop_at-left-requires : goal.drop_at-left-requires
drop_at-left-requires c =
    let s = c.loop-index.invariant in
    let n = length-take-le c.loop-index.left c.loop-index.masks (omega (arith, s.fewer, s.same-masks)) in
    (simplifies_front _ _ _ _ _ _ _ s c.requires.paired (omega arith) c.requires.few, omega (arith, n, c.loop-index-test.true))

pub loop-index-smaller : goal.loop-index-smaller
loop-index-smaller c =
    let s = c.loop-index.invariant in
    let n = length-take-le c.loop-index.left c.loop-index.masks (omega (arith, s.fewer, s.same-masks)) in
    omega (arith, c.drop_at-left.ensures.0, n, c.loop-index-test.true)

pub loop-index-preserved : goal.loop-index-preserved
loop-index-preserved c =
    simplifies_part _ _ _ _ _ _ _ c.loop-index.invariant c.requires.paired (omega arith) _ _ _ c.drop_at-left.ensures c.loop-index-test.true c.drop_at-left.auto.masks c.drop_at-left.auto.levels

pub shape_of-masks : goal.shape_of-masks
shape_of-masks c = c.loop-index.invariant.same-masks

pub shape_of-levels : goal.shape_of-levels
shape_of-levels c = c.loop-index.invariant.same-levels

pub returns : goal.returns
returns c = simplifies_done _ _ _ _ _ _ _ c.loop-index.invariant c.loop-index-test.false
