use native.Mathlib.Omega.{arith}
use Rattle.plan_check.proofs.SumLaws.{room}
use Rattle.plan_check.proofs.KeptLaws.{sizing_start, sizing_skip, sizing_put, sizing_refused, sizing_done}
use Rattle.plan_check.proofs.kept.count_sizes.Goals as goal

pub loop-place-init : goal.loop-place-init
loop-place-init c =
    sizing_start _ _ c.requires.1

pub returns-then-place : goal.returns-then-place
returns-then-place c =
    sizing_refused _ _ _ c.loop-place.invariant c.loop-place-test.true (omega (arith, c.from-slot.ensures, c.if-slot-ge24.true)) c.if-place.true

pub loop-place-preserved-then-slot-ge24 : goal.loop-place-preserved-then-slot-ge24
loop-place-preserved-then-slot-ge24 c =
    sizing_skip _ _ _ c.loop-place.invariant c.loop-place-test.true c.if-place.false

pub add_at-requires : goal.add_at-requires
add_at-requires c =
    (omega (arith, c.if-slot-ge24.false), room (λ choice. 1) _ _ _ _ _ c.loop-place.invariant.counted (λ k. omega arith) (omega (arith, c.requires.0, c.loop-place-test.true)) (omega arith))

pub loop-place-preserved : goal.loop-place-preserved
loop-place-preserved c =
    sizing_put _ _ _ c.loop-place.invariant c.loop-place-test.true _ _ c.from-slot.ensures c.if-slot-ge24.false c.add_at.ensures

pub returns : goal.returns
returns c =
    sizing_done _ _ _ c.loop-place.invariant c.loop-place-test.false
