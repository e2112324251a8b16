use native.Mathlib.Omega.{arith}
use Rattle.list_rule_counts.proofs.BoundLaws.{apart-start, apart-step, apart-not, apart-all}
use Rattle.list_rule_counts.proofs.bounds.some_crossed.Goals as goal

pub loop-slot-init : goal.loop-slot-init
loop-slot-init c =
    apart-start c.args.least.now c.args.under.now

pub returns-then-under-slot : goal.returns-then-under-slot
returns-then-under-slot c =
    apart-not c.args.least.now c.args.under.now _ _ c.loop-slot-test.true c.if-under-slot.true

pub loop-slot-preserved : goal.loop-slot-preserved
loop-slot-preserved c =
    apart-step c.args.least.now c.args.under.now _ c.loop-slot.invariant c.if-under-slot.false

pub returns : goal.returns
returns c =
    apart-all c.args.least.now c.args.under.now _ _ (omega (arith, c.loop-slot-test.false, c.loop-slot.auto.slot-end)) c.loop-slot.invariant
