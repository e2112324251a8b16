use mathlib.Core.Path.{refl, ◌≡◌}
use native.Mathlib.Omega.{arith}
use Rattle.list_tables.specs.steps.Tables.{written}
use Rattle.list_rule_counts.proofs.StepLaws.{written_step}
use Rattle.list_rule_counts.proofs.BoundLaws.{beyond-in}
use Rattle.list_rule_counts.proofs.bounds.each_beyond.Goals as goal

pub loop-slot-init : goal.loop-slot-init
unfolding written
loop-slot-init c =
    refl

pub loop-slot-preserved : goal.loop-slot-preserved
loop-slot-preserved c =
    written_step _ _ _ _ _ c.loop-slot.invariant (beyond-in _ _ _ _ c.saturating_sub.ensures)

pub returns : goal.returns
returns c =
    let e : c.loop-slot.slot ≡ c.args.slots = omega (arith, c.loop-slot-test.false, c.loop-slot.auto.slot-end) in rw e at c.loop-slot.invariant
