use mathlib.Core.Path.{refl, ◌≡◌}
use native.Mathlib.Omega.{arith}
use Rattle.list_tables.specs.steps.Tables.{written}
use Rattle.list_rule_counts.proofs.StepLaws.{written_step, fewest-in}
use Rattle.list_rule_counts.proofs.counts.least_counts.Goals as goal

pub loop-slot-init : goal.loop-slot-init
unfolding written
loop-slot-init c =
    refl

pub overflow_add-least : goal.overflow_add-least
overflow_add-least c =
    omega (arith, c.least_at-more.ensures.1, c.requires.1 _ c.loop-slot-test.true)

pub loop-slot-preserved : goal.loop-slot-preserved
loop-slot-preserved c =
    written_step _ _ _ _ _ c.loop-slot.invariant (fewest-in _ _ _ _ _ _ c.least_at-more.ensures.0)

pub returns : goal.returns
returns c =
    let e : c.loop-slot.slot ≡ c.args.slots = omega (arith, c.loop-slot-test.false, c.loop-slot.auto.slot-end) in rw e at c.loop-slot.invariant
