-- All, nothing, or the slots that stay.
use Rattle.list_rule_tables.proofs.RuleLaws.{left-all, left-none, left-some}
use Rattle.base_choice_sets.proofs.SetLaws.{set-start, set-step}
use native.Mathlib.Omega.{arith}
use mathlib.Core.Path.{◌≡◌, ◌∙◌}
use Rattle.list_rule_tables.proofs.rule.left_of.Goals as goal

pub returns-then-weight-need : goal.returns-then-weight-need
returns-then-weight-need c =
    left-all _ _ _ _ _ _ _ _ _ _ _ _ c.if-weight-need.true

pub returns-then-spare-need : goal.returns-then-spare-need
returns-then-spare-need c =
    left-none _ _ _ _ _ _ _ _ _ _ _ _ c.if-weight-need.false c.if-spare-need.true

pub loop-slot-init : goal.loop-slot-init
loop-slot-init c =
    set-start _

pub loop-slot-preserved : goal.loop-slot-preserved
loop-slot-preserved c =
    set-step _ _ _ _ _ (omega (arith, c.loop-slot-test.true, c.requires.0)) c.loop-slot.invariant c.slot_stays-stays.ensures c.with_if-kept.ensures

pub returns : goal.returns
returns c =
    let e : c.loop-slot.slot ≡ c.args.slots = omega (arith, c.loop-slot-test.false, c.loop-slot.auto.slot-end) in
    (rw e at c.loop-slot.invariant) ∙ left-some _ _ _ _ _ _ _ _ _ _ _ _ c.if-weight-need.false c.if-spare-need.false
