use mathlib.Core.Path.{◌≡◌, refl, sym}
use native.Mathlib.Omega.{arith}
use Rattle.base_lists.specs.Below.{all_below}
use Rattle.plan_check.proofs.SumLaws.{slots-over, slots-under, slots-more}
use borrow.Author.Rules.{rules}
use Rattle.plan_check.proofs.feasible.slots_fit.Goals as goal

pub loop-slot-init : goal.loop-slot-init
unfolding all_below
loop-slot-init c =
    (search rules, refl)

pub returns-then-choosers-slot_min : goal.returns-then-choosers-slot_min
returns-then-choosers-slot_min c =
    slots-over _ _ _ _ _ c.loop-slot-test.true refl c.if-choosers-slot_min.true

pub returns-then-slot_max-slot : goal.returns-then-slot_max-slot
returns-then-slot_max-slot c =
    slots-under _ _ _ _ _ c.loop-slot-test.true refl c.if-choosers-slot_min.false refl c.if-slot_max-slot.true

pub loop-slot-preserved : goal.loop-slot-preserved
loop-slot-preserved c =
    (search rules, slots-more _ _ _ _ c.loop-slot.invariant.1 refl c.if-choosers-slot_min.false refl c.if-slot_max-slot.false)

pub returns : goal.returns
returns c =
    let e : c.loop-slot.slot ≡ c.args.slots = omega (arith, c.loop-slot-test.false, c.loop-slot.invariant.0) in
    sym (rw e at c.loop-slot.invariant.1)
