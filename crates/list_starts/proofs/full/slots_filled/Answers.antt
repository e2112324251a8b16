use mathlib.Core.Path.{◌≡◌, refl}
use native.Mathlib.Omega.{arith}
use borrow.Author.Tests.{le-leb}
use lib.Dec.{leb}
use lib.ListN.{get_or}
use Rattle.base_lists.specs.Below.{all_below}
use Rattle.base_lists.proofs.Below.{all_more}
use Rattle.list_starts.proofs.FullLaws.{too_many, not-filled, all-filled}
use Rattle.list_starts.proofs.full.slots_filled.Goals as goal

pub returns-then-slots-gt24 : goal.returns-then-slots-gt24
returns-then-slots-gt24 c = too_many _ _ _ c.if-slots-gt24.true

pub loop-slot-init : goal.loop-slot-init
unfolding all_below
loop-slot-init c = refl

pub returns-then-slot_max-slot : goal.returns-then-slot_max-slot
returns-then-slot_max-slot c = not-filled _ _ _ c.if-slots-gt24.false _ c.loop-slot-test.true c.if-slot_max-slot.true

pub loop-slot-preserved : goal.loop-slot-preserved
loop-slot-preserved c =
    all_more (λ s. leb c.args.choosers (get_or c.args.slot_max.now s 0)) _ c.loop-slot.invariant (le-leb _ _ c.if-slot_max-slot.false)

pub returns : goal.returns
returns c =
    let e : c.loop-slot.slot ≡ c.args.slots = omega (arith, c.loop-slot-test.false) in
    all-filled _ _ _ c.if-slots-gt24.false (rw e at c.loop-slot.invariant)
