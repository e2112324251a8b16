use mathlib.Core.Path.{◌≡◌}
use native.Mathlib.Omega.{arith}
use Rattle.list_rule_tables.proofs.EnoughPlaces.{need-start}
use Rattle.list_look.proofs.SlotLaws.{need-more}
use Rattle.list_look.proofs.open.need_by_fills.Goals as goal

pub loop-slot-init : goal.loop-slot-init
loop-slot-init c =
    (omega arith, need-start _ _ _ _)

pub lightest-need-requires : goal.lightest-need-requires
lightest-need-requires c =
    (c.requires.1, omega (arith, c.saturating_sub.ensures, c.requires.0))

pub overflow_add-need : goal.overflow_add-need
overflow_add-need c =
    omega (arith, c.loop-slot.invariant.0, c.lightest-need.ensures.1, c.loop-slot-test.true, c.args.next.now.few)

pub loop-slot-preserved : goal.loop-slot-preserved
loop-slot-preserved c =
    (omega (arith, c.loop-slot.invariant.0, c.lightest-need.ensures.1), need-more _ _ _ _ _ _ _ _ _ c.args.next.now.few c.loop-slot-test.true c.loop-slot.invariant.1 c.saturating_sub.ensures c.lightest-need.ensures.0)

pub returns : goal.returns
returns c =
    let e : c.loop-slot.slot ≡ c.args.next.now.slots = omega (arith, c.loop-slot-test.false) in (rw e at c.loop-slot.invariant.1, omega (arith, e, c.loop-slot.invariant.0, c.args.next.now.few))
