use mathlib.Core.Path.{refl}
use native.Mathlib.Omega.{arith}
use Rattle.base_lists.proofs.Through.{all_none, all_done}
use Rattle.roster_check.proofs.SeatLaws.{part_at, part_small, one-meets, none-meets}
use Rattle.roster_check.proofs.seats.all_apart.Goals as goal

pub loop-chooser-init : goal.loop-chooser-init
loop-chooser-init c =
    all_none _

pub overflow_mul-at : goal.overflow_mul-at
overflow_mul-at c =
    omega (arith, part_small _ _ _ _ refl _ c.requires.seated c.loop-chooser-test.true)

pub overflow_add-end : goal.overflow_add-end
overflow_add-end c =
    omega (arith, part_small _ _ _ _ refl _ c.requires.seated c.loop-chooser-test.true)

pub returns-then-not-slots_apart : goal.returns-then-not-slots_apart
returns-then-not-slots_apart c =
    one-meets _ _ _ _ _ (part_at _ _ _ _ refl) c.slots_apart.ensures c.loop-chooser-test.true (c.if-not-slots_apart.true)

pub loop-chooser-preserved : goal.loop-chooser-preserved
loop-chooser-preserved c =
    none-meets _ c.args.sheet.now.counts.choosers _ _ _ (part_at _ _ _ _ refl) c.slots_apart.ensures (c.if-not-slots_apart.false) c.loop-chooser.invariant

pub returns : goal.returns
returns c =
    all_done _ _ _ (omega arith) c.loop-chooser-test.false c.loop-chooser.invariant
