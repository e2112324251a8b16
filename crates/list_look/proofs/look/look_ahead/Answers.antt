-- The start is dead by tables and counts, or what rule after rule leaves.
use mathlib.Core.Path.{refl}
use Rattle.list_look.proofs.StepLaws.{looked_dead, looked-by}
use Rattle.list_look.proofs.look.look_ahead.Goals as goal

pub returns-then-not-is_alive : goal.returns-then-not-is_alive
returns-then-not-is_alive c =
    looked_dead _ _ _ _ _ _ _ _ refl c.with_decided-seen.ensures c.weigh.ensures c.is_alive.ensures c.if-not-is_alive.true

pub returns : goal.returns
returns c =
    looked-by _ _ _ _ _ _ _ _ refl c.with_decided-seen.ensures c.weigh.ensures c.is_alive.ensures c.if-not-is_alive.false c.narrow_by_slots.ensures c.narrow_by_rows.ensures c.alive_or.ensures
