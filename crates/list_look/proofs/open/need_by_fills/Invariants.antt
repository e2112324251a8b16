-- The loop's invariant: what the lacks of the slots passed weigh.
use mathlib.Core.Path.{◌≡◌}
use Prim.Native.Nat.{◌*◌, ◌≤◌}
use Rattle.list_tables.specs.steps.Tables.{entry_at}
use Rattle.list_rule_tables.specs.steps.Enough.{lacks_at, need_of}
use Rattle.list_look.proofs.open.need_by_fills.Given as goal

abbrev pub invariant-loop-slot : goal.invariant-loop-slot
invariant-loop-slot l =
    (l.need ≤ l.slot * 65535) × (l.need ≡ need_of (entry_at l.tables) l.slot 1 l.from (lacks_at l.next.choosers l.next.slots l.next.sums.now.maxs))
