-- The loop's invariant: what the slots passed need.
use Rattle.list_rule_tables.specs.steps.Lent.{needed_by}
use mathlib.Core.Path.{◌≡◌}
use Prim.Native.Nat.{◌*◌, ◌≤◌}
use Rattle.list_rule_tables.proofs.rule.need_of.Given as goal

abbrev pub invariant-loop-slot : goal.invariant-loop-slot
invariant-loop-slot l =
    (l.need ≤ l.slot * 65535) × (l.need ≡ needed_by l.one l.slot)
