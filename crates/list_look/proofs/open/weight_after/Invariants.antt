-- The loop's invariant: what the choices passed weigh, with those from here on, is the whole.
use mathlib.Core.Path.{◌≡◌}
use Prim.Native.Nat.{◌+◌, ◌*◌, ◌≤◌}
use Rattle.list_tables.specs.steps.Tables.{weight_at}
use Rattle.list_rule_tables.specs.steps.Enough.{weight_after}
use Rattle.list_look.proofs.open.weight_after.Given as goal

abbrev pub invariant-loop-choice : goal.invariant-loop-choice
invariant-loop-choice l =
    (l.spare ≤ l.choice * 65535) × (l.spare + weight_after (weight_at l.tables) l.choices l.choice ≡ weight_after (weight_at l.tables) l.choices l.from)
