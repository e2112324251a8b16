-- The loop's invariant: what the free choices passed weigh, and the heaviest of them.
use mathlib.Core.Path.{◌≡◌}
use Prim.Native.Nat.{◌*◌, ◌≤◌}
use Rattle.list_tables.specs.steps.Tables.{weight_at}
use Rattle.list_rule_tables.specs.steps.Rule.{spare_of}
use Rattle.list_rule_tables.specs.steps.Heaviest.{heaviest_of}
use Rattle.list_rule_tables.proofs.rule.weigh.Given as goal

abbrev pub invariant-loop-choice : goal.invariant-loop-choice
invariant-loop-choice l =
    ((l.spare ≤ l.choice * 65535) × (l.heaviest ≤ 65535)) × ((l.spare ≡ spare_of l.choice (weight_at l.one.tables.now) l.one.table l.free) × (l.heaviest ≡ heaviest_of l.choice (weight_at l.one.tables.now) l.one.table l.free))
