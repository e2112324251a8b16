-- The loop's invariant: the slots passed that stay.
use Rattle.base_choice_sets.specs.Sets.{set_of}
use Rattle.list_rule_tables.specs.steps.Lent.{stays_by}
use mathlib.Core.Path.{◌≡◌}
use Rattle.list_rule_tables.proofs.rule.left_of.Given as goal

abbrev pub invariant-loop-slot : goal.invariant-loop-slot
invariant-loop-slot l =
    l.kept ≡ set_of l.slot (stays_by l.one l.weighed l.weight l.most l.domain)
