-- The loop's invariant: the slots that the rows passed name.
use mathlib.Core.Path.{◌≡◌}
use lib.ListN.{take}
use Rattle.base_choice_sets.specs.Sets.{set_of}
use Rattle.list_twins.specs.steps.Twins.{named}
use Rattle.list_twins.proofs.names.named_slots.Given as goal

abbrev pub invariant-loop-number : goal.invariant-loop-number
invariant-loop-number l = l.names ≡ set_of 64 (named (take l.choice l.plan) (take l.number-index l.rows))
