-- What is decided when a new depth begins, and what each slot has of it.
use Rattle.std.specs.Prelude.{List, ℕ, get_or}
use Rattle.search_candidates.specs.declared.loads.Loads as lent

-- each choice's decision: a slot, 255 for omitted or 254 for undecided; and each slot's sum of min, sum of
-- max and count of choices
pub record Loads : Type 0 where
  pub decisions : List ℕ
  pub slot_min : List ℕ
  pub slot_max : List ℕ
  pub sizes : List ℕ

abbrev pub loads_of : List ℕ → List ℕ → List ℕ → List ℕ → Loads
loads_of decisions slot_min slot_max sizes =
    record { decisions = decisions; slot_min = slot_min; slot_max = slot_max; sizes = sizes }

-- what a call is lent of it
abbrev pub loads_lent : lent.Loads → Loads
loads_lent loads = loads_of loads.decisions.now loads.slot_min.now loads.slot_max.now loads.sizes.now

-- the 'min sum' of a slot so far
unfoldable pub min_of : Loads → ℕ → ℕ
min_of loads slot = get_or loads.slot_min slot 0

-- the 'slot max' of a slot so far
unfoldable pub max_of : Loads → ℕ → ℕ
max_of loads slot = get_or loads.slot_max slot 0

-- the count of choices in a slot so far
unfoldable pub size_of : Loads → ℕ → ℕ
size_of loads slot = get_or loads.sizes slot 0
