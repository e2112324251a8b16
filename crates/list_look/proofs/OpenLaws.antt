-- The places that are open to the next choice.
use mathlib.Core.Path.{◌≡◌, sym, ◌∙◌}
use mathlib.Core.Bool.{true}
use mathlib.Core.List.{List}
use Prim.Native.Nat.{ℕ, ◌+◌, ◌≤◌}
use native.Mathlib.Omega.{arith}
use borrow.Author.Tests.{le-leb}
use lib.ListN.{get_or}
use Rattle.base_lists.proofs.Below.{and_left}
use Rattle.day_rows.specs.declared.check.Counts.{Counts}
use Rattle.base_choice_sets.specs.Sets.{has}
use Rattle.base_choice_sets.proofs.SetLaws.{has-set}
use Rattle.list_nodes.specs.steps.Walk.{place_of, place_fits}
use Rattle.list_rule_tables.specs.steps.Enough.{enough_places}
use Rattle.list_look.specs.steps.Open.{open_at, open_places}

module _ (entry : ℕ → ℕ → ℕ → ℕ) (weight : ℕ → ℕ → ℕ) (counts : Counts) (mins maxs optional : List ℕ) (choice : ℕ) (sums fills : List ℕ) (domain : ℕ) (few : counts.slots ≤ 24) where
  -- the set of open places has the places that are open
  pub open_has : (at : ℕ) → at ≤ counts.slots
      → has (open_places entry weight counts mins maxs optional choice sums fills domain) at ≡ open_at entry weight counts mins maxs optional choice sums fills domain at
  unfolding open_places
  open_has at h = rw (le-leb _ _ few) (has-set (counts.slots + 1) (open_at entry weight counts mins maxs optional choice sums fills domain) at (omega arith))

  -- a place that is open fits
  pub open_fits : (at : ℕ) → at ≤ counts.slots → has (open_places entry weight counts mins maxs optional choice sums fills domain) at ≡ true
      → place_fits counts.slots counts.choosers mins optional sums choice (place_of counts.slots at) ≡ true
  unfolding open_at
  open_fits at h t =
      and_left (place_fits counts.slots counts.choosers mins optional sums choice (place_of counts.slots at))
      (has (enough_places entry weight counts choice (get_or maxs choice 0) fills domain) at) (sym (open_has at h) ∙ t)
