-- A state whose sums and counts are those of its decisions, and its steps.
use mathlib.Core.Path.{◌≡◌}
use mathlib.Core.Bool.{Bool, true, false}
use mathlib.Core.List.{List}
use Prim.Native.Nat.{ℕ, ◌+◌, ◌-◌, ◌≤◌, ◌<◌, ◌^◌}
use lib.ListN.{length, get_or, set}
use Rattle.base_lists.specs.Flat.{list_below}
use Rattle.plan_check.specs.Plan.{sum_in, count_in}
use Rattle.search_turn.specs.declared.state.SearchState.{SearchState}

-- each slot's sum of min, sum of max and count are those of the decisions
pub record Counted (mins maxs : List ℕ) (state : SearchState) : Type 0 where
  pub entries : length state.decisions ≡ 64
  pub min-sums : state.slot_min ≡ list_below 24 (sum_in mins state.decisions)
  pub max-sums : state.slot_max ≡ list_below 24 (sum_in maxs state.decisions)
  pub counts : state.sizes ≡ list_below 24 (count_in state.decisions)

-- a choice whose min and max are there
pub record Known (mins maxs : List ℕ) (choice : ℕ) : Type 0 where
  pub few : choice < 64
  pub min-there : choice < length mins
  pub max-there : choice < length maxs

-- the state after a decision: the choice's byte is the place, sums and counts are the decisions' again, and
-- depth, its newness and what remains are as told
pub record Moved (mins maxs : List ℕ) (state : SearchState) (choice place depth : ℕ) (new : Bool) (remaining : ℕ) (after : SearchState) : Type 0 where
  pub decisions : after.decisions ≡ set state.decisions choice place
  pub counted : Counted mins maxs after
  pub deep : after.depth ≡ depth
  pub newness : after.is_new ≡ new
  pub remains : after.remaining ≡ remaining

-- a step down can be made: the depth's choice is known and undecided, and its max is part of what remains
pub record CanDecide (mins maxs order : List ℕ) (state : SearchState) : Type 0 where
  pub few : state.depth ≤ 64
  pub there : state.depth < length order
  pub known : Known mins maxs (get_or order state.depth 0)
  pub counted : Counted mins maxs state
  pub undecided : get_or state.decisions (get_or order state.depth 0) 254 ≡ 254
  pub holds : get_or maxs (get_or order state.depth 0) 0 ≤ state.remaining

-- a step back can be made: there is a depth above, its choice is known, and what remains with its max fits
pub record CanClear (mins maxs order : List ℕ) (state : SearchState) : Type 0 where
  pub above : 0 < state.depth
  pub there : state.depth - 1 < length order
  pub known : Known mins maxs (get_or order (state.depth - 1) 0)
  pub counted : Counted mins maxs state
  pub fits : state.remaining + get_or maxs (get_or order (state.depth - 1) 0) 0 < 2 ^ 32

-- the state after a step down, the depth's choice at a place
abbrev pub WentDown : List ℕ → List ℕ → List ℕ → SearchState → ℕ → SearchState → Type 0
WentDown mins maxs order state place after =
    Moved mins maxs state (get_or order state.depth 0) place (state.depth + 1) true (state.remaining - get_or maxs (get_or order state.depth 0) 0) after

-- the state after a step back, the choice above undecided
abbrev pub WentBack : List ℕ → List ℕ → List ℕ → SearchState → SearchState → Type 0
WentBack mins maxs order state after =
    Moved mins maxs state (get_or order (state.depth - 1) 0) 254 (state.depth - 1) false (state.remaining + get_or maxs (get_or order (state.depth - 1) 0) 0) after
