-- A turn on the lists of candidates: where each depth's go on, and where they end.
use mathlib.Core.Path.{◌≡◌}
use mathlib.Core.List.{List}
use Prim.Native.Nat.{ℕ, ◌+◌, ◌≤◌, ◌<◌}
use lib.ListN.{get_or, set}
use Rattle.search_turn.specs.declared.state.SearchState.{SearchState}
use Rattle.search_pass.proofs.Counted.{CanDecide, CanClear, WentDown, WentBack}

-- a turn can be made: down where a candidate is left, back where none is
pub record TurnReady (mins maxs order : List ℕ) (state : SearchState) (next end : List ℕ) : Type 0 where
  pub few : state.depth ≤ 64
  pub there : get_or next state.depth 0 < get_or end state.depth 0 → get_or next state.depth 0 < 1625
  pub down : get_or next state.depth 0 < get_or end state.depth 0 → CanDecide mins maxs order state
  pub back : get_or end state.depth 0 ≤ get_or next state.depth 0 → CanClear mins maxs order state

-- the turn made
pub record Turned (mins maxs order : List ℕ) (state : SearchState) (pool next end : List ℕ) (after : SearchState) (next' : List ℕ) : Type 0 where
  pub down : get_or next state.depth 0 < get_or end state.depth 0
      → (next' ≡ set next state.depth (get_or next state.depth 0 + 1)) × WentDown mins maxs order state (get_or pool (get_or next state.depth 0) 0) after
  pub back : get_or end state.depth 0 ≤ get_or next state.depth 0 → (next' ≡ next) × WentBack mins maxs order state after
