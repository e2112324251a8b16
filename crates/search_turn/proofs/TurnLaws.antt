-- A turn, for each way through the code.
use mathlib.Core.Path.{◌≡◌, ap}
use mathlib.Core.Bool.{false}
use mathlib.Core.List.{List}
use Prim.Native.Nat.{ℕ, ◌+◌, ◌≤◌, ◌<◌}
use borrow.Author.Tests.{lt-ltb, le-ltb, le-leb, lt-leb, eq-eqb, ne_eqb}
use lib.Dec.{leb}
use lib.ListN.{get_or, set}
use Rattle.search_turn.specs.declared.state.SearchState.{SearchState}
use Rattle.search_turn.specs.steps.State.{down_of, back_of, closes_at, turning, turn_of}

module _ (depth : ℕ) (next end : List ℕ) where
  pub closes-not : (depth ≡ 0 → ⊥) → false ≡ closes_at depth next end
  unfolding closes_at
  closes-not h = rw (ne_eqb _ _ h)

  pub closes-first : depth ≡ 0 → leb (get_or end 0 0) (get_or next 0 0) ≡ closes_at depth next end
  unfolding closes_at
  closes-first h = rw (eq-eqb _ _ h)

module _ (mins maxs order : List ℕ) (state : SearchState) (pool next end : List ℕ) where
  pub turn-deep : 64 < state.depth → turning state next ≡ turn_of mins maxs order state pool next end
  unfolding turn_of
  turn-deep h = rw (lt-ltb _ _ h)

  module _ (few : state.depth ≤ 64) where
    pub turn-back : (after : SearchState) → get_or end state.depth 0 ≤ get_or next state.depth 0 → after ≡ back_of mins maxs order state → turning after next ≡ turn_of mins maxs order state pool next end
    unfolding turn_of
    turn-back after g e = rw (le-ltb 64 state.depth few, le-leb _ _ g) (ap (λ (s : SearchState). turning s next) e)

    module _ (g : get_or next state.depth 0 < get_or end state.depth 0) where
      pub turn-past : 1625 ≤ get_or next state.depth 0 → turning state next ≡ turn_of mins maxs order state pool next end
      unfolding turn_of
      turn-past p = rw (le-ltb 64 state.depth few, lt-leb _ _ g, le-leb _ _ p)

      pub turn-down : (after : SearchState) → get_or next state.depth 0 < 1625 → after ≡ down_of mins maxs order state (get_or pool (get_or next state.depth 0) 0)
          → turning after (set next state.depth (get_or next state.depth 0 + 1)) ≡ turn_of mins maxs order state pool next end
      unfolding turn_of
      turn-down after p e =
          rw (le-ltb 64 state.depth few, lt-leb _ _ g, lt-leb 1625 _ p) (ap (λ (s : SearchState). turning s (set next state.depth (get_or next state.depth 0 + 1))) e)
