-- A state of the search and its turns, on any input.
use Rattle.std.specs.Prelude.{Bool, true, false, ◌&&◌, cond, List, ℕ, ◌+◌, ◌-◌, ◌^◌, ◌≤◌, eqb, ltb, leb, get_or, set}
use Rattle.search_turn.specs.declared.state.SearchState.{SearchState}

-- ---- sums

-- a sum with an amount more, as much as 32 bits hold
unfoldable pub more_of : ℕ → ℕ → ℕ
more_of sum amount = cond (ltb (2 ^ 32 - 1 - sum) amount) (2 ^ 32 - 1) (sum + amount)

-- the sums with an amount more at a slot; past the slots as they are
unfoldable pub more_at : List ℕ → ℕ → ℕ → List ℕ
more_at sums slot amount = cond (leb 24 slot) sums (set sums slot (more_of (get_or sums slot 0) amount))

-- the sums with an amount less at a slot; past the slots as they are
unfoldable pub less_at : List ℕ → ℕ → ℕ → List ℕ
less_at sums slot amount = cond (leb 24 slot) sums (set sums slot (get_or sums slot 0 - amount))

-- every entry of a list is at most what 16 bits hold
abbrev pub Words : List ℕ → Type 0
Words list = (i : ℕ) → get_or list i 0 ≤ 65535

-- ---- decisions

-- the decisions with a choice at a place; past the choices as they are
unfoldable pub put_at : List ℕ → ℕ → ℕ → List ℕ
put_at decisions choice place = cond (leb 64 choice) decisions (set decisions choice place)

-- the slot of a choice that stands at the place; 24, which is none, past the choices
unfoldable pub slot_at : ℕ → ℕ → ℕ
slot_at choice place = cond (leb 64 choice) 24 place

-- the state with other decisions
abbrev pub with_decisions : SearchState → List ℕ → SearchState
with_decisions state decisions =
    record {
      decisions = decisions;
      slot_min = state.slot_min;
      slot_max = state.slot_max;
      sizes = state.sizes;
      depth = state.depth;
      is_new = state.is_new;
      remaining = state.remaining;
    }

-- the state with another sum of min, sum of max and count of one slot
abbrev pub with_sums : SearchState → ℕ → ℕ → ℕ → ℕ → SearchState
with_sums state slot min max size =
    record {
      decisions = state.decisions;
      slot_min = set state.slot_min slot min;
      slot_max = set state.slot_max slot max;
      sizes = set state.sizes slot size;
      depth = state.depth;
      is_new = state.is_new;
      remaining = state.remaining;
    }

-- the state at another depth
abbrev pub with_depth : SearchState → ℕ → Bool → ℕ → SearchState
with_depth state depth new remaining =
    record {
      decisions = state.decisions;
      slot_min = state.slot_min;
      slot_max = state.slot_max;
      sizes = state.sizes;
      depth = depth;
      is_new = new;
      remaining = remaining;
    }

-- the choice stands at the place; if that is a slot, its sums and count are the more
unfoldable pub decided_of : SearchState → ℕ → ℕ → ℕ → ℕ → SearchState
decided_of state choice place min max =
    cond (leb 64 choice) state
    (let after = with_decisions state (set state.decisions choice place) in
    cond (leb 24 place) after
    (with_sums after place
    (more_of (get_or state.slot_min place 0) min)
    (more_of (get_or state.slot_max place 0) max)
    (more_of (get_or state.sizes place 0) 1)))

-- the choice is undecided again; if it stood in a slot, its sums and count are the less
unfoldable pub cleared_of : SearchState → ℕ → ℕ → ℕ → SearchState
cleared_of state choice min max =
    cond (leb 64 choice) state
    (let after = with_decisions state (set state.decisions choice 254) in
    let place = get_or state.decisions choice 0 in
    cond (leb 24 place) after
    (with_sums after place
    (get_or state.slot_min place 0 - min)
    (get_or state.slot_max place 0 - max)
    (get_or state.sizes place 0 - 1)))

-- ---- steps

-- a step down: the choice of the depth stands at the place, and the depth below is new
unfoldable pub down_of : List ℕ → List ℕ → List ℕ → SearchState → ℕ → SearchState
down_of mins maxs order state place =
    let choice = get_or order state.depth 0 in
    with_depth (decided_of state choice place (get_or mins choice 0) (get_or maxs choice 0))
    (state.depth + 1) true (state.remaining - get_or maxs choice 0)

-- a step back: the choice of the depth above is undecided again
unfoldable pub back_of : List ℕ → List ℕ → List ℕ → SearchState → SearchState
back_of mins maxs order state =
    cond (eqb state.depth 0) state
    (let choice = get_or order (state.depth - 1) 0 in
    with_depth (cleared_of state choice (get_or mins choice 0) (get_or maxs choice 0))
    (state.depth - 1) false (more_of state.remaining (get_or maxs choice 0)))

-- ---- turns

-- the pass ends: at depth 0 no candidate is left
unfoldable pub closes_at : ℕ → List ℕ → List ℕ → Bool
closes_at depth next end = eqb depth 0 && leb (get_or end 0 0) (get_or next 0 0)

-- the state after a turn, and where each depth's candidates go on
pub record Turning : Type 0 where
  pub state : SearchState
  pub next : List ℕ

abbrev pub turning : SearchState → List ℕ → Turning
turning state next = record { state = state; next = next }

-- a turn: back where no candidate of the depth is left, else down to the next one, which is taken; past the
-- lists' ends nothing is done
unfoldable pub turn_of : List ℕ → List ℕ → List ℕ → SearchState → List ℕ → List ℕ → List ℕ → Turning
turn_of mins maxs order state pool next end =
    let at = get_or next state.depth 0 in
    cond (ltb 64 state.depth) (turning state next)
    (cond (leb (get_or end state.depth 0) at) (turning (back_of mins maxs order state) next)
    (cond (leb 1625 at) (turning state next)
    (turning (down_of mins maxs order state (get_or pool at 0)) (set next state.depth (at + 1)))))
