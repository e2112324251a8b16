-- The candidates of a new depth, by the sums and counts as the code has them, and by what remains as it has
-- it.
use Rattle.std.specs.Prelude.{Bool, false, ◌&&◌, cond, List, ◌++◌, ℕ, suc, ◌+◌, ◌*◌, eqb, ltb, leb, length, get_or, set, take, drop}
use Rattle.base_lists.specs.Pool.{window}
use Rattle.search_map.specs.Map.{looked_up}
use Rattle.search_candidates.specs.Loads.{Loads, loads_of}
use Rattle.search_candidates.specs.Bucket.{Asked, asked_of, Written, written, fill_of}
use Rattle.search_candidates.specs.declared.asked.Depth.{Depth}
use Rattle.search_rules.specs.Pass.{Lent, choice_at, next_draw}
use Rattle.search_turn.specs.declared.state.SearchState.{SearchState}

-- a depth as its candidates are asked for, by what remains as the code has it
unfoldable pub depth_from : Lent → ℕ → ℕ → ℕ → Depth
depth_from lent depth draw remaining =
    record {
      choice = choice_at lent depth;
      min = get_or lent.day.mins (choice_at lent depth) 0;
      max = get_or lent.day.maxs (choice_at lent depth) 0;
      optional = get_or lent.day.optional (choice_at lent depth) 0;
      last = eqb (suc depth) lent.day.counts.choices;
      remaining = remaining;
      draw = get_or lent.draws draw 0;
    }

-- a state's decisions, sums and counts
abbrev pub loads_in : SearchState → Loads
loads_in state = loads_of state.decisions state.slot_min state.slot_max state.sizes

-- what the candidates of a depth are made from: the depth, its looked-up rows, the sets and what is decided
unfoldable pub asked_from : Lent → Loads → ℕ → ℕ → ℕ → Asked
asked_from lent loads depth draw remaining =
    asked_of lent.day.counts (depth_from lent depth draw remaining) lent.day.rows
    (looked_up lent.map lent.whole (choice_at lent depth))
    lent.sets loads

-- what is written in the depth's part of the pool: at depth C there are no candidates, and no draw is used
unfoldable pub open_of : Asked → ℕ → List ℕ → Written
open_of asked depth list = cond (ltb depth asked.counts.choices) (fill_of asked list) (written 0 false list)

-- what is left of a depth opened: the place of the next draw, the pool, and where each depth's candidates go
-- on and end
pub record Opening : Type 0 where
  pub draw : ℕ
  pub pool : List ℕ
  pub next : List ℕ
  pub end : List ℕ

abbrev pub opening : ℕ → List ℕ → List ℕ → List ℕ → Opening
opening draw pool next end = record { draw = draw; pool = pool; next = next; end = end }

-- what opening a depth takes: a new depth, and lists of 65 depths, with 25 candidates each
unfoldable pub opens_at : Bool → ℕ → ℕ → ℕ → ℕ → Bool
opens_at new depth pool next end = new && leb depth 64 && eqb pool 1625 && eqb next 65 && eqb end 65

-- the candidates written at the front of the depth's own entries
unfoldable pub opened_by : Written → List ℕ → ℕ → ℕ → List ℕ → List ℕ → List ℕ → Opening
opened_by made draws depth draw pool next end =
    opening (cond made.drew (next_draw draws draw) draw)
    (take (25 * depth) pool ++ (made.list ++ drop (25 * depth + 25) pool))
    (set next depth (25 * depth)) (set end depth (25 * depth + made.count))

-- what opening a depth leaves on any input: what isn't taken stays as it was
unfoldable pub opening_of : Lent → Loads → Bool → ℕ → ℕ → ℕ → List ℕ → List ℕ → List ℕ → Opening
opening_of lent loads new depth draw remaining pool next end =
    cond (opens_at new depth (length pool) (length next) (length end))
    (opened_by (open_of (asked_from lent loads depth draw remaining) depth (window (25 * depth) 25 pool))
    lent.draws depth draw pool next end)
    (opening draw pool next end)
