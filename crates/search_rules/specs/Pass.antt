-- 'One pass of the search': what stands at a depth, its candidates, and the walk over them.
use Rattle.std.specs.Prelude.{Bool, ◌&&◌, cond, List, [], ℕ, suc, eqb, ltb, length, get_or, take, drop}
use Rattle.base_lists.specs.Keep.{sum_over}
use Rattle.plan_check.specs.Day.{Day, day_lent}
use Rattle.plan_check.specs.Feasible.{feasible}
use Rattle.search_rules.specs.Walk.{Sight, goal, over, on, Out, pass}
use Rattle.search_map.specs.Map.{Map, map_lent, looked_up}
use Rattle.search_candidates.specs.Bucket.{Asked, asked_of, bucket_of, draws_one}
use Rattle.search_candidates.specs.declared.asked.Depth.{Depth}
use Rattle.search_rules.specs.Decided.{decided, loads_at}
use Rattle.search_rules.specs.declared.pass.Lent as code

-- what a pass is lent: full or as the Rust; the day; the map and the whole list of row numbers; the choices
-- in the order of the pass; the critical sets of its limit; the draws
pub record Lent : Type 0 where
  pub full : Bool
  pub day : Day
  pub map : Map
  pub whole : List ℕ
  pub order : List ℕ
  pub sets : List ℕ
  pub draws : List ℕ

abbrev pub lent_of : Bool → Day → Map → List ℕ → List ℕ → List ℕ → List ℕ → Lent
lent_of full day map whole order sets draws =
    record { full = full; day = day; map = map; whole = whole; order = order; sets = sets; draws = draws }

-- what a pass's code is lent
abbrev pub pass_lent : code.Lent → Lent
pass_lent lent =
    lent_of lent.full (day_lent lent.day) (map_lent lent.map) lent.whole.now lent.order.now lent.sets.now
    lent.draws.now

-- ---- a new depth

-- the choice at a depth
unfoldable pub choice_at : Lent → ℕ → ℕ
choice_at lent depth = get_or lent.order depth 0

-- 'remaining max (this choice included)'
unfoldable pub remaining_at : Lent → ℕ → ℕ
remaining_at lent depth = sum_over (λ choice. get_or lent.day.maxs choice 0) (drop depth lent.order)

-- the depth as its candidates are asked for; the draw is the one at a place, 'none means 0'
unfoldable pub depth_at : Lent → ℕ → ℕ → Depth
depth_at lent depth draw =
    record {
      choice = choice_at lent depth;
      min = get_or lent.day.mins (choice_at lent depth) 0;
      max = get_or lent.day.maxs (choice_at lent depth) 0;
      optional = get_or lent.day.optional (choice_at lent depth) 0;
      last = eqb (suc depth) lent.day.counts.choices;
      remaining = remaining_at lent depth;
      draw = get_or lent.draws draw 0;
    }

-- what the candidates of a new depth are made from: the depth, its looked-up rows, the sets and what is
-- decided
unfoldable pub asked_at : Lent → List ℕ → ℕ → Asked
asked_at lent places draw =
    asked_of lent.day.counts (depth_at lent (length places) draw) lent.day.rows
    (looked_up lent.map lent.whole (choice_at lent (length places)))
    lent.sets (loads_at lent.day.mins lent.day.maxs (decided lent.order places))

-- the candidates of a new depth; there are none at depth C
unfoldable pub candidates_at : Lent → List ℕ → ℕ → List ℕ
candidates_at lent places draw =
    cond (ltb (length places) lent.day.counts.choices)
    (bucket_of (asked_at lent places draw))
    []

-- 'uses draw n mod D': the place of the draw after this one; after the last comes the first
unfoldable pub next_draw : List ℕ → ℕ → ℕ
next_draw draws draw = cond (ltb (suc draw) (length draws)) (suc draw) 0

-- the place of the next draw, once the candidates are made: only a 'bucket of the call that holds omission so
-- placed' uses one
unfoldable pub draw_after : Lent → List ℕ → ℕ → ℕ
draw_after lent places draw =
    cond (ltb (length places) lent.day.counts.choices && draws_one (asked_at lent places draw))
    (next_draw lent.draws draw)
    draw

-- ---- depth C

-- the plan of the places decided
unfoldable pub plan_of : Lent → List ℕ → List ℕ
plan_of lent places = take lent.day.counts.choices (decided lent.order places)

-- what the check at depth C means for the full search: 'a failed check steps back one depth (a turn) and goes
-- on, or ends if C = 0; S = 0 is no special case'
unfoldable pub sight_full : Day → Bool → Sight
sight_full day passes = cond passes goal (cond (eqb day.counts.choices 0) over on)

-- what the check at depth C means for the search as the Rust: 'a failed check ends the pass without a plan,
-- and S = 0 never gives one'
unfoldable pub sight_as_the_rust : Day → Bool → Sight
sight_as_the_rust day passes = cond (eqb day.counts.slots 0) over (cond passes goal over)

-- what stands at the places decided: 'At depth C the plan check decides'
unfoldable pub sight_at : Lent → List ℕ → Sight
sight_at lent places =
    cond (ltb (length places) lent.day.counts.choices) on
    (let passes = feasible lent.day (plan_of lent places) in
    cond lent.full (sight_full lent.day passes) (sight_as_the_rust lent.day passes))

-- ---- the pass

-- one pass, with its budget of turns and the place of its first draw
unfoldable pub pass_of : Lent → ℕ → ℕ → Out
pass_of lent budget draw = pass (sight_at lent) (candidates_at lent) (draw_after lent) budget draw
