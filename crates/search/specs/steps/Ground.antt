-- What the passes of a call stand on, and what they answer.
use Rattle.std.specs.Prelude.{Bool, List, map, ℕ, length, get_or}
use Rattle.base_lists.specs.Flat.{list_below}
use Rattle.day_rows.specs.Told.{done, Outcome, outcome}
use Rattle.plan_check.specs.Day.{Day}
use Rattle.sets_analysis.specs.Kept.{CriticalSet}
use Rattle.sets_analysis.specs.LevelList.{level_list}
use Rattle.search_map.specs.Map.{Map, looked_up}
use Rattle.search_order.specs.Order.{pass_order}
use Rattle.search_rules.specs.Walk.{Out}
use Rattle.search_rules.specs.Pass.{Lent, lent_of, plan_of, pass_of}
use Rattle.search_rules.specs.Passes.{Ending, found, none, out, passes_from}
use Rattle.search_meaning.specs.Search.{levels_above}
use Rattle.search_meaning.specs.Calls.{Settled, settled_by}

-- what every pass of a call is lent, or has its order and its sets from
pub record Ground : Type 0 where
  pub full : Bool
  pub day : Day
  pub map : Map
  pub whole : List ℕ
  pub orders : List ℕ
  pub levels : List ℕ
  pub sets : List CriticalSet
  pub draws : List ℕ

-- a ground from its parts
abbrev pub ground_of : Bool → Day → Map → List ℕ → List ℕ → List ℕ → List CriticalSet → List ℕ → Ground
ground_of full day map whole orders levels sets draws =
    record {
      full = full;
      day = day;
      map = map;
      whole = whole;
      orders = orders;
      levels = levels;
      sets = sets;
      draws = draws;
    }

-- each choice's number of looked-up rows
unfoldable pub rows_in : Map → List ℕ → List ℕ
rows_in map whole = list_below 64 λ choice. length (looked_up map whole choice)

-- what a pass of these is lent, by its limit and its number from 0
unfoldable pub lent_in : Ground → ℕ → ℕ → Lent
lent_in footing limit pass =
    lent_of footing.full footing.day footing.map footing.whole
    (pass_order footing.day.counts.choices footing.orders
    (λ choice. get_or (rows_in footing.map footing.whole) choice 0) pass)
    (map (λ set. set.members) (level_list footing.levels footing.sets limit)) footing.draws

-- a pass of these, with its turns and the place of its first draw
unfoldable pub pass_in : Ground → ℕ → ℕ → ℕ → ℕ → Out
pass_in footing limit pass turns draw = pass_of (lent_in footing limit pass) turns draw

-- how the passes from a start on end, with the pass budget and all turns
unfoldable pub ending_in : Ground → ℕ → ℕ → ℕ → Ending
ending_in footing budget total start =
    passes_from (pass_in footing) budget (levels_above footing.levels start) start 0 total 0

-- the plan at exit, by how the passes end
abbrev pub planned_in : Ground → List ℕ → Ending → List ℕ
planned_in footing before (found left pass limit places) = plan_of (lent_in footing limit pass) places
planned_in footing before (none left pass limit) = before
planned_in footing before (out pass limit) = before

-- the answer with its figures, and the plan, by how the passes end
unfoldable pub answered : Ground → ℕ → List ℕ → Ending → Outcome Settled (List ℕ)
answered footing total before ending = outcome (done (settled_by total ending)) (planned_in footing before ending)

-- the answer of the passes from a start on, and the plan
unfoldable pub call_in : Ground → ℕ → ℕ → ℕ → List ℕ → Outcome Settled (List ℕ)
call_in footing budget total start before = answered footing total before (ending_in footing budget total start)
