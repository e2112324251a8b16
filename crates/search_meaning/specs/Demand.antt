-- Demand 3: the full search settles a day that it doesn't refuse. C choices (stations), S slots (blocks), H
-- choosers (headcount), L levels.
use Rattle.std.specs.Prelude.{◌≡◌, true, List, ◌↔◌, ℕ, ◌+◌, ◌*◌, ◌≤◌, ◌<◌, length, get_or}
use Rattle.day_rows.specs.Told.{done, outcome}
use Rattle.plan_check.specs.PlanMeans.{Feasible}
use Rattle.search_rules.specs.Turns.{sum_of_powers}
use Rattle.search_map.specs.Map.{Map}
use Rattle.search_map.specs.Calls.{own_map_of}
use Rattle.search_meaning.specs.Given.{Given, row_counts, plan_day}
use Rattle.search_meaning.specs.Calls.{Settled, plan, no_plan, out_of_turns, search_of}
use Rattle.search_meaning.specs.declared.answer.Figures.{Figures}
use Rattle.search_meaning.specs.declared.settings.Settings.{Settings}

-- the number of starts, T = (S+1) + (S+1)^2 + .. + (S+1)^C, or 0 if C is 0
unfoldable pub starts_of : Given → ℕ
starts_of given = sum_of_powers (given.counts.slots + 1) given.counts.choices

-- the turns that settle every day, (L+1)(2T+1)
unfoldable pub turns_that_settle : Given → ℕ
turns_that_settle given = (given.counts.levels + 1) * (2 * starts_of given + 1)

-- such a plan, a list of C bytes: it omits only optional choices, has in each slot minimums that sum to at
-- most H and maximums to at least H, and keeps every row of the list that the search is given
pub record SuchPlan (given : Given) (list : List ℕ) : Type 0 where
  pub long : length list ≡ given.counts.choices
  pub bytes : (choice : ℕ) → choice < given.counts.choices → get_or list choice 0 < 256
  pub passes : Feasible (plan_day given) list

-- the map is exactly what the map builder writes for these rows, whatever its pools held before
pub record OwnMap (given : Given) : Type 0 where
  pub pools : Map
  pub written : outcome (done given.counts.numbers) given.map
      ≡ own_map_of (row_counts given.counts) given.rows pools

-- what an answer says of the day, with the plan that the call leaves and the turns allowed
pub record Settles (given : Given) (turns : ℕ) (answer : Settled) (after : List ℕ) : Type 0 where
  -- on any number of turns: the plan given is such a plan
  pub plan-is : (figures : Figures) → answer ≡ plan figures → SuchPlan given after
  -- on any number of turns: a none is true
  pub none_is : (figures : Figures) → answer ≡ no_plan figures → (list : List ℕ) → SuchPlan given list → ⊥
  -- with (L+1)(2T+1) turns at least the search never says that turns ran out
  pub never-out : turns_that_settle given ≤ turns → (figures : Figures) → answer ≡ out_of_turns figures → ⊥
  -- with (L+1)(2T+1) turns at least the search gives a plan exactly if one exists
  pub exactly : turns_that_settle given ≤ turns
      → ((figures : Figures) × (answer ≡ plan figures)) ↔ ((list : List ℕ) × SuchPlan given list)

-- demand 3 of every day that the search doesn't refuse, with the own map: whatever orders, draws, start,
-- analysis and budgets it is lent, and whatever the plan held before
abbrev pub Demand : Type 0
Demand =
    (given : Given) (settings : Settings) (before : List ℕ) → settings.full ≡ true → OwnMap given
    → (answer : Settled) (after : List ℕ) → outcome (done answer) after ≡ search_of given settings before
    → Settles given settings.total_budget answer after
