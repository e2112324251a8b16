-- Demand 3 in the page's words, of `search` with the own map and of `plan_day`.
use mathlib.Core.Path.{◌≡◌}
use mathlib.Core.Bool.{true}
use mathlib.Core.List.{List}
use Prim.Native.Nat.{ℕ, ◌≤◌}
use Rattle.day_rows.specs.Told.{done, outcome}
use Rattle.search_rules.specs.Turns.{sum_of_powers}
use Rattle.search_meaning.specs.Given.{Given, plan_day}
use Rattle.search_meaning.specs.Calls.{Settled, search_of}
use Rattle.search_meaning.specs.Demand.{starts_of, turns_that_settle, SuchPlan, OwnMap, Settles}
use Rattle.search_meaning.specs.declared.settings.Settings.{Settings}
use Rattle.search_meaning.proofs.DemandHolds.{good_such, not-refused, demand}
use Rattle.search_day.specs.Planning.{given_own, plan_day_of}
use Rattle.search_day.specs.declared.given.PlanCounts.{PlanCounts}
use Rattle.text_plan.proofs.DayMeans.{called, call_settles}
use Rattle.promises.specs.Promises.{PlanOf, SearchSettles}
use Rattle.promises.proofs.Plans.{plan_of, of_plan}

module _ (given : Given) where
  pub such_of : (list : List ℕ) → SuchPlan given list → PlanOf (plan_day given) list
  such_of list s = plan_of (plan_day given) list s.long s.passes

  pub of_such : given.counts.slots ≤ 24 → (list : List ℕ) → PlanOf (plan_day given) list → SuchPlan given list
  of_such few list p = good_such given few list (record { long = p.long; passes = of_plan (plan_day given) list p })

  settles_so : given.counts.slots ≤ 24 → (turns : ℕ) (answer : Settled) (after : List ℕ) → Settles given turns answer after → SearchSettles given turns answer after
  unfolding turns_that_settle starts_of sum_of_powers
  settles_so few turns answer after s =
      record {
        found = λ figures e. such_of after (s.plan-is figures e);
        none = λ figures e list p. s.none_is figures e list (of_such few list p);
        never-out = s.never-out;
        exactly = λ h. (
          λ f. let p = (s.exactly h).0 f in (p.0, such_of p.0 p.1),
          λ p. (s.exactly h).1 (p.0, of_such few p.0 p.1),
        );
      }

pub search-settles : (given : Given) (settings : Settings) (before : List ℕ) → settings.full ≡ true → OwnMap given
    → (answer : Settled) (after : List ℕ) → outcome (done answer) after ≡ search_of given settings before
    → SearchSettles given settings.total_budget answer after
search-settles given settings before full own answer after e =
    settles_so given (not-refused given settings before answer after e).day.in_range.day.slots settings.total_budget answer after
    (demand given settings before full own answer after e)

pub day-settles : (counts : PlanCounts) (mins maxs optional levels preferences rows orders draws : List ℕ) (settings : Settings) (before : List ℕ) → settings.full ≡ true
    → (answer : Settled) (after : List ℕ) → outcome (done answer) after ≡ plan_day_of counts mins maxs optional levels preferences rows orders draws settings before
    → SearchSettles (given_own counts mins maxs optional levels preferences rows orders draws) settings.total_budget answer after
day-settles counts mins maxs optional levels preferences rows orders draws settings before full answer after e =
    let given = given_own counts mins maxs optional levels preferences rows orders draws in
    let c = called counts mins maxs optional levels preferences rows orders draws settings before e in
    settles_so given (not-refused given settings before answer after c.searched).day.in_range.day.slots settings.total_budget answer after
    (call_settles counts mins maxs optional levels preferences rows orders draws settings before c full)
