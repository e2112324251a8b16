-- Demand 3 holds of the call.
use mathlib.Core.Path.{◌≡◌, refl, sym, ap}
use mathlib.Core.Bool.{true}
use mathlib.Core.List.{List}
use Prim.Native.Nat.{ℕ, suc, ◌+◌, ◌*◌, ◌≤◌, ◌<◌}
use native.Mathlib.Nat.{mul-le-mul_right}
use native.Mathlib.Numerals.{add-one}
use native.Mathlib.Omega.{arith}
use lib.ListN.{length, get_or}
use Rattle.day_rows.specs.Told.{done, refused, Verdict, good, unless, Outcome, outcome, judged}
use Rattle.day_rows.proofs.ToldLaws.{done-is, refused-not-done, unless-done, then_done}
use Rattle.day_rows.specs.Levels.{last_level}
use Rattle.plan_check.specs.Plan.{slot_of}
use Rattle.plan_check.specs.PlanMeans.{Placed, scheduled, left_out}
use Rattle.plan_check.proofs.PlanLaws.{slot-at}
use Rattle.search_rules.specs.Turns.{turns_enough}
use Rattle.search_rules.specs.Pass.{plan_of}
use Rattle.search_rules.proofs.RowsAlong.{GoodPlan}
use Rattle.search_rules.specs.Passes.{Ending, found, none, out}
use Rattle.search_rules.proofs.CallSettles.{Says, said, out-short}
use Rattle.search_meaning.specs.Given.{Given, plan_day, sets_day}
use Rattle.search_meaning.specs.Judged.{day_judged, lent_judged}
use Rattle.search_meaning.proofs.JudgedLaws.{DayKeeps, LentKeeps, day-keeps, lent-keeps}
use Rattle.search_meaning.specs.Search.{start_of, levels_above, lent_at, pass_at, ending_of}
use Rattle.search_meaning.specs.Calls.{Settled, plan, no_plan, out_of_turns, settled_by, plan_left, sets_fit, search_judged, search_of}
use Rattle.search_meaning.specs.declared.answer.Figures.{Figures}
use Rattle.search_meaning.specs.declared.settings.Settings.{Settings}
use Rattle.search_meaning.specs.Demand.{starts_of, turns_that_settle, SuchPlan, OwnMap, Settles, Demand}
use Rattle.search_meaning.proofs.Limits.{above-few, call_last}
use Rattle.search_meaning.proofs.CallPasses.{pass-sound, pass_complete, pass-enough}

-- ---- answers told apart

abbrev answer_number : Settled → ℕ
answer_number (plan figures) = 0
answer_number (no_plan figures) = 1
answer_number (out_of_turns figures) = 2

plan-not-none : (one other : Figures) → plan one ≡ no_plan other → ⊥
plan-not-none one other e = let z : ◌≡◌ {A = ℕ} 0 1 = ap answer_number e in absurd (omega arith)

plan-not-out : (one other : Figures) → plan one ≡ out_of_turns other → ⊥
plan-not-out one other e = let z : ◌≡◌ {A = ℕ} 0 2 = ap answer_number e in absurd (omega arith)

none-not-out : (one other : Figures) → no_plan one ≡ out_of_turns other → ⊥
none-not-out one other e = let z : ◌≡◌ {A = ℕ} 1 2 = ap answer_number e in absurd (omega arith)

-- ---- a good plan is such a plan

module _ (given : Given) (slots_in : given.counts.slots ≤ 24) where
  pub good_such : (list : List ℕ) → GoodPlan (plan_day given) list → SuchPlan given list
  good_such list good =
      record {
        long = good.long;
        bytes = λ choice h. byte choice (omega (arith, good.long)) (good.passes.places choice (omega (arith, good.long)));
        passes = good.passes;
      }
    where
      byte : (choice : ℕ) → choice < length list → Placed given.counts.slots given.optional list choice → get_or list choice 0 < 256
      byte choice h (scheduled l) = let e : get_or list choice 0 ≡ slot_of list choice = slot-at list choice h in omega arith
      byte choice h (left_out o f) = let e : get_or list choice 0 ≡ slot_of list choice = slot-at list choice h in omega arith

pub such_good : (given : Given) (list : List ℕ) → SuchPlan given list → GoodPlan (plan_day given) list
such_good given list such = record { long = such.long; passes = such.passes }

-- ---- turns

-- what is enough for each pass that a call may make is at most (L+1)(2T+1)
pub enough_turns : (given : Given) (above : List ℕ) → length above ≤ given.counts.levels
    → suc (length above) * turns_enough (suc given.counts.slots) given.counts.choices ≤ turns_that_settle given
unfolding turns_that_settle starts_of turns_enough
enough_turns given above h =
    rw (add-one given.counts.slots)
    (mul-le-mul_right (turns_enough (suc given.counts.slots) given.counts.choices) (let l : suc (length above) ≤ given.counts.levels + 1 = omega arith in l))

-- ---- a call that isn't refused

-- what isn't refused goes on
judged-done : {A B : Type 0} (verdict : Verdict) (buffers : B) (next : Outcome A B) {value : A} {left : B} → outcome (done value) left ≡ judged verdict buffers next
    → (verdict ≡ good) × (outcome (done value) left ≡ next)
judged-done (done value) buffers next e = (refl, e)
judged-done (refused number carried) buffers next e = absurd (refused-not-done (sym (ap (λ o. o.answer) e)))

pub record NotRefused (given : Given) (settings : Settings) (before : List ℕ) (answer : Settled) (after : List ℕ) : Type 0 where
  pub day : DayKeeps given before
  pub lent : LentKeeps given
  pub answer-is : answer ≡ settled_by settings.total_budget (ending_of given settings)
  pub after_is : after ≡ plan_left given settings before (ending_of given settings)

pub not-refused : (given : Given) (settings : Settings) (before : List ℕ) (answer : Settled) (after : List ℕ) → outcome (done answer) after ≡ search_of given settings before
    → NotRefused given settings before answer after
unfolding search_of search_judged
not-refused given settings before answer after e =
    let rest = unless (sets_fit (sets_day given) settings.analysis) 7 (lent_judged given) in
    let next = outcome (done (settled_by settings.total_budget (ending_of given settings))) (plan_left given settings before (ending_of given settings)) in
    let j = judged-done (search_judged given settings before) before next e in
    let d = then_done (day_judged given before) rest j.0 in
    let l = unless-done (sets_fit (sets_day given) settings.analysis) 7 (lent_judged given) d.1 in
    record {
      day = day-keeps given before d.0;
      lent = lent-keeps given l.1;
      answer-is = done-is (ap (λ o. o.answer) j.1);
      after_is = ap (λ o. o.buffers) j.1;
    }

-- ---- the demand

module _ (given : Given) (settings : Settings) (before : List ℕ) (full : settings.full ≡ true) (own : OwnMap given) (day : DayKeeps given before) (lent : LentKeeps given) where
  abbrev start : ℕ
  start = start_of given settings

  abbrev above : List ℕ
  above = levels_above given.levels start

  -- what the ending says, on any budgets
  ending_says : Says (λ limit pass places. GoodPlan (plan_day given) (plan_of (lent_at given settings limit pass) places)) ((list : List ℕ) → GoodPlan (plan_day given) list → ⊥) (Unit {0}) (ending_of given settings)
  unfolding ending_of
  ending_says =
      said (pass_at given settings) settings.pass_budget (λ limit pass places. GoodPlan (plan_day given) (plan_of (lent_at given settings limit pass) places))
      (pass-sound given settings before day) (last_level given.levels) ((list : List ℕ) → GoodPlan (plan_day given) list → ⊥)
      (pass_complete given settings before day lent own full) above start 0 settings.total_budget 0 (call_last given settings)

  -- turns run out only under (L+1)(2T+1)
  ending_short : (pass limit : ℕ) → ending_of given settings ≡ out pass limit → settings.total_budget < turns_that_settle given
  unfolding ending_of
  ending_short pass limit e =
      let s = out-short (pass_at given settings) settings.pass_budget (turns_enough (suc given.counts.slots) given.counts.choices) (pass-enough given settings)
      above start 0 settings.total_budget 0 pass limit e in
      omega (arith, s, enough_turns given above (omega (arith, above-few given.levels start, day.levels)))

  -- what the answer says, by the ending
  by_ending : (ending : Ending) → ending_of given settings ≡ ending
      → Says (λ limit pass places. GoodPlan (plan_day given) (plan_of (lent_at given settings limit pass) places)) ((list : List ℕ) → GoodPlan (plan_day given) list → ⊥) (Unit {0}) ending
      → Settles given settings.total_budget (settled_by settings.total_budget ending) (plan_left given settings before ending)
  by_ending (found left pass limit places) e says =
      let such = good_such given day.in_range.day.slots (plan_of (lent_at given settings limit pass) places) says in
      record {
        plan-is = λ figures q. such;
        none_is = λ figures q. absurd (plan-not-none _ figures q);
        never-out = λ h figures q. plan-not-out _ figures q;
        exactly = λ h. ((λ p. (plan_of (lent_at given settings limit pass) places, such)), λ p. (_, refl));
      }
  by_ending (none left pass limit) e says =
      record {
        plan-is = λ figures q. absurd (plan-not-none figures _ (sym q));
        none_is = λ figures q list such. says list (such_good given list such);
        never-out = λ h figures q. none-not-out _ figures q;
        exactly = λ h. ((λ p. absurd (plan-not-none p.0 _ (sym p.1))), λ p. absurd (says p.0 (such_good given p.0 p.1)));
      }
  by_ending (out pass limit) e says =
      let short = ending_short pass limit e in
      record {
        plan-is = λ figures q. absurd (plan-not-out figures _ (sym q));
        none_is = λ figures q. absurd (none-not-out figures _ (sym q));
        never-out = λ h. absurd (omega (arith, short, h));
        exactly = λ h. absurd (omega (arith, short, h));
      }

-- demand 3: the full search settles a day
pub demand : Demand
demand given settings before full own answer after e =
    let n = not-refused given settings before answer after e in
    rw (n.answer-is, n.after_is)
    (by_ending given settings before full own n.day n.lent (ending_of given settings) refl (ending_says given settings before full own n.day n.lent))
