-- Every call is done or hands back one of 01's numbers, and no two outcomes fit what it promises.
use mathlib.Core.Path.{◌≡◌, sym, ◌∙◌, ap}
use mathlib.Core.List.{List}
use Prim.Native.Nat.{ℕ, ◌≤◌}
use native.Mathlib.Omega.{arith}
use Rattle.std.specs.Prelude.{Result, Ok, Err}
use Rattle.day_rows.specs.Refusal.{number_of}
use Rattle.day_rows.specs.Told.{Told, done, refused, refusal_tells, tells, Outcome, outcome}
use Rattle.day_rows.specs.declared.refusal.Refusal.{Refusal}
use Rattle.day_rows.specs.declared.refusal.Refusal.TheVariants as case
use Rattle.day_rows.proofs.ToldLaws.{refused-number, refused-not-done}
use Rattle.day_rows.specs.Check.{check_of}
use Rattle.day_rows.proofs.Outcomes.{one-check}
use Rattle.reduce.proofs.Result as reduction
use Rattle.plan_check.specs.Check.{plan_check_of}
use Rattle.plan_check.proofs.Outcomes.{check-settled}
use Rattle.sets_analysis.proofs.Outcomes.{one_analysis}
use Rattle.sets_levels.proofs.Outcomes.{one_list}
use Rattle.search_map.proofs.Outcomes.{one-own-map}
use Rattle.search_meaning.specs.Calls.{searched_tells}
use Rattle.search_meaning.specs.declared.answer.Searched.{Searched}
use Rattle.search.proofs.Outcomes.{one-search}
use Rattle.search_day.proofs.Outcomes.{one-plan-day}
use Rattle.roster_check.specs.Check.{roster_check_of}
use Rattle.roster_check.proofs.Outcomes.{roster-settled}
use Rattle.day_file.proofs.Outcomes.{one_reading}
use Rattle.day_write.proofs.RoundTrip.{one_writing}
use Rattle.list_all.specs.Outcome.{listed_tells}
use Rattle.list_all.specs.declared.list_plans.Listed.{Listed}
use Rattle.list_all.proofs.Outcomes as list
use Rattle.text_plan.proofs.CallLaws.{one-text}
use Rattle.promises.specs.Calls.{alone, CallsAreSettled}

-- ---- 01's numbers

within : (why : Refusal) → (1 ≤ number_of why) × (number_of why ≤ 14)
within case.Count = (omega arith, omega arith)
within case.Length = (omega arith, omega arith)
within case.Levels = (omega arith, omega arith)
within case.Preference = (omega arith, omega arith)
within (case.Row row) = (omega arith, omega arith)
within case.TooMany = (omega arith, omega arith)
within case.Sets = (omega arith, omega arith)
within case.Orders = (omega arith, omega arith)
within case.PlanCell = (omega arith, omega arith)
within case.RosterCell = (omega arith, omega arith)
within case.FileLength = (omega arith, omega arith)
within case.Version = (omega arith, omega arith)
within case.Optional = (omega arith, omega arith)
within case.Map = (omega arith, omega arith)

-- a number that is told is one of them
abbrev Numbered : {A : Type 0} → Told A → Type 0
Numbered {A} told = (number : ℕ) (carried : List ℕ) → told ≡ refused number carried → (1 ≤ number) × (number ≤ 14)

by-refusal : {A : Type 0} (why : Refusal) → Numbered {A = A} (refusal_tells why)
by-refusal {A} why number carried e =
    let n : number_of why ≡ number = refused-number {A = A} e in
    let w = within why in
    (omega (arith, n, w.0), omega (arith, n, w.1))

by-done : {A : Type 0} (value : A) → Numbered (done value)
by-done value number carried e = absurd (refused-not-done (sym e))

numbered : {A : Type 0} (answer : Result A Refusal) → Numbered (tells answer)
numbered (Ok value) = by-done value
numbered (Err why) = by-refusal why

searched-numbered : (answer : Result Searched Refusal) → Numbered (searched_tells answer)
searched-numbered (Ok answer) = by-done _
searched-numbered (Err why) = by-refusal why

listed-numbered : (answer : Result Listed Refusal) → Numbered (listed_tells answer)
listed-numbered (Ok list) = by-done _
listed-numbered (Err why) = by-refusal why

-- ---- the calls

-- a call that leaves no buffer
settled-alone : {X A : Type 0} (tells : X → Told A) (given : Told A) → ((a b : X) → tells a ≡ given → tells b ≡ given → a ≡ b) → (a b : X) (p q : Unit {0})
    → outcome (tells a) p ≡ alone given → outcome (tells b) q ≡ alone given → (a ≡ b) × (p ≡ q)
settled-alone {A = A} tells given one a b p q e f = (
  one a b (ap (λ (o : Outcome A (Unit {0})). o.answer) e) (ap (λ (o : Outcome A (Unit {0})). o.answer) f),
  ap (λ (o : Outcome A (Unit {0})). o.buffers) (e ∙ sym f),
)

pub calls_are_settled : CallsAreSettled
calls_are_settled =
    record {
      read-day = λ file pools. record { numbered = numbered; one = λ a b p q. one_reading file pools {r = a} {s = b} {p = p} {q = q} };
      write_day = λ day pool. record { numbered = numbered; one = λ a b p q. one_writing day pool {r = a} {s = b} {p = p} {q = q} };
      check-rows = λ counts takes rows.
          record { numbered = numbered; one = settled-alone tells (check_of counts takes rows) (λ a b. one-check counts takes rows {a = a} {b = b}) };
      reduce = λ counts rows pool. record { numbered = numbered; one = λ a b p q. reduction.one-outcome counts rows pool {r = a} {s = b} {p = p} {q = q} };
      check-plan = λ day list. record { numbered = numbered; one = settled-alone tells (plan_check_of day list) (λ a b. check-settled day list {a = a} {b = b}) };
      analyze = λ day mode lent. record { numbered = numbered; one = λ a b p q. one_analysis day mode lent {a = a} {b = b} {p = p} {q = q} };
      level-list = λ levels count lent limit pool.
          record { numbered = numbered; one = λ a b p q. one_list levels count lent limit pool {a = a} {b = b} {p = p} {q = q} };
      own-map = λ counts rows pools. record { numbered = numbered; one = λ a b p q. one-own-map counts rows pools {a = a} {b = b} {p = p} {q = q} };
      search = λ given settings list. record { numbered = searched-numbered; one = λ a b p q. one-search given settings list {a = a} {b = b} {exit = p} {other = q} };
      plan-day = λ counts mins maxs optional levels preferences rows orders draws settings list.
          record {
            numbered = searched-numbered;
            one = λ a b p q. one-plan-day counts mins maxs optional levels preferences rows orders draws settings list {a = a} {b = b} {p = p} {q = q};
          };
      check-roster = λ sheet. record { numbered = numbered; one = settled-alone tells (roster_check_of sheet) (λ a b. roster-settled sheet {a = a} {b = b}) };
      list-plans = λ day first room budget buffer.
          record { numbered = listed-numbered; one = λ a b p q. list.one-outcome day first room budget buffer {answer = a} {other = b} {written = p} {rest = q} };
      plan-text = λ file pool. record { numbered = numbered; one = λ a b p q. one-text file pool {answer = a} {other = b} {text = p} {rest = q} };
    }
