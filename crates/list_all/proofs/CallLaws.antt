-- The call list_plans: the second run from the empty start, and what the two runs make of the answer and the
-- buffer.
use mathlib.Core.Path.{◌≡◌, sym, ap, ◌∙◌}
use mathlib.Core.Bool.{true, false}
use mathlib.Core.List.{List, flatten}
use Prim.Native.Nat.{ℕ, ◌-◌, ◌<◌, ◌^◌, min}
use native.Mathlib.Nat.{zero-add, sub-zero}
use native.Mathlib.Omega.{arith}
use borrow.Author.Tests.{leb-true}
use lib.Dec.{leb}
use lib.ListN.{length, take, replicate, length-replicate}
use lib.Seq.{sets}
use Rattle.std.specs.Prelude.{Result, Ok, Err, IsErrAnd}
use Rattle.day_rows.specs.Told.{done, refused, good, refusal_tells, outcome}
use Rattle.day_rows.specs.declared.refusal.Refusal.{Refusal}
use Rattle.plan_check.specs.Day.{Day}
use Rattle.list_nodes.specs.Placements.{plans, page, total, nodes}
use Rattle.list_all.specs.declared.list_plans.Listed.{Listed}
use Rattle.list_all.specs.Outcome.{plans_told, turns_told, listed_tells, listed_of, list_of}
use Rattle.list_nodes.specs.Judge.{judge_of}
use Rattle.list_nodes.specs.steps.Walk.{plans_from}
use Rattle.list_nodes.specs.steps.Runs.{Walks, Lists, Listing, Judged}
use Rattle.list_nodes.proofs.PageLaws.{put-page, page-length}
use Rattle.list_nodes.proofs.Members.{sized-plans}
use Rattle.list_nodes.proofs.WholeLaws.{zeros-at, plans-all, total-within}

-- how many plans the page holds
page-told : (day : Day) (first room : ℕ) {all : ℕ} → all ≡ total day → min room (all - first) ≡ length (page day first room)
unfolding page total
page-told day first room a = ap (λ (k : ℕ). min room (k - first)) a ∙ sym (page-length first room (plans day))

module _ (day : Day) (room : ℕ) (buffer : List ℕ) (j : Judged day room buffer) where
  -- the second run starts with no choice placed and all sums 0
  start-walks : {sums : List ℕ} → sums ≡ replicate 24 0 → Walks day.counts.slots day.counts.choosers day.mins day.optional 0 sums
  start-walks e =
      record {
        few-choices = omega (arith, j.few-choices, j.mins-fit);
        few-slots = j.few-slots;
        few-choosers = j.few-choosers;
        flags = j.optional-fits ∙ sym j.mins-fit;
        within = omega arith;
        entries = ap length e ∙ length-replicate {A = ℕ} 24 0;
        low = λ slot. rw e (rw (zeros-at 24 slot) (omega arith));
      }

  -- ---- the second run

  module _ (plan sums : List ℕ) (p : length plan ≡ day.counts.choices) (e : sums ≡ replicate 24 0) where
    whole-plans : plans_from day (length plan - 0) (take 0 plan) sums ≡ plans day
    whole-plans = rw (sub-zero, p, e) (plans-all day j.few-slots)

    pub list_requires : total day < 2 ^ 64 → Lists day room 0 plan sums (plans_from day (length plan - 0) (take 0 plan) sums) 0 buffer
    unfolding total
    list_requires h =
        record {
          shaped =
              record {
                few-choices = j.few-choices;
                few-slots = j.few-slots;
                mins-fit = j.mins-fit;
                maxs-fit = j.maxs-fit;
                optional-fits = j.optional-fits;
                plan-fits = p;
                buffer-fits = j.buffer-fits;
              };
          walks = start-walks e;
          numbers = rw whole-plans (omega arith);
        }

    pub list-answers : {first total' : ℕ} {plan' sums' buffer' : List ℕ}
        → Listing first room 0 (plans_from day (length plan - 0) (take 0 plan) sums) plan plan' sums sums' 0 total' buffer buffer'
        → (total' ≡ total day) × (buffer' ≡ sets buffer 0 (flatten (page day first room)))
    unfolding total page
    list-answers {first} g =
        let a = rw whole-plans at g.added in
        (a.counted ∙ zero-add (length (plans day)), a.written ∙ put-page first room day.counts.choices (plans day) buffer 0 first (sized-plans day) (zero-add first))

  -- ---- the turns

  pub turns-told : (first budget : ℕ) → leb (nodes day) budget ≡ false → outcome (done turns_told) buffer ≡ listed_of day first room budget buffer
  unfolding listed_of
  turns-told first budget f = rw f

  module _ (budget : ℕ) {visited : ℕ} (w : (leb (nodes day) budget ≡ true) × (visited ≡ nodes day)) where
    pub total-fits : budget < 2 ^ 64 → total day < 2 ^ 64
    unfolding total
    total-fits h = omega (arith, total-within day j.few-slots, leb-true (nodes day) budget w.0)

    pub plans-told : (first : ℕ) {written all : ℕ} {buffer' : List ℕ} → all ≡ total day → written ≡ min room (all - first)
        → buffer' ≡ sets buffer 0 (flatten (page day first room)) → outcome (done (plans_told written all visited)) buffer' ≡ listed_of day first room budget buffer
    unfolding listed_of
    plans-told first {written} {all} {buffer'} a e b =
        let l : written ≡ length (page day first room) = e ∙ page-told day first room a in
        rw (w.0, a, b, w.1, l)

-- ---- the refusals

-- why a day is refused, passed on by `?`
pub passed_on : (answer : Result Listed Refusal) (why : Refusal) → IsErrAnd answer (λ given. given ≡ why) → listed_tells answer ≡ refusal_tells why
passed_on (Ok list) why h = absurd h
passed_on (Err given) why h = ap (λ (why : Refusal). refusal_tells why) h

module _ (day : Day) (first room budget : ℕ) (buffer : List ℕ) where
  pub refused-told : {number : ℕ} {carried : List ℕ} → refused number carried ≡ judge_of day room (length buffer) → outcome (refused number carried) buffer ≡ list_of day first room budget buffer
  unfolding list_of
  refused-told h = rw (sym h)

  pub good-told : judge_of day room (length buffer) ≡ good → listed_of day first room budget buffer ≡ list_of day first room budget buffer
  unfolding list_of
  good-told h = rw h
