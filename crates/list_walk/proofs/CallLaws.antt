-- The walk from the empty start.
use Rattle.std.proofs.Common.{length-take-le, ◌≡◌, ℕ, ◌+◌, ◌-◌, ◌*◌, ◌^◌, ◌<◌, ◌≤◌, true, List, [], length, take, replicate, sym, ap, ◌∙◌, arith}
use native.Mathlib.Nat.{sub-zero}
use lib.ListN.{length-replicate}
use Rattle.plan_check.specs.Day.{Day}
use Rattle.list_nodes.specs.steps.Runs.{Judged}
use Rattle.list_nodes.proofs.StartLaws.{empty-node}
use Rattle.list_nodes.proofs.WholeLaws.{zeros-at}
use Rattle.list_nodes.specs.steps.Run.{Standing, run, goes_on}
use Rattle.list_walk.specs.steps.Sight.{events_from}
use Rattle.list_walk.specs.steps.Walks.{WalkReady, Walked}
use Rattle.list_walk.proofs.SumsLaws.{none-sums}

-- the measure falls from a choice to what is open to it, and from there to a place
pub to_open : (t size choice : ℕ) → (size - choice) * 32 + 31 ≡ t → (size - choice) * 32 + 30 < t
to_open t size choice e = omega arith

pub open_place : (t size choice left slots : ℕ) → (size - choice) * 32 + 30 ≡ t → left ≤ slots + 1 → slots ≤ 24 → (size - choice) * 32 + left < t
open_place t size choice left slots e h few = omega arith

-- the plan is the front of a pool of zeros
pub plan-length : (choices most : ℕ) → choices ≤ most → length {A = ℕ} (take choices (replicate most 0)) ≡ choices
plan-length choices most h = length-take-le choices (replicate most 0) (rw (length-replicate {A = ℕ} most 0) h)

module _ (day : Day) (first room : ℕ) (buffer : List ℕ) (j : Judged day room buffer) (plan sums fills : List ℕ) (p : length plan ≡ day.counts.choices)
    (e : sums ≡ replicate 24 0) (f : fills ≡ replicate 24 0) where
  -- the walk starts with no choice placed and all sums 0
  pub all_requires : {turns met : ℕ} → met + turns < 2 ^ 64 → goes_on first room met ≡ true → WalkReady day first room 0 0 plan sums fills turns met buffer
  all_requires n o =
      record {
        shaped =
            record {
              few-choices = j.few-choices;
              few-slots = j.few-slots;
              mins-fit = j.mins-fit;
              maxs-fit = j.maxs-fit;
              optional-fits = j.optional-fits;
              plan-fits = p;
              buffer-fits = j.buffer-fits;
            };
        walks =
            record {
              few-choices = omega (arith, j.few-choices, j.mins-fit);
              few-slots = j.few-slots;
              few-choosers = j.few-choosers;
              flags = j.optional-fits ∙ sym j.mins-fit;
              within = omega arith;
              entries = ap length e ∙ length-replicate {A = ℕ} 24 0;
              low = λ slot. rw e (rw (zeros-at 24 slot) (omega arith));
            };
        filled =
            record {
              entries = ap length f ∙ length-replicate {A = ℕ} 24 0;
              low = λ slot. rw f (rw (zeros-at 24 slot) (omega arith));
            };
        node = empty-node day;
        least = rw e (none-sums day.mins);
        most = rw f (none-sums day.maxs);
        unfinished = o;
        numbers = n;
      }

  -- the walk stands at last where all its events lead
  pub all-answers : (tables domains : List ℕ) {plan' sums' fills' : List ℕ} {before after : Standing}
      → Walked first room 0 (events_from day tables (length plan - 0) (take 0 plan) sums fills domains) plan plan' sums sums' fills fills' before after
      → after ≡ run first room before (events_from day tables day.counts.choices [] (replicate 24 0) (replicate 24 0) domains)
  all-answers tables domains {before = before} g =
      g.stands
      ∙ ap (λ (i : ℕ). run first room before (events_from day tables i [] sums fills domains)) (sub-zero (length plan) ∙ p)
      ∙ rw (e, f)
