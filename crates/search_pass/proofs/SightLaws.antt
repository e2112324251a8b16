-- What the code sees at a depth, and the plan that it writes, are the rule's.
use mathlib.Core.Path.{◌≡◌, sym, ap}
use mathlib.Core.Bool.{Bool, cond}
use mathlib.Core.List.{List}
use Prim.Native.Nat.{ℕ, ◌≤◌}
use native.Mathlib.Omega.{arith}
use borrow.Author.Tests.{le-leb, eq-eqb}
use lib.Dec.{ltb}
use lib.ListN.{length, take}
use lib.Seq.{length-take-le}
use Rattle.plan_check.specs.Feasible.{feasible, lengths_fit, shapes_fit, is_feasible}
use Rattle.search_rules.specs.Walk.{on}
use Rattle.search_rules.specs.Decided.{decided}
use Rattle.search_rules.specs.Pass.{Lent, sight_full, sight_as_the_rust, plan_of, sight_at}
use Rattle.search_turn.specs.steps.Seen.{sight_from, plan_left}
use Rattle.search_pass.specs.steps.Taken.{Taken}
use Rattle.search_pass.proofs.DecidedLaws.{decided-length}

module _ (lent : Lent) (t : Taken lent) where
  -- the shape is a day's, so that the check is the plan check
  check-is : (decisions : List ℕ) → length decisions ≡ 64 → is_feasible lent.day (take lent.day.counts.choices decisions) ≡ feasible lent.day (take lent.day.counts.choices decisions)
  unfolding is_feasible shapes_fit lengths_fit
  check-is decisions l =
      rw (
        le-leb _ _ t.few-choices,
        le-leb _ _ t.few-slots,
        eq-eqb _ _ t.mins-fit,
        eq-eqb _ _ t.maxs-fit,
        eq-eqb _ _ t.optional-fits,
        eq-eqb _ _ (length-take-le lent.day.counts.choices decisions (omega (arith, t.few-choices))),
      )

  -- what stands at the places decided
  pub sight_are : (places : List ℕ) → sight_at lent places ≡ sight_from lent.full lent.day (decided lent.order places) (length places)
  unfolding sight_at sight_from plan_of
  sight_are places =
      ap (λ (passes : Bool). cond (ltb (length places) lent.day.counts.choices) on (cond lent.full (sight_full lent.day passes) (sight_as_the_rust lent.day passes)))
      (sym (check-is (decided lent.order places) (decided-length lent.order places)))

  -- a plan of C entries is written whole
  pub plan-written : (decisions plan plan' : List ℕ) → length decisions ≡ 64 → length plan ≡ lent.day.counts.choices → plan' ≡ plan_left decisions plan
      → plan' ≡ take lent.day.counts.choices decisions
  unfolding plan_left
  plan-written decisions plan plan' l n e =
      let h : length plan ≤ length decisions = omega (arith, t.few-choices) in
      rw (le-leb _ _ h, n) at e
