-- A pass settles whether there is a good plan: a plan found is a good one, and a full pass that ends without
-- a plan, at a limit whose sets are all choices, has passed no good plan by.
use mathlib.Core.Path.{◌≡◌, refl, sym, ◌∙◌, ap}
use mathlib.Core.Bool.{Bool, true, false, cond, false≢true}
use mathlib.Core.List.{List, []}
use Prim.Native.Nat.{ℕ, suc, ◌+◌, ◌≤◌, ◌<◌}
use native.Mathlib.Decide.{dec_lt}
use native.Mathlib.Omega.{arith}
use borrow.Author.Tests.{lt-ltb, le-ltb, eqb-true}
use lib.Dec.{eqb, ltb}
use lib.ListN.{length, get_or, take}
use lib.Seq.{length-take-le, take_all, get_or-take, ext_get_or}
use Rattle.base_lists.proofs.Lists.{get_d_any}
use Rattle.plan_check.specs.Plan.{slot_of}
use Rattle.plan_check.specs.Feasible.{feasible}
use Rattle.plan_check.proofs.Meaning.{feasible_means, feasible-by}
use Rattle.search_rules.specs.Walk.{Sight, goal, over, on, Out, hit, dry, cut}
use Rattle.search_rules.specs.Turns.{turns_enough}
use Rattle.search_rules.proofs.Sound.{hit-goal}
use Rattle.search_rules.proofs.Complete.{Next, dry-none}
use Rattle.search_rules.proofs.Spent.{pass_uncut, hit-leaves, dry-leaves}
use Rattle.search_candidates.specs.Allow.{undecided, decision_of}
use Rattle.search_rules.specs.Decided.{decided}
use Rattle.search_rules.specs.Pass.{Lent, choice_at, candidates_at, draw_after, plan_of, sight_full, sight_as_the_rust, sight_at, pass_of}
use Rattle.search_rules.proofs.Along.{GoesOn, goes_depth, decided-length, decided_in}
use Rattle.search_rules.proofs.RowsAlong.{GoodPlan}
use Rattle.search_rules.proofs.SetsAlong.{SetsWhole}
use Rattle.search_rules.proofs.InBucket.{OwnPass, in_bucket, few, none-at-end}

-- ---- sights told apart

abbrev sight_number : Sight → ℕ
sight_number goal = 0
sight_number over = 1
sight_number on = 2

goal-not-on : goal ≡ on → ⊥
goal-not-on e = let z : ◌≡◌ {A = ℕ} 0 2 = ap sight_number e in absurd (omega arith)

goal-not-over : goal ≡ over → ⊥
goal-not-over e = let z : ◌≡◌ {A = ℕ} 0 1 = ap sight_number e in absurd (omega arith)

on-not-over : on ≡ over → ⊥
on-not-over e = let z : ◌≡◌ {A = ℕ} 2 1 = ap sight_number e in absurd (omega arith)

-- ---- what stands at the places decided

module _ (lent : Lent) where
  -- below depth C the pass goes on
  pub sight_below : (places : List ℕ) → length places < lent.day.counts.choices → sight_at lent places ≡ on
  unfolding sight_at
  sight_below places h = rw (lt-ltb (length places) lent.day.counts.choices h)

  full-goal : (passes : Bool) → sight_full lent.day passes ≡ goal → passes ≡ true
  unfolding sight_full
  full-goal true e = refl
  full-goal false e = go (eqb lent.day.counts.choices 0) e
    where
      go : (b : Bool) → cond b over on ≡ goal → false ≡ true
      go true e = absurd (goal-not-over (sym e))
      go false e = absurd (goal-not-on (sym e))

  rust_goal : (passes : Bool) → sight_as_the_rust lent.day passes ≡ goal → passes ≡ true
  unfolding sight_as_the_rust
  rust_goal true e = refl
  rust_goal false e = go (eqb lent.day.counts.slots 0) e
    where
      go : (b : Bool) → cond b over over ≡ goal → false ≡ true
      go true e = absurd (goal-not-over (sym e))
      go false e = absurd (goal-not-over (sym e))

  -- a goal is a plan that passes the check, full or as the Rust
  pub goal-feasible : (places : List ℕ) → sight_at lent places ≡ goal → feasible lent.day (plan_of lent places) ≡ true
  unfolding sight_at
  goal-feasible places e = go (ltb (length places) lent.day.counts.choices) lent.full e
    where
      go : (below full : Bool)
          → cond below on (cond full (sight_full lent.day (feasible lent.day (plan_of lent places))) (sight_as_the_rust lent.day (feasible lent.day (plan_of lent places)))) ≡ goal
          → feasible lent.day (plan_of lent places) ≡ true
      go true full e = absurd (goal-not-on (sym e))
      go false true e = full-goal (feasible lent.day (plan_of lent places)) e
      go false false e = rust_goal (feasible lent.day (plan_of lent places)) e

  -- full: a plan that passes the check is a goal
  pub feasible-goal : lent.full ≡ true → (places : List ℕ) → lent.day.counts.choices ≤ length places → feasible lent.day (plan_of lent places) ≡ true → sight_at lent places ≡ goal
  unfolding sight_at sight_full
  feasible-goal f places h p =
      let passes = feasible lent.day (plan_of lent places) in
      ap (λ (b : Bool). cond b on (cond lent.full (sight_full lent.day passes) (sight_as_the_rust lent.day passes))) (le-ltb (length places) lent.day.counts.choices h)
      ∙ ap (λ (b : Bool). cond b (sight_full lent.day passes) (sight_as_the_rust lent.day passes)) f
      ∙ ap (λ (b : Bool). sight_full lent.day b) p

  -- full: the pass is over only at depth C where C is 0
  over_none : (passes : Bool) → sight_full lent.day passes ≡ over → lent.day.counts.choices ≡ 0
  unfolding sight_full
  over_none true e = absurd (goal-not-over e)
  over_none false e = go (eqb lent.day.counts.choices 0) refl e
    where
      go : (b : Bool) → eqb lent.day.counts.choices 0 ≡ b → cond b over on ≡ over → lent.day.counts.choices ≡ 0
      go true t e = eqb-true lent.day.counts.choices 0 t
      go false t e = absurd (on-not-over e)

  pub over-empty : lent.full ≡ true → (places : List ℕ) → sight_at lent places ≡ over → lent.day.counts.choices ≡ 0
  unfolding sight_at
  over-empty f places e = go (ltb (length places) lent.day.counts.choices) lent.full f e
    where
      go : (below full : Bool) → full ≡ true
          → cond below on (cond full (sight_full lent.day (feasible lent.day (plan_of lent places))) (sight_as_the_rust lent.day (feasible lent.day (plan_of lent places)))) ≡ over
          → lent.day.counts.choices ≡ 0
      go true full f e = absurd (on-not-over e)
      go false true f e = over_none (feasible lent.day (plan_of lent places)) e
      go false false f e = absurd (false≢true f)

  -- ---- the plan of the places

  pub plan-length : lent.day.counts.choices ≤ 64 → (places : List ℕ) → length (plan_of lent places) ≡ lent.day.counts.choices
  unfolding plan_of
  plan-length h places = length-take-le lent.day.counts.choices (decided lent.order places) (rw (decided-length lent.order places) h)

  -- an entry of the plan decided, where what is decided is as in a plan
  plan-entry : lent.day.counts.choices ≤ 64 → (places plan : List ℕ) (i : ℕ) → i < lent.day.counts.choices
      → decision_of (decided lent.order places) i ≡ slot_of plan i → get_or (plan_of lent places) i 255 ≡ get_or plan i 255
  unfolding plan_of decision_of slot_of
  plan-entry few places plan i h d =
      get_or-take lent.day.counts.choices (decided lent.order places) i 255 h
      ∙ get_d_any (decided lent.order places) i 255 undecided (rw (decided-length lent.order places) (omega arith)) ∙ d

  module _ (own : OwnPass lent) where
    -- a plan that goes on to depth C is the plan decided
    pub plan-reached : (plan : List ℕ) → GoodPlan lent.day plan → (places : List ℕ) → GoesOn lent.day.counts.choices lent.order places plan
        → length places ≡ lent.day.counts.choices → plan_of lent places ≡ plan
    plan-reached plan good places goes e =
        let all : take (length places) lent.order ≡ lent.order = take_all (length places) lent.order (omega (arith, e, own.arranged.long)) in
        ext_get_or 255 (plan_of lent places) plan (plan-length own.choices_in places ∙ sym good.long)
        λ i h.
        let below : i < lent.day.counts.choices = rw (plan-length own.choices_in places) at h in
        plan-entry own.choices_in places plan i below
        (decided_in lent.day.counts.choices lent.order own.arranged own.choices_in plan places goes i (rw all (own.arranged.covers i below)))

    module _ (full : lent.full ≡ true) (whole : SetsWhole lent.day lent.sets) where
      abbrev Goes : List ℕ → List ℕ → Type 0
      Goes places plan = GoesOn lent.day.counts.choices lent.order places plan

      -- a good plan that goes on to depth C stands at a goal
      pub reached-goal : (plan : List ℕ) → GoodPlan lent.day plan → (places : List ℕ) → Goes places plan → lent.day.counts.choices ≤ length places → sight_at lent places ≡ goal
      reached-goal plan good places goes h =
          let e : length places ≡ lent.day.counts.choices = omega (arith, goes_depth lent.day.counts.choices lent.order places plan goes) in
          feasible-goal full places h (ap (feasible lent.day) (plan-reached plan good places goes e) ∙ feasible-by lent.day plan good.passes)

      -- a good plan that goes on to a depth below C goes on with a candidate
      pub grow : (places : List ℕ) (draw : ℕ) → sight_at lent places ≡ on → (plan : List ℕ) → GoodPlan lent.day plan → Goes places plan → Next Goes (candidates_at lent places draw) places plan
      unfolding choice_at
      grow places draw s plan good goes =
          elim (dec_lt (length places) lent.day.counts.choices) [
            | yes h ↦ (slot_of plan (get_or lent.order (length places) 0), in_bucket lent own plan good places goes h draw whole, (h, refl, goes))
            | no n ↦ absurd (goal-not-on (sym (reached-goal plan good places goes (omega (arith, n))) ∙ s))
          ]

      -- where the pass is over no good plan goes on
      pub lone : (places : List ℕ) → sight_at lent places ≡ over → (plan : List ℕ) → GoodPlan lent.day plan → Goes [] plan → ⊥
      lone places s plan good goes =
          let none : lent.day.counts.choices ≡ 0 = over-empty full places s in
          let same : plan_of lent places ≡ plan =
          ext_get_or 255 (plan_of lent places) plan (plan-length own.choices_in places ∙ sym good.long)
          (λ i h. absurd (omega (arith, h, none, plan-length own.choices_in places))) in
          goal-not-over (sym (feasible-goal full places (omega arith) (ap (feasible lent.day) same ∙ feasible-by lent.day plan good.passes)) ∙ s)

-- ---- the pass

module _ (lent : Lent) (budget draw : ℕ) where
  -- a plan found is a good plan: full or as the Rust, at any limit, by any map and any order
  pub found-good : lent.day.counts.choices ≤ 64 → (left : ℕ) (places : List ℕ) (draw' : ℕ) → pass_of lent budget draw ≡ hit left places draw' → GoodPlan lent.day (plan_of lent places)
  unfolding pass_of
  found-good few left places draw' e =
      record {
        long = plan-length lent few places;
        passes = feasible_means lent.day (plan_of lent places)
            (goal-feasible lent places (hit-goal (sight_at lent) (candidates_at lent) (draw_after lent) budget draw left places draw' e));
      }

  -- a full pass with the own map that ends without a plan, where each set is all choices: there is no good
  -- plan
  pub none-good : OwnPass lent → lent.full ≡ true → SetsWhole lent.day lent.sets → (left draw' : ℕ) → pass_of lent budget draw ≡ dry left draw'
      → (plan : List ℕ) → GoodPlan lent.day plan → ⊥
  unfolding pass_of
  none-good own full whole left draw' e plan good =
      dry-none (sight_at lent) (candidates_at lent) (draw_after lent) (GoodPlan lent.day) (GoesOn lent.day.counts.choices lent.order)
      (grow lent own full whole) (lone lent own full whole) budget draw left draw' e plan good tt

  -- with enough turns a pass isn't cut
  pub not-cut : turns_enough (suc lent.day.counts.slots) lent.day.counts.choices ≤ budget → (draw' : ℕ) → pass_of lent budget draw ≡ cut draw' → ⊥
  unfolding pass_of
  not-cut h draw' e =
      pass_uncut (sight_at lent) (candidates_at lent) (draw_after lent) (suc lent.day.counts.slots) lent.day.counts.choices
      (few lent) (none-at-end lent) budget draw draw' h e

  -- with enough turns a pass leaves all but those that are enough
  pub found-leaves : (left : ℕ) (places : List ℕ) (draw' : ℕ) → pass_of lent budget draw ≡ hit left places draw'
      → budget ≤ left + turns_enough (suc lent.day.counts.slots) lent.day.counts.choices
  unfolding pass_of
  found-leaves left places draw' e =
      hit-leaves (sight_at lent) (candidates_at lent) (draw_after lent) (suc lent.day.counts.slots) lent.day.counts.choices
      (few lent) (none-at-end lent) budget draw left places draw' e

  pub none-leaves : (left draw' : ℕ) → pass_of lent budget draw ≡ dry left draw' → budget ≤ left + turns_enough (suc lent.day.counts.slots) lent.day.counts.choices
  unfolding pass_of
  none-leaves left draw' e =
      dry-leaves (sight_at lent) (candidates_at lent) (draw_after lent) (suc lent.day.counts.slots) lent.day.counts.choices
      (few lent) (none-at-end lent) budget draw left draw' e

  -- how a pass with enough turns ends: with a good plan, or without one and there is none
  pub data Settled : Type 0 where
    found : (left : ℕ) (places : List ℕ) (draw' : ℕ) → pass_of lent budget draw ≡ hit left places draw' → GoodPlan lent.day (plan_of lent places) → Settled
    none : (left draw' : ℕ) → pass_of lent budget draw ≡ dry left draw' → ((plan : List ℕ) → GoodPlan lent.day plan → ⊥) → Settled

  pub pass-settles : OwnPass lent → lent.full ≡ true → SetsWhole lent.day lent.sets
      → turns_enough (suc lent.day.counts.slots) lent.day.counts.choices ≤ budget → Settled
  pass-settles own full whole h = go (pass_of lent budget draw) refl
    where
      go : (out : Out) → pass_of lent budget draw ≡ out → Settled
      go (hit left places draw') e = found left places draw' e (found-good own.choices_in left places draw' e)
      go (dry left draw') e = none left draw' e (none-good own full whole left draw' e)
      go (cut draw') e = absurd (not-cut h draw' e)
