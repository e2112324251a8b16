-- What a plan is: the page's words are those of the plan check, of demand 3 and of the list.
use mathlib.Core.Path.{◌≡◌, refl, sym, ◌∙◌, ap}
use mathlib.Core.Bool.{Bool, true, ◌&&◌}
use mathlib.Core.List.{List, ◌∷◌}
use mathlib.Core.Logic.{◌↔◌, ◌⊎◌, inl, inr, ⊎_elim}
use Prim.Native.Nat.{ℕ, suc, ◌≤◌, ◌<◌}
use native.Mathlib.Omega.{arith}
use borrow.Author.Tests.{eqb-true}
use lib.Dec.{eqb}
use lib.ListN.{length, get_or}
use lib.Seq.{take_all}
use Rattle.base_lists.proofs.Below.{and_left, and_right}
use Rattle.day_rows.specs.Check.{counts_in_range}
use Rattle.day_rows.specs.declared.check.Takes.TheVariants.{Scheduling}
use Rattle.day_rows.specs.Told.{done}
use Rattle.day_rows.proofs.ToldLaws.{done-is, unless-done, then_done}
use Rattle.plan_check.specs.Day.{Day}
use Rattle.plan_check.specs.Plan.{slot_of}
use Rattle.plan_check.specs.PlanMeans.{Placed, scheduled, left_out, Feasible}
use Rattle.plan_check.specs.Feasible.{lengths_fit, feasible}
use Rattle.plan_check.specs.Check.{cells_judged, before_cells, plan_judged, plan_check_of}
use Rattle.plan_check.proofs.Meaning.{feasible_means, feasible-by}
use Rattle.list_nodes.specs.Placements.{plans, page, total}
use Rattle.list_nodes.proofs.Members.{listed-feasible, feasible-listed}
use Rattle.list_nodes.proofs.Order as order
use Rattle.list_nodes.proofs.Order.{plan-before, plan-once}
use Rattle.list_nodes.proofs.Pages.{page_join}
use Rattle.promises.specs.Words.{Before}
use Rattle.promises.specs.Promises.{PlanOf, ListIsAll}

module _ (day : Day) (list : List ℕ) where
  pub plan_of : length list ≡ day.counts.choices → Feasible day list → PlanOf day list
  plan_of e f =
      record {
        long = e;
        places = λ station h. place station (f.places station (omega (arith, h, e)));
        sums = λ block h. (f.minimums block h, f.maximums block h);
        rules = f.rows;
      }
    where
      place : (station : ℕ) → Placed day.counts.slots day.optional list station
          → (slot_of list station < day.counts.slots) ⊎ ((slot_of list station ≡ 255) × (get_or day.optional station 0 ≡ 1))
      place station (scheduled h) = inl h
      place station (left_out o e) = inr (o, e)

  pub of_plan : PlanOf day list → Feasible day list
  of_plan p =
      record {
        places = λ station h. ⊎_elim scheduled (λ o. left_out o.0 o.1) (p.places station (let l = p.long in omega (arith, h, l)));
        minimums = λ block h. (p.sums block h).0;
        maximums = λ block h. (p.sums block h).1;
        rows = p.rules;
      }

  -- the plan check
  checked_long : lengths_fit day.counts.choices day.mins day.maxs day.optional list ≡ true → length list ≡ day.counts.choices
  unfolding lengths_fit
  checked_long h =
      let m = eqb (length day.mins) day.counts.choices in
      let x = eqb (length day.maxs) day.counts.choices in
      let o = eqb (length day.optional) day.counts.choices in
      eqb-true _ _ (and_right (m && x && o) (eqb (length list) day.counts.choices) h)

  pub check-is : (passes : Bool) → plan_check_of day list ≡ done passes → (passes ≡ true) ↔ PlanOf day list
  unfolding plan_check_of plan_judged before_cells
  check-is passes e =
      let fits = lengths_fit day.counts.choices day.mins day.maxs day.optional list in
      let rows = eqb (length day.rows) day.counts.rows in
      let d = then_done (plan_judged day list) (done (feasible day list)) e in
      let j = then_done (before_cells day list) (cells_judged day.counts.slots day.optional list) d.0 in
      let r = unless-done (counts_in_range day.counts Scheduling) 1 _ j.0 in
      let l = unless-done (fits && rows) 2 _ r.1 in
      let long = checked_long (and_left fits rows l.0) in
      let same : feasible day list ≡ passes = done-is d.1 in
      (λ t. plan_of long (feasible_means day list (same ∙ t)), λ p. sym same ∙ feasible-by day list (of_plan p))

-- ---- the list

-- the page's order is the list's
before-is : {one other : List ℕ} → order.Before one other → Before one other
unfolding slot_of
before-is (order.here h) = (0, refl, h)
before-is (order.later {x} b) = let p = before-is b in (suc p.0, ap (λ (l : List ℕ). x ∷ l) p.1, p.2)

module _ (day : Day) (few : day.counts.slots ≤ 24) where
  whole-page : (room : ℕ) → total day ≤ room → page day 0 room ≡ plans day
  unfolding page total
  whole-page room h = take_all room (plans day) h

  pub list-is-all : ListIsAll day
  unfolding total
  list-is-all =
      record {
        every = λ plan. (
          λ m. let l = listed-feasible day plan m in plan_of day plan l.1 (feasible_means day plan l.0),
          λ p. feasible-listed day plan p.long (feasible-by day plan (of_plan day plan p)),
        );
        in_order = λ i j a b. before-is (plan-before day few i j a b);
        once = plan-once day few;
        joined = page_join day;
        whole = whole-page;
      }
