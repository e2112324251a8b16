-- `is_feasible`, the worker, and its three passes: a law for each way through them.
use mathlib.Core.Path.{◌≡◌, sym, ◌∙◌}
use mathlib.Core.Bool.{true, false, ◌&&◌}
use mathlib.Core.List.{List}
use Prim.Native.Nat.{ℕ, ◌≤◌, ◌<◌}
use borrow.Author.Tests.{le-leb, lt-leb, eqb-true}
use lib.Dec.{eqb}
use lib.ListN.{length}
use Rattle.base_lists.specs.Below.{all_below}
use Rattle.base_lists.proofs.Below.{and_left, and_right}
use Rattle.plan_check.specs.Day.{Day}
use Rattle.plan_check.specs.Rows.{keeps_rows}
use Rattle.plan_check.specs.Feasible.{places_allowed, slot_fits, feasible, lengths_fit, shapes_fit, is_feasible}
use Rattle.plan_check.specs.steps.Sums.{Shapes}

-- where the lengths fit, each is the number of choices
module _ (choices : ℕ) (mins maxs optional plan : List ℕ) (h : lengths_fit choices mins maxs optional plan ≡ true) where
  three : (eqb (length mins) choices && eqb (length maxs) choices && eqb (length optional) choices) ≡ true
  unfolding lengths_fit
  three =
      and_left (eqb (length mins) choices && eqb (length maxs) choices && eqb (length optional) choices) (eqb (length plan) choices) h

  two : (eqb (length mins) choices && eqb (length maxs) choices) ≡ true
  two = and_left (eqb (length mins) choices && eqb (length maxs) choices) (eqb (length optional) choices) three

  pub mins-length : length mins ≡ choices
  mins-length = eqb-true _ _ (and_left (eqb (length mins) choices) (eqb (length maxs) choices) two)

  pub maxs-length : length maxs ≡ choices
  maxs-length = eqb-true _ _ (and_right (eqb (length mins) choices) (eqb (length maxs) choices) two)

  pub optional-length : length optional ≡ choices
  optional-length =
      eqb-true _ _ (and_right (eqb (length mins) choices && eqb (length maxs) choices) (eqb (length optional) choices) three)

  pub plan-length : length plan ≡ choices
  unfolding lengths_fit
  plan-length =
      eqb-true _ _ (and_right (eqb (length mins) choices && eqb (length maxs) choices && eqb (length optional) choices) (eqb (length plan) choices) h)

module _ (day : Day) (plan : List ℕ) where
  -- the three passes: a place that isn't allowed, sums that don't fit, and else the rows
  pub bad_places : places_allowed day.counts.slots day.optional plan ≡ false → false ≡ feasible day plan
  unfolding feasible
  bad_places h = rw h

  pub bad_sums : places_allowed day.counts.slots day.optional plan ≡ true
      → all_below day.counts.slots (slot_fits day.counts.choosers day.mins day.maxs plan) ≡ false → false ≡ feasible day plan
  unfolding feasible
  bad_sums p h = rw (p, h)

  pub rows_decide : places_allowed day.counts.slots day.optional plan ≡ true
      → all_below day.counts.slots (slot_fits day.counts.choosers day.mins day.maxs plan) ≡ true → keeps_rows plan day.rows ≡ feasible day plan
  unfolding feasible
  rows_decide p h = rw (p, h)

  -- what has no day's shape is not feasible by the worker
  pub many-choices : 64 < day.counts.choices → false ≡ is_feasible day plan
  unfolding is_feasible shapes_fit
  many-choices h = rw (lt-leb _ _ h)

  pub many-slots : day.counts.choices ≤ 64 → 24 < day.counts.slots → false ≡ is_feasible day plan
  unfolding is_feasible shapes_fit
  many-slots c h = rw (le-leb _ _ c, lt-leb _ _ h)

  pub bad_lengths : day.counts.choices ≤ 64 → day.counts.slots ≤ 24
      → lengths_fit day.counts.choices day.mins day.maxs day.optional plan ≡ false → false ≡ is_feasible day plan
  unfolding is_feasible shapes_fit
  bad_lengths c s h = rw (le-leb _ _ c, le-leb _ _ s, h)

  -- on what has the shape of a day the worker says what the plan check says
  pub worker_agrees : day.counts.choices ≤ 64 → day.counts.slots ≤ 24
      → lengths_fit day.counts.choices day.mins day.maxs day.optional plan ≡ true → feasible day plan ≡ is_feasible day plan
  unfolding is_feasible shapes_fit
  worker_agrees c s h = rw (le-leb _ _ c, le-leb _ _ s, h)

  pub shapes : day.counts.choices ≤ 64 → day.counts.slots ≤ 24
      → lengths_fit day.counts.choices day.mins day.maxs day.optional plan ≡ true
      → Shapes day.counts.slots day.mins day.maxs day.optional plan
  shapes c s h =
      let p : length plan ≡ day.counts.choices = plan-length _ _ _ _ _ h in
      record {
        few-slots = s;
        few-choices = rw p c;
        mins-fit = mins-length _ _ _ _ _ h ∙ sym p;
        maxs-fit = maxs-length _ _ _ _ _ h ∙ sym p;
        optional-fits = optional-length _ _ _ _ _ h ∙ sym p;
      }
