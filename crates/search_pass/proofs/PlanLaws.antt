-- Before the walk: what remains at depth 0, and what a pass takes.
use mathlib.Core.Path.{◌≡◌, sym, ◌∙◌, ap}
use mathlib.Core.Bool.{Bool, true, false, ◌&&◌}
use mathlib.Core.List.{List}
use Prim.Native.Nat.{ℕ, suc, ◌+◌, ◌*◌, ◌≤◌, ◌<◌}
use native.Mathlib.Omega.{arith}
use borrow.Author.Tests.{leb-true, eqb-true}
use lib.Dec.{eqb, leb}
use lib.ListN.{length, get_or, drop, drop_of_length-le}
use lib.Seq.{drop-cons}
use Rattle.base_lists.specs.Keep.{sum_over}
use Rattle.base_lists.proofs.Below.{and_left, and_right}
use Rattle.plan_check.specs.Day.{Day}
use Rattle.plan_check.specs.Feasible.{lengths_fit, shapes_fit}
use Rattle.search_order.specs.Order.{is_permutation}
use Rattle.search_order.proofs.OrderLaws.{permutation_length, below}
use Rattle.search_rules.specs.Pass.{Lent, remaining_at, pass_of}
use Rattle.search_pass.specs.steps.Call.{Leaves, leaves, without, left_by, pass_fits, pass_leaves}
use Rattle.search_pass.specs.steps.Taken.{Taken, Within}

-- ---- the maximums summed

pub record Adding (order maxs : List ℕ) (sum i : ℕ) : Type 0 where
  pub within : i ≤ length order
  pub fits : sum ≤ 65535 * i
  pub rest : sum + sum_over (λ choice. get_or maxs choice 0) (drop i order) ≡ sum_over (λ choice. get_or maxs choice 0) order

module _ (order maxs : List ℕ) where
  pub adding_start : Adding order maxs 0 0
  adding_start = record { within = omega arith; fits = omega arith; rest = omega arith }

  pub adding_more : (sum i v choice : ℕ) → Adding order maxs sum i → i < length order → choice ≡ get_or order i 0 → v ≡ get_or maxs choice 0 → v ≤ 65535 → Adding order maxs (sum + v) (i + 1)
  unfolding sum_over
  adding_more sum i v choice k h ec ev b =
      let f : ℕ → ℕ = λ choice. get_or maxs choice 0 in
      let e : suc i ≡ i + 1 = omega arith in
      let s : sum_over f (drop i order) ≡ v + sum_over f (drop (i + 1) order)
      = ap (sum_over f) (drop-cons order i 0 h) ∙ ap (λ (x : ℕ). x + sum_over f (drop (suc i) order)) (sym (ev ∙ ap f ec)) ∙ ap (λ (n : ℕ). v + sum_over f (drop n order)) e in
      record { within = omega arith; fits = omega (arith, k.fits); rest = omega (arith, k.rest) }

  pub adding_end : (sum i : ℕ) → Adding order maxs sum i → length order ≤ i → sum ≡ sum_over (λ choice. get_or maxs choice 0) order
  unfolding sum_over
  adding_end sum i k h =
      let f : ℕ → ℕ = λ choice. get_or maxs choice 0 in
      let z : sum_over f (drop i order) ≡ 0 = ap (sum_over f) (drop_of_length-le order h) in
      omega (arith, k.rest)

  pub choice-there : (i choice : ℕ) → Within order (length maxs) → i < length order → choice ≡ get_or order i 0 → choice < length maxs
  unfolding Within
  choice-there i choice w h e = rw e (w i h)

-- at depth 0 all maximums remain
pub remains-all : (lent : Lent) (remaining : ℕ) → remaining ≡ sum_over (λ choice. get_or lent.day.maxs choice 0) lent.order → remaining ≡ remaining_at lent 0
unfolding remaining_at
remains-all lent remaining e = e

pub order-within : (lent : Lent) → Taken lent → Within lent.order (length lent.day.maxs)
unfolding Within
order-within lent t i h = omega (arith, below _ _ t.ordered i (omega (arith, permutation_length _ _ t.ordered)), t.maxs-fit)

pub order-few : (lent : Lent) → Taken lent → length lent.order ≤ 64
order-few lent t = omega (arith, permutation_length _ _ t.ordered, t.few-choices)

-- ---- what is taken

module _ (lent : Lent) (plan : List ℕ) (fits : Bool) (f : fits ≡ shapes_fit lent.day plan) where
  pub fits_not : fits ≡ false → false ≡ pass_fits lent plan
  unfolding pass_fits
  fits_not e = rw (sym f, e)

  pub fits-ordered : (permuted : Bool) → fits ≡ true → permuted ≡ is_permutation lent.day.counts.choices lent.order → permuted ≡ pass_fits lent plan
  unfolding pass_fits
  fits-ordered permuted e p = rw (sym f, e) p

module _ (lent : Lent) (plan : List ℕ) (budget draw : ℕ) (fits : Bool) (f : fits ≡ pass_fits lent plan) where
  pub pass-not-taken : fits ≡ false → leaves (without budget draw) plan ≡ pass_leaves lent budget draw plan
  unfolding pass_leaves
  pass-not-taken e = rw (sym f, e)

  pub pass-walked : (left : Leaves) → fits ≡ true → left ≡ left_by lent plan (pass_of lent budget draw) → left ≡ pass_leaves lent budget draw plan
  unfolding pass_leaves
  pass-walked left e w = rw (sym f, e) w

-- what the tests say of what is lent
module _ (lent : Lent) (plan : List ℕ) (fits : pass_fits lent plan ≡ true) where
  abbrev day : Day
  day = lent.day

  abbrev choices : ℕ
  choices = lent.day.counts.choices

  h : shapes_fit day plan ≡ true
  unfolding pass_fits
  h = and_left (shapes_fit day plan) (is_permutation choices lent.order) fits

  ordered : is_permutation choices lent.order ≡ true
  unfolding pass_fits
  ordered = and_right (shapes_fit day plan) (is_permutation choices lent.order) fits

  sizes-fit : (leb choices 64 && leb day.counts.slots 24) ≡ true
  unfolding shapes_fit
  sizes-fit = and_left (leb choices 64 && leb day.counts.slots 24) (lengths_fit choices day.mins day.maxs day.optional plan) h

  lengths-fit : (eqb (length day.mins) choices && eqb (length day.maxs) choices && eqb (length day.optional) choices && eqb (length plan) choices) ≡ true
  unfolding shapes_fit lengths_fit
  lengths-fit = and_right (leb choices 64 && leb day.counts.slots 24) (lengths_fit choices day.mins day.maxs day.optional plan) h

  lists-fit : (eqb (length day.mins) choices && eqb (length day.maxs) choices && eqb (length day.optional) choices) ≡ true
  lists-fit = and_left (eqb (length day.mins) choices && eqb (length day.maxs) choices && eqb (length day.optional) choices) (eqb (length plan) choices) lengths-fit

  pub plan-fits : length plan ≡ choices
  plan-fits = eqb-true _ _ (and_right (eqb (length day.mins) choices && eqb (length day.maxs) choices && eqb (length day.optional) choices) (eqb (length plan) choices) lengths-fit)

  amounts_fit : (eqb (length day.mins) choices && eqb (length day.maxs) choices) ≡ true
  amounts_fit = and_left (eqb (length day.mins) choices && eqb (length day.maxs) choices) (eqb (length day.optional) choices) lists-fit

  pub walk-taken : Taken lent
  walk-taken =
      record {
        few-choices = leb-true _ _ (and_left (leb choices 64) (leb day.counts.slots 24) sizes-fit);
        few-slots = leb-true _ _ (and_right (leb choices 64) (leb day.counts.slots 24) sizes-fit);
        mins-fit = eqb-true _ _ (and_left (eqb (length day.mins) choices) (eqb (length day.maxs) choices) amounts_fit);
        maxs-fit = eqb-true _ _ (and_right (eqb (length day.mins) choices) (eqb (length day.maxs) choices) amounts_fit);
        optional-fits = eqb-true _ _ (and_right (eqb (length day.mins) choices && eqb (length day.maxs) choices) (eqb (length day.optional) choices) lists-fit);
        ordered = ordered;
      }
