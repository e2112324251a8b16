-- The refusals of the call, in their order, and what isn't refused.
use mathlib.Core.Path.{◌≡◌, sym}
use mathlib.Core.Bool.{true, false, ◌&&◌}
use mathlib.Core.List.{List}
use Prim.Native.Nat.{ℕ, ◌*◌, ◌/◌, ◌≤◌, ◌<◌}
use native.Mathlib.Nat.{mul-zero, le-div_iff_mul-le, div-lt_iff_lt-mul, pos_of_ne-zero}
use native.Mathlib.Omega.{arith}
use borrow.Author.Tests.{eq-eqb, ne_eqb, eqb-true}
use lib.Dec.{eqb}
use lib.ListN.{length}
use Rattle.base_lists.specs.All.{all_at_most}
use Rattle.base_lists.proofs.Below.{and_left, and_right}
use Rattle.day_rows.specs.Check.{counts_in_range, rows_judged}
use Rattle.day_rows.specs.Told.{refused, good, refuse}
use Rattle.day_rows.specs.declared.check.Takes.TheVariants.{Scheduling}
use Rattle.day_rows.proofs.ToldLaws.{unless-done}
use Rattle.day_rows.proofs.CountLaws.{Within, within}
use Rattle.plan_check.specs.Day.{Day}
use Rattle.plan_check.specs.Check.{flags_judged}
use Rattle.list_nodes.specs.Judge.{list_lengths_fit, judge_of}
use Rattle.list_nodes.specs.steps.Runs.{Judged}

-- ---- the buffer's length

module _ (size room choices : ℕ) where
  pub room-none : choices ≡ 0 → eqb size 0 ≡ eqb size (room * choices)
  room-none e = rw (e, mul-zero)

  pub room-over : (choices ≡ 0 → ⊥) → size / choices < room → false ≡ eqb size (room * choices)
  room-over n h =
      let o : size < room * choices = (div-lt_iff_lt-mul (pos_of_ne-zero n)).0 h in
      sym (ne_eqb size (room * choices) (λ e. omega arith))

  pub room_fits : (choices ≡ 0 → ⊥) → room ≤ size / choices → room * choices ≤ size
  room_fits n h = (le-div_iff_mul-le (pos_of_ne-zero n)).0 h

-- ---- the lengths, one after the other

module _ (day : Day) (room size : ℕ) where
  pub mins_differ : (length day.mins ≡ day.counts.choices → ⊥) → false ≡ list_lengths_fit day room size
  unfolding list_lengths_fit
  mins_differ n = rw (ne_eqb _ _ n)

  module _ (a : length day.mins ≡ day.counts.choices) where
    pub maxs_differ : (length day.maxs ≡ day.counts.choices → ⊥) → false ≡ list_lengths_fit day room size
    unfolding list_lengths_fit
    maxs_differ n = rw (eq-eqb _ _ a, ne_eqb _ _ n)

    module _ (b : length day.maxs ≡ day.counts.choices) where
      pub optional_differ : (length day.optional ≡ day.counts.choices → ⊥) → false ≡ list_lengths_fit day room size
      unfolding list_lengths_fit
      optional_differ n = rw (eq-eqb _ _ a, eq-eqb _ _ b, ne_eqb _ _ n)

      module _ (c : length day.optional ≡ day.counts.choices) where
        pub rows_differ : (length day.rows ≡ day.counts.rows → ⊥) → false ≡ list_lengths_fit day room size
        unfolding list_lengths_fit
        rows_differ n = rw (eq-eqb _ _ a, eq-eqb _ _ b, eq-eqb _ _ c, ne_eqb _ _ n)

        pub buffer-decides : length day.rows ≡ day.counts.rows → eqb size (room * day.counts.choices) ≡ list_lengths_fit day room size
        unfolding list_lengths_fit
        buffer-decides d = rw (eq-eqb _ _ a, eq-eqb _ _ b, eq-eqb _ _ c, eq-eqb _ _ d)

  -- ---- the refusals in their order

  pub judge_count : counts_in_range day.counts Scheduling ≡ false → refuse 1 ≡ judge_of day room size
  unfolding judge_of
  judge_count h = rw h

  module _ (c : counts_in_range day.counts Scheduling ≡ true) where
    pub judge_length : list_lengths_fit day room size ≡ false → refuse 2 ≡ judge_of day room size
    unfolding judge_of
    judge_length h = rw (c, h)

    module _ (l : list_lengths_fit day room size ≡ true) where
      pub judge_row : {number : ℕ} {carried : List ℕ} → refused number carried ≡ rows_judged day.counts Scheduling day.rows → refused number carried ≡ judge_of day room size
      unfolding judge_of
      judge_row r = rw (c, l, sym r)

      module _ (r : good ≡ rows_judged day.counts Scheduling day.rows) where
        pub judge_flag : all_at_most 1 day.optional ≡ false → refuse 13 ≡ judge_of day room size
        unfolding judge_of flags_judged
        judge_flag f = rw (c, l, sym r, f)

        pub judge_good : all_at_most 1 day.optional ≡ true → good ≡ judge_of day room size
        unfolding judge_of flags_judged
        judge_good f = rw (c, l, sym r, f)

-- ---- what isn't refused

module _ (day : Day) (room : ℕ) (buffer : List ℕ) where
  pub judged : good ≡ judge_of day room (length buffer) → Judged day room buffer
  unfolding judge_of list_lengths_fit
  judged h =
      let m = eqb (length day.mins) day.counts.choices in
      let x = eqb (length day.maxs) day.counts.choices in
      let o = eqb (length day.optional) day.counts.choices in
      let r = eqb (length day.rows) day.counts.rows in
      let b = eqb (length buffer) (room * day.counts.choices) in
      let first = unless-done (counts_in_range day.counts Scheduling) 1 _ (sym h) in
      let second = unless-done (m && x && o && r && b) 2 _ first.1 in
      let four = and_left (m && x && o && r) b second.0 in
      let three = and_left (m && x && o) r four in
      let two = and_left (m && x) o three in
      let w : Within day.counts Scheduling = within day.counts Scheduling first.0 in
      record {
        in_range = first.0;
        few-choices = w.choices;
        few-slots = w.slots;
        few-choosers = w.choosers;
        mins-fit = eqb-true _ _ (and_left m x two);
        maxs-fit = eqb-true _ _ (and_right m x two);
        optional-fits = eqb-true _ _ (and_right (m && x) o three);
        buffer-fits = eqb-true _ _ (and_right (m && x && o && r) b second.0);
      }
