-- Whether the walk may start: a law for each way through the test, and what it comes to.
use mathlib.Core.Path.{◌≡◌, sym, ◌∙◌}
use mathlib.Core.Bool.{Bool, true, false, ◌&&◌}
use mathlib.Core.List.{List}
use Prim.Native.Nat.{ℕ, ◌+◌, ◌-◌, ◌*◌, ◌≤◌, ◌<◌, ◌^◌}
use native.Mathlib.Omega.{arith}
use borrow.Author.Tests.{lt-ltb, le-ltb, eq-eqb, ne_eqb, eqb-true, ltb-true}
use lib.Dec.{eqb, ltb}
use lib.ListN.{length}
use Rattle.base_lists.proofs.Below.{and_left, and_right}
use Rattle.day_rows.specs.Check.{counts_in_range}
use Rattle.day_rows.specs.declared.check.Takes.TheVariants.{Scheduling}
use Rattle.day_rows.proofs.CountLaws.{Within, within}
use Rattle.plan_check.specs.Day.{Day}
use Rattle.list_nodes.specs.steps.Runs.{Judged}
use Rattle.list_nodes.specs.steps.Alive.{Event}
use Rattle.list_nodes.specs.steps.Run.{Standing, standing, run, goes_on}
use Rattle.list_starts.specs.steps.PageReady.{ready_for, walked_if}

-- whether the walk may start, one test after the other
module _ (day : Day) (first room turns met size : ℕ) where
  pub out_of_range : counts_in_range day.counts Scheduling ≡ false → false ≡ ready_for day first room turns met size
  unfolding ready_for
  out_of_range h = rw (h)

  module _ (r : counts_in_range day.counts Scheduling ≡ true) where
    pub mins_differ : (length day.mins ≡ day.counts.choices → ⊥) → false ≡ ready_for day first room turns met size
    unfolding ready_for
    mins_differ n = rw (r, ne_eqb _ _ n)

    module _ (m : length day.mins ≡ day.counts.choices) where
      pub maxs_differ : (length day.maxs ≡ day.counts.choices → ⊥) → false ≡ ready_for day first room turns met size
      unfolding ready_for
      maxs_differ n = rw (r, eq-eqb _ _ m, ne_eqb _ _ n)

      module _ (x : length day.maxs ≡ day.counts.choices) where
        pub optional_differ : (length day.optional ≡ day.counts.choices → ⊥) → false ≡ ready_for day first room turns met size
        unfolding ready_for
        optional_differ n = rw (r, eq-eqb _ _ m, eq-eqb _ _ x, ne_eqb _ _ n)

        module _ (o : length day.optional ≡ day.counts.choices) where
          pub buffer-differs : eqb size (room * day.counts.choices) ≡ false → false ≡ ready_for day first room turns met size
          unfolding ready_for
          buffer-differs n = rw (r, eq-eqb _ _ m, eq-eqb _ _ x, eq-eqb _ _ o, n)

          module _ (b : eqb size (room * day.counts.choices) ≡ true) where
            pub numbers-end : 2 ^ 64 - 1 - met < turns → false ≡ ready_for day first room turns met size
            unfolding ready_for
            numbers-end h = rw (r, eq-eqb _ _ m, eq-eqb _ _ x, eq-eqb _ _ o, b, le-ltb (met + turns) (2 ^ 64) (omega (arith, h)))

            pub page-decides : met < 2 ^ 64 → turns ≤ 2 ^ 64 - 1 - met → goes_on first room met ≡ ready_for day first room turns met size
            unfolding ready_for
            page-decides l h = rw (r, eq-eqb _ _ m, eq-eqb _ _ x, eq-eqb _ _ o, b, lt-ltb (met + turns) (2 ^ 64) (omega (arith, l, h)))

-- a walk that may start has a day that isn't refused, numbers for its plans, and a page that isn't over
module _ (day : Day) (first room turns met : ℕ) (buffer : List ℕ) where
  pub ready_means : ready_for day first room turns met (length buffer) ≡ true
      → Judged day room buffer × (met + turns < 2 ^ 64) × (goes_on first room met ≡ true)
  unfolding ready_for
  ready_means h =
      let r = counts_in_range day.counts Scheduling in
      let m = eqb (length day.mins) day.counts.choices in
      let x = eqb (length day.maxs) day.counts.choices in
      let o = eqb (length day.optional) day.counts.choices in
      let b = eqb (length buffer) (room * day.counts.choices) in
      let n = ltb (met + turns) (2 ^ 64) in
      let six = and_left (r && m && x && o && b && n) (goes_on first room met) h in
      let five = and_left (r && m && x && o && b) n six in
      let four = and_left (r && m && x && o) b five in
      let three = and_left (r && m && x) o four in
      let two = and_left (r && m) x three in
      let one = and_left r m two in
      let w : Within day.counts Scheduling = within day.counts Scheduling one in (
        record {
          in_range = one;
          few-choices = w.choices;
          few-slots = w.slots;
          few-choosers = w.choosers;
          mins-fit = eqb-true _ _ (and_right r m two);
          maxs-fit = eqb-true _ _ (and_right (r && m) x three);
          optional-fits = eqb-true _ _ (and_right (r && m && x) o four);
          buffer-fits = eqb-true _ _ (and_right (r && m && x && o) b five);
        },
        ltb-true _ _ (and_right (r && m && x && o && b) n six),
        and_right (r && m && x && o && b && n) (goes_on first room met) h,
      )

  -- with such a day, turns and page the walk may start
  pub is-ready : Judged day room buffer → met + turns < 2 ^ 64 → goes_on first room met ≡ true
      → ready_for day first room turns met (length buffer) ≡ true
  unfolding ready_for
  is-ready j n g =
      rw (j.in_range, eq-eqb _ _ j.mins-fit, eq-eqb _ _ j.maxs-fit, eq-eqb _ _ j.optional-fits, eq-eqb _ _ j.buffer-fits, lt-ltb _ _ n, g)

module _ (first room turns met : ℕ) (buffer : List ℕ) (events : List Event) {ready : Bool} where
  pub walked-not : ready ≡ false → standing false turns met buffer ≡ walked_if ready first room turns met buffer events
  unfolding walked_if
  walked-not h = rw h

  pub walked-ready : {after : Standing} → ready ≡ true → after ≡ run first room (standing true turns met buffer) events → after ≡ walked_if ready first room turns met buffer events
  unfolding walked_if
  walked-ready h e = e ∙ sym (rw h)

  pub walked-run : {after : Standing} → ready ≡ true → after ≡ walked_if ready first room turns met buffer events → after ≡ run first room (standing true turns met buffer) events
  unfolding walked_if
  walked-run h e = e ∙ rw h
