-- Whether each list has an entry for each choice, for each way through the test.
use mathlib.Core.Path.{◌≡◌}
use mathlib.Core.Bool.{false}
use mathlib.Core.List.{List}
use Prim.Native.Nat.{ℕ, ◌≤◌, ◌<◌}
use borrow.Author.Tests.{le-leb, lt-leb, eq-eqb, ne_eqb}
use lib.Dec.{eqb}
use lib.ListN.{length}
use Rattle.plan_check.specs.Day.{Day}
use Rattle.plan_check.specs.Feasible.{lengths_fit, shapes_fit}

module _ (day : Day) (plan : List ℕ) where
  pub shape-choices : 64 < day.counts.choices → false ≡ shapes_fit day plan
  unfolding shapes_fit
  shape-choices h = rw (lt-leb _ _ h)

  module _ (a : day.counts.choices ≤ 64) where
    pub shape-slots : 24 < day.counts.slots → false ≡ shapes_fit day plan
    unfolding shapes_fit
    shape-slots h = rw (le-leb _ _ a, lt-leb _ _ h)

    module _ (b : day.counts.slots ≤ 24) where
      pub shape-mins : (length day.mins ≡ day.counts.choices → ⊥) → false ≡ shapes_fit day plan
      unfolding shapes_fit lengths_fit
      shape-mins h = rw (le-leb _ _ a, le-leb _ _ b, ne_eqb _ _ h)

      module _ (m : length day.mins ≡ day.counts.choices) where
        pub shape-maxs : (length day.maxs ≡ day.counts.choices → ⊥) → false ≡ shapes_fit day plan
        unfolding shapes_fit lengths_fit
        shape-maxs h = rw (le-leb _ _ a, le-leb _ _ b, eq-eqb _ _ m, ne_eqb _ _ h)

        module _ (n : length day.maxs ≡ day.counts.choices) where
          pub shape-optional : (length day.optional ≡ day.counts.choices → ⊥) → false ≡ shapes_fit day plan
          unfolding shapes_fit lengths_fit
          shape-optional h = rw (le-leb _ _ a, le-leb _ _ b, eq-eqb _ _ m, eq-eqb _ _ n, ne_eqb _ _ h)

          pub shape-plan : length day.optional ≡ day.counts.choices → eqb (length plan) day.counts.choices ≡ shapes_fit day plan
          unfolding shapes_fit lengths_fit
          shape-plan o = rw (le-leb _ _ a, le-leb _ _ b, eq-eqb _ _ m, eq-eqb _ _ n, eq-eqb _ _ o)
