-- The two pair stages within a day's limits and past them, a law for each way through them.
use mathlib.Core.Path.{◌≡◌, refl}
use mathlib.Core.Bool.{true, false}
use mathlib.Core.List.{List}
use Prim.Native.Nat.{ℕ, ◌≤◌, ◌<◌}
use native.Mathlib.Omega.{arith}
use borrow.Author.Tests.{le-leb, lt-leb}
use lib.ListN.{length}
use Rattle.base_lists.specs.steps.Cut.{cut_at, EndsFit}
use Rattle.reduce_turn.specs.steps.Free.{Wrote, Countable}
use Rattle.reduce_added.specs.steps.Fit.{groups_fit}
use Rattle.reduce_added.proofs.Fitting.{fitting}
use Rattle.reduce_added.specs.Pairs.{group_pairs, mandatory_pairs}
use Rattle.reduce_added.specs.steps.Limits.{pairs_in_groups, pairs_of_choosers}
use Rattle.reduce_added.proofs.PairBounds.{group_pairs-most, mandatory-pairs-most}

-- the ways through `group_pairs`
module _ (members ends : List ℕ) where
  pub no_groups : (free : List ℕ) → groups_fit members ends ≡ false → Wrote free 0 (pairs_in_groups members ends) 0 free
  unfolding pairs_in_groups
  no_groups free h = rw h (refl, refl)

  module _ (h : groups_fit members ends ≡ true) where
    pub groups_are : pairs_in_groups members ends ≡ group_pairs (cut_at 0 ends members)
    unfolding pairs_in_groups
    groups_are = rw h

    pub groups_require : EndsFit 0 ends (length members) × Countable 0 (group_pairs (cut_at 0 ends members))
    groups_require =
        let f = fitting members ends h in
        (f.ends-fit, omega (arith, group_pairs-most members ends f.members_in f.groups_in))

    pub groups-written : (free exit : List ℕ) {r : ℕ} → Wrote free 0 (group_pairs (cut_at 0 ends members)) r exit → Wrote free 0 (pairs_in_groups members ends) r exit
    groups-written free exit w = rw groups_are w

-- the ways through `mandatory_pairs`
module _ (rows : List ℕ) (choosers : ℕ) where
  pub many-rows : (free : List ℕ) → 128 < length rows → Wrote free 0 (pairs_of_choosers rows choosers) 0 free
  unfolding pairs_of_choosers
  many-rows free h = rw (lt-leb (length rows) 128 h) (refl, refl)

  module _ (few : length rows ≤ 128) where
    pub many-choosers : (free : List ℕ) → 200 < choosers → Wrote free 0 (pairs_of_choosers rows choosers) 0 free
    unfolding pairs_of_choosers
    many-choosers free h = rw (le-leb (length rows) 128 few, lt-leb choosers 200 h) (refl, refl)

    module _ (h : choosers ≤ 200) where
      pub choosers_are : pairs_of_choosers rows choosers ≡ mandatory_pairs rows choosers
      unfolding pairs_of_choosers
      choosers_are = rw (le-leb (length rows) 128 few, le-leb choosers 200 h)

      pub choosers_require : (length rows ≤ 128) × Countable 0 (mandatory_pairs rows choosers)
      choosers_require = (few, omega (arith, mandatory-pairs-most rows few choosers))

      pub choosers-written : (free exit : List ℕ) {r : ℕ} → Wrote free 0 (mandatory_pairs rows choosers) r exit → Wrote free 0 (pairs_of_choosers rows choosers) r exit
      choosers-written free exit w = rw choosers_are w
