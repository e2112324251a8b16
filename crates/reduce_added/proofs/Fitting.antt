-- Groups that fit their pools: the test, a law for each way through it, and the facts that it tells.
use mathlib.Core.Path.{◌≡◌, refl, sym}
use mathlib.Core.Bool.{true, false, ◌&&◌}
use mathlib.Core.List.{List, [], ◌∷◌}
use Prim.Native.Nat.{ℕ, ◌+◌, ◌≤◌, ◌<◌}
use native.Mathlib.Numerals.{add-one}
use native.Mathlib.Omega.{arith}
use borrow.Author.Tests.{le-leb, lt-leb, leb-true}
use lib.Dec.{leb}
use lib.ListN.{length, get_or, drop, drop_of_length-le}
use lib.Seq.{drop-cons}
use Rattle.base_lists.specs.steps.Cut.{cut_at, EndsFit}
use Rattle.base_lists.proofs.Below.{and_left, and_right}
use Rattle.reduce_turn.specs.steps.Free.{Wrote, Countable}
use Rattle.reduce_added.specs.Copies.{copies_all}
use Rattle.reduce_added.specs.steps.Fit.{ends_fit, groups_fit, copies_for}
use Rattle.reduce_added.proofs.GroupBounds.{copies_most}

-- the ways through `ends_fit`: the ends from place i on decide
module _ (ends : List ℕ) (size start i : ℕ) where
  module _ (h : i < length ends) {end : ℕ} (e : end ≡ get_or ends i 0) where
    pub end_falls : end < start → ends_fit start (drop i ends) size ≡ false
    unfolding ends_fit
    end_falls f = rw (drop-cons ends i 0 h, sym e, lt-leb start end f)

    module _ (rises : start ≤ end) where
      pub end-past : size < end → ends_fit start (drop i ends) size ≡ false
      unfolding ends_fit
      end-past f = rw (drop-cons ends i 0 h, sym e, le-leb start end rises, lt-leb end size f)

      pub end-next : end ≤ size → ends_fit start (drop i ends) size ≡ ends_fit end (drop (i + 1) ends) size
      unfolding ends_fit
      end-next f = rw (add-one i) (rw (drop-cons ends i 0 h, sym e, le-leb start end rises, le-leb end size f))

  pub ends-done : length ends ≤ i → ends_fit start (drop i ends) size ≡ true
  unfolding ends_fit
  ends-done h = rw (drop_of_length-le ends {i = i} h)

-- the test of the ends and the facts that it tells are one
pub fit_facts : (start : ℕ) (ends : List ℕ) (size : ℕ) → ends_fit start ends size ≡ true → EndsFit start ends size
unfolding ends_fit EndsFit
fit_facts start [] size h = tt
fit_facts start (end ∷ ends) size h =
    let two = and_left (leb start end && leb end size) (ends_fit end ends size) h in (
      leb-true start end (and_left (leb start end) (leb end size) two),
      leb-true end size (and_right (leb start end) (leb end size) two),
      fit_facts end ends size (and_right (leb start end && leb end size) (ends_fit end ends size) h),
    )

pub facts_fit : (start : ℕ) (ends : List ℕ) (size : ℕ) → EndsFit start ends size → ends_fit start ends size ≡ true
unfolding ends_fit EndsFit
facts_fit start [] size h = refl
facts_fit start (end ∷ ends) size h =
    rw (le-leb start end h.0, le-leb end size h.1) (facts_fit end ends size h.2)

-- what groups that fit say of their members and ends
pub record Fitting (members ends : List ℕ) : Type 0 where
  pub members_in : length members ≤ 64
  pub groups_in : length ends ≤ 64
  pub ends-fit : EndsFit 0 ends (length members)

module _ (members ends : List ℕ) where
  pub fitting : groups_fit members ends ≡ true → Fitting members ends
  unfolding groups_fit
  fitting h =
      let m = leb (length members) 64 in
      let g = leb (length ends) 64 in
      let two = and_left (m && g) (ends_fit 0 ends (length members)) h in
      record {
        members_in = leb-true (length members) 64 (and_left m g two);
        groups_in = leb-true (length ends) 64 (and_right m g two);
        ends-fit = fit_facts 0 ends (length members) (and_right (m && g) (ends_fit 0 ends (length members)) h);
      }

  pub fits : Fitting members ends → groups_fit members ends ≡ true
  unfolding groups_fit
  fits f =
      rw (le-leb (length members) 64 f.members_in, le-leb (length ends) 64 f.groups_in) (facts_fit 0 ends (length members) f.ends-fit)

  -- the ways through `groups_fit`
  pub many-members : 64 < length members → false ≡ groups_fit members ends
  unfolding groups_fit
  many-members h = rw (lt-leb (length members) 64 h)

  module _ (m : length members ≤ 64) where
    pub many-groups : 64 < length ends → false ≡ groups_fit members ends
    unfolding groups_fit
    many-groups h = rw (le-leb (length members) 64 m, lt-leb (length ends) 64 h)

    pub ends_decide : length ends ≤ 64 → ends_fit 0 ends (length members) ≡ groups_fit members ends
    unfolding groups_fit
    ends_decide h = rw (le-leb (length members) 64 m, le-leb (length ends) 64 h)

  -- the ways through `copies`
  module _ (rows : List ℕ) where
    pub many-rows : (free : List ℕ) → 128 < length rows → Wrote free 0 (copies_for members ends rows) 0 free
    unfolding copies_for
    many-rows free h = rw (lt-leb (length rows) 128 h) (refl, refl)

    module _ (few : length rows ≤ 128) where
      pub not-fitting : (free : List ℕ) → groups_fit members ends ≡ false → Wrote free 0 (copies_for members ends rows) 0 free
      unfolding copies_for
      not-fitting free h = rw (le-leb (length rows) 128 few, h) (refl, refl)

      module _ (h : groups_fit members ends ≡ true) where
        pub copies_are : copies_for members ends rows ≡ copies_all (cut_at 0 ends members) rows
        unfolding copies_for
        copies_are = rw (le-leb (length rows) 128 few, h)

        pub copies_requires : EndsFit 0 ends (length members) × Countable 0 (copies_all (cut_at 0 ends members) rows)
        copies_requires =
            let f = fitting h in
            (f.ends-fit, omega (arith, copies_most members ends rows f.members_in f.groups_in few))

        pub copies_written : (free exit : List ℕ) {r : ℕ} → Wrote free 0 (copies_all (cut_at 0 ends members) rows) r exit → Wrote free 0 (copies_for members ends rows) r exit
        copies_written free exit w = rw copies_are w
