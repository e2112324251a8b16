-- Where a page ends and what its end tells: a law for each way through the two functions.
use mathlib.Core.Path.{◌≡◌, refl, sym, ◌∙◌}
use mathlib.Core.Bool.{Bool, true, false, ◌||◌}
use Prim.Native.Nat.{ℕ, ◌-◌, ◌≤◌, ◌<◌, min}
use borrow.Author.Tests.{le-leb, lt-leb, ne_eqb}
use lib.Dec.{eqb, leb}
use Rattle.list_nodes.specs.Page.{ended_told, goes_on_told, turns_told}
use Rattle.list_nodes.specs.steps.Run.{goes_on}
use Rattle.list_starts.specs.steps.PageEnd.{told_of}

-- the three ways to know whether the walk goes on: no room, no plan past the first, or a page not yet passed
module _ (first room met : ℕ) where
  pub no_room : room ≡ 0 → true ≡ goes_on first room met
  unfolding goes_on
  no_room e = rw e

  pub not_first : met ≤ first → true ≡ goes_on first room met
  unfolding goes_on
  not_first h = go (eqb room 0)
    where
      go : (b : Bool) → true ≡ (b || leb met first || leb (met - first) room)
      go true = refl
      go false = rw (le-leb met first h)

  pub page-room : (room ≡ 0 → ⊥) → first < met → leb (met - first) room ≡ goes_on first room met
  unfolding goes_on
  page-room n h = rw (ne_eqb room 0 n, lt-leb met first h)

-- the three ends of a walk: the list's, turns', the page's
module _ (first room : ℕ) {going : Bool} {met written : ℕ} (w : written ≡ min room (met - first)) where
  pub told-ended : going ≡ true → ended_told written met ≡ told_of first room going met
  unfolding told_of
  told-ended t = rw (t, w)

  module _ (f : going ≡ false) {on : Bool} (o : on ≡ goes_on first room met) where
    pub told-turns : on ≡ true → turns_told written met ≡ told_of first room going met
    unfolding told_of
    told-turns t = rw (f, sym o ∙ t, w)

    pub told_goes_on : on ≡ false → goes_on_told written met ≡ told_of first room going met
    unfolding told_of
    told_goes_on t = rw (f, sym o ∙ t, w)
