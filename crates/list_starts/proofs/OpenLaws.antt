-- The next place that a choice may take, a law for each way through its functions.
use mathlib.Core.Path.{◌≡◌, refl, sym, ◌∙◌, ap}
use mathlib.Core.Bool.{Bool, true, false, cond}
use mathlib.Core.List.{List, [], ◌∷◌}
use Prim.Native.Nat.{ℕ, zero, suc, ◌+◌, ◌-◌, ◌≤◌, ◌<◌}
use native.Mathlib.Omega.{arith}
use borrow.Author.Tests.{le-leb, lt-leb, leb-true, leb-false}
use lib.Dec.{leb}
use lib.ListN.{get_or}
use Rattle.list_nodes.specs.steps.Walk.{place_of, place_fits, next_open}
use Rattle.list_nodes.proofs.PlaceLaws.{may_stand}
use Rattle.list_starts.specs.steps.Starts.{open_within}

-- the place with so many left, counted from the last slot on
pub place-told : (slots left : ℕ) {at : ℕ} → 0 < left → at ≡ slots - (left - 1) → at ≡ slots + 1 - left
place-told slots left h e = omega arith

-- a sum leaves room for a minimum exactly if the two are within the headcount
room_for : (sum least most : ℕ) → least ≤ most → leb sum (most - least) ≡ leb (sum + least) most
room_for sum least most h = go (leb sum (most - least)) refl
  where
    go : (b : Bool) → leb sum (most - least) ≡ b → leb sum (most - least) ≡ leb (sum + least) most
    go true t = t ∙ sym (le-leb (sum + least) most (omega (arith, leb-true sum (most - least) t)))
    go false t = t ∙ sym (lt-leb (sum + least) most (omega (arith, leb-false sum (most - least) t)))

module _ (slots choosers least flag place : ℕ) (sums : List ℕ) (h : place < slots) where
  pub over : choosers < least → false ≡ place_fits slots choosers (least ∷ []) (flag ∷ []) sums 0 (place_of slots place)
  over k =
      sym (lt-leb (get_or sums place 0 + least) choosers (omega arith))
      ∙ may_stand slots choosers (least ∷ []) (flag ∷ []) sums 0 place h refl

  pub within-room : least ≤ choosers → leb (get_or sums place 0) (choosers - least) ≡ place_fits slots choosers (least ∷ []) (flag ∷ []) sums 0 (place_of slots place)
  within-room k =
      room_for (get_or sums place 0) least choosers k
      ∙ may_stand slots choosers (least ∷ []) (flag ∷ []) sums 0 place h refl

-- of a choice's lists its own two entries matter alone
module _ (slots choosers : ℕ) (mins optional sums : List ℕ) (choice : ℕ) where
  same_open : (left : ℕ) → next_open slots choosers (get_or mins choice 0 ∷ []) (get_or optional choice 0 ∷ []) sums 0 left ≡ next_open slots choosers mins optional sums choice left
  unfolding next_open place_fits
  same_open zero = refl
  same_open (suc left) =
      ap (λ (n : ℕ). cond (place_fits slots choosers mins optional sums choice (place_of slots (slots - left))) (suc left) n) (same_open left)

  pub none_open : (left : ℕ) → 24 < slots → 0 ≡ open_within slots choosers mins optional sums choice left
  unfolding open_within
  none_open left h = rw (lt-leb slots 24 h)

  module _ (few : slots ≤ 24) where
    pub open_told : (left : ℕ) {next : ℕ} → next ≡ open_within slots choosers mins optional sums choice left → next ≡ next_open slots choosers mins optional sums choice left
    unfolding open_within
    open_told left e = e ∙ rw (le-leb slots 24 few)

    pub open_found : (left : ℕ) {least flag next : ℕ} → least ≡ get_or mins choice 0 → flag ≡ get_or optional choice 0
        → next ≡ next_open slots choosers (least ∷ []) (flag ∷ []) sums 0 left → next ≡ open_within slots choosers mins optional sums choice left
    unfolding open_within
    open_found left {flag = flag} m o e =
        e ∙ ap (λ (n : ℕ). next_open slots choosers (n ∷ []) (flag ∷ []) sums 0 left) m
        ∙ ap (λ (n : ℕ). next_open slots choosers (get_or mins choice 0 ∷ []) (n ∷ []) sums 0 left) o
        ∙ same_open left ∙ sym (rw (le-leb slots 24 few))
