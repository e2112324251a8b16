-- The whole list, one number after the other.
use mathlib.Core.Path.{◌≡◌, refl, sym, ◌∙◌, ap}
use mathlib.Core.List.{List}
use Prim.Native.Nat.{ℕ, ◌+◌, ◌≤◌, ◌<◌, min}
use native.Mathlib.Omega.{arith}
use lib.ListN.{length, take, set, length-set}
use Rattle.base_lists.specs.Flat.{list_below}
use Rattle.base_lists.proofs.Flat.{fill_start, fill_next, fill_done}
use Rattle.search_day.specs.Planning.{whole_of}

module _ (size : ℕ) where
  -- the first of the numbers are written
  pub record CountedUp (i : ℕ) (whole : List ℕ) : Type 0 where
    pub places : length whole ≡ 1024
    pub room : size ≤ 1024
    pub within : i ≤ size
    pub so_far : take i whole ≡ list_below i (λ k. k)

  pub up_start : (whole : List ℕ) → size ≤ 1024 → 1024 ≡ length whole → CountedUp 0 whole
  up_start whole h e = record { places = sym e; room = h; within = omega arith; so_far = fill_start (λ k. k) }

  pub up_next : (i : ℕ) (whole : List ℕ) → i < size → CountedUp i whole → CountedUp (i + 1) (set whole i i)
  up_next i whole h f =
      record {
        places = length-set whole i i ∙ f.places;
        room = f.room;
        within = omega arith;
        so_far = fill_next (λ k. k) whole i i (omega (arith, f.places, f.room)) f.so_far refl;
      }

  pub up_done : (i : ℕ) (whole : List ℕ) → size ≤ i → CountedUp i whole → (length whole ≡ 1024) × (take size whole ≡ list_below size (λ k. k))
  up_done i whole h f = (f.places, fill_done (λ k. k) whole size i f.within h f.so_far)

-- the written numbers, cut where the rows end, are the whole list
pub whole_is : {size : ℕ} (rows numbered : List ℕ) → size ≡ min (length rows) 1024 → take size numbered ≡ list_below size (λ k. k) → take size numbered ≡ whole_of rows
unfolding whole_of
whole_is rows numbered e t = t ∙ ap (λ (n : ℕ). list_below n (λ k. k)) e
