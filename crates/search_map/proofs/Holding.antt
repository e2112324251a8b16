-- A map as it is lent: words read, parts, what is looked up, and the test of 14, a law for each way through
-- the functions.
use mathlib.Core.Path.{◌≡◌, sym, ◌∙◌, ap}
use mathlib.Core.Bool.{Bool, true, false}
use mathlib.Core.List.{List, []}
use Prim.Native.Nat.{ℕ, ◌+◌, ◌-◌, ◌≤◌, ◌<◌}
use native.Mathlib.Omega.{arith}
use borrow.Author.Tests.{lt-ltb, le-ltb, eq-eqb, ne_eqb}
use lib.Dec.{eqb, ltb, leb}
use lib.ListN.{length, get_or, take, drop, length-drop, drop_of_length-le}
use lib.Seq.{take_all}
use Rattle.base_lists.specs.Below.{all_below}
use Rattle.base_lists.specs.Pool.{window}
use Rattle.base_lists.proofs.Below.{one-fails}
use Rattle.base_lists.proofs.Through.{all_done}
use Rattle.search_map.specs.Map.{map_of, no_entry, start_of, length_of, has_entry, looked_up, entry_fits, is_whole, map_keeps}
use Rattle.search_map.specs.Calls.{map_full}
use Rattle.search_map.specs.steps.Words.{WordAt}

-- ---- a part of the numbers

module _ (numbers : List ℕ) (start size : ℕ) where
  pub part_in : take (start + size - start) (drop start numbers) ≡ window start size numbers
  unfolding window
  part_in = let e : start + size - start ≡ size = omega arith in rw e

  pub part-past : length numbers < start → [] ≡ window start size numbers
  unfolding window
  part-past h =
      let e : drop start numbers ≡ [] = drop_of_length-le numbers {i = start} (omega arith) in
      sym (ap (take size) e ∙ take_all size [] (omega arith))

  pub part_cut : length numbers < start + size → start ≤ length numbers → take (length numbers - start) (drop start numbers) ≡ window start size numbers
  unfolding window
  part_cut h l =
      take_all (length numbers - start) (drop start numbers) (rw length-drop (omega arith))
      ∙ sym (take_all size (drop start numbers) (rw length-drop (omega arith)))

-- ---- the lookup

module _ (starts lengths numbers : List ℕ) (choice : ℕ) {start : ℕ} (at : WordAt starts choice no_entry start) where
  none : start ≡ no_entry → has_entry (map_of starts lengths numbers) choice ≡ false
  unfolding has_entry start_of
  none e = rw (eq-eqb (get_or starts choice no_entry) no_entry (sym at.is ∙ e))

  some : (start ≡ no_entry → ⊥) → has_entry (map_of starts lengths numbers) choice ≡ true
  unfolding has_entry start_of
  some n = rw (ne_eqb (get_or starts choice no_entry) no_entry (λ e. n (at.is ∙ e)))

  pub looked-whole : (whole : List ℕ) → start ≡ no_entry → whole ≡ looked_up (map_of starts lengths numbers) whole choice
  unfolding looked_up
  looked-whole whole e = rw (none e)

  pub looked-part : (whole : List ℕ) {size : ℕ} {part : List ℕ} → (start ≡ no_entry → ⊥) → WordAt lengths choice 0 size → part ≡ window start size numbers
      → part ≡ looked_up (map_of starts lengths numbers) whole choice
  unfolding looked_up start_of length_of
  looked-part whole n z p = rw (some n) (p ∙ rw (at.is, z.is))

  -- 14's test of an entry
  pub fits-none : (count : ℕ) → start ≡ no_entry → true ≡ entry_fits count (map_of starts lengths numbers) choice
  unfolding entry_fits
  fits-none count e = rw (none e)

  pub fits-end : (count : ℕ) {size : ℕ} → (start ≡ no_entry → ⊥) → WordAt lengths choice 0 size → leb (start + size) count ≡ entry_fits count (map_of starts lengths numbers) choice
  unfolding entry_fits start_of length_of
  fits-end count n z = rw (some n, at.is, z.is)

-- ---- 14's test of a number, and of a place of the whole list

module _ {numbers : List ℕ} {i value : ℕ} (at : WordAt numbers i 0 value) (rows : ℕ) where
  pub names-row : value < rows → ltb (get_or numbers i 0) rows ≡ true
  names-row h = ap (λ (v : ℕ). ltb v rows) (sym at.is) ∙ lt-ltb value rows h

  pub names-none : rows ≤ value → ltb (get_or numbers i 0) rows ≡ false
  names-none h = ap (λ (v : ℕ). ltb v rows) (sym at.is) ∙ le-ltb value rows h

-- the loop over the whole list: its first numbers are 0, 1, 2 ..
module _ (whole : List ℕ) (i : ℕ) where
  pub whole-fails : {value : ℕ} → i < length whole → value ≡ get_or whole i 0 → (value ≡ i → ⊥) → false ≡ is_whole whole
  unfolding is_whole
  whole-fails h v n = sym (one-fails (length whole) _ i h (ne_eqb (get_or whole i 0) i (λ e. n (v ∙ e))))

  pub whole-done : i ≤ length whole → length whole ≤ i → all_below i (λ k. eqb (get_or whole k 0) k) ≡ true → true ≡ is_whole whole
  unfolding is_whole
  whole-done w h s = all_done _ (length whole) i w h s

-- ---- the test of 14

module _ (choices rows count : ℕ) (starts lengths numbers whole : List ℕ) where
  abbrev entries : Bool
  entries = all_below choices (entry_fits count (map_of starts lengths numbers))

  abbrev named : Bool
  named = all_below count λ i. ltb (get_or numbers i 0) rows

  pub entries_fail : {b : Bool} → b ≡ entries → b ≡ false → false ≡ map_keeps choices rows count (map_of starts lengths numbers) whole
  unfolding map_keeps
  entries_fail e f = rw (sym e, f)

  pub numbers_fail : {b n : Bool} → b ≡ entries → b ≡ true → n ≡ named → n ≡ false → false ≡ map_keeps choices rows count (map_of starts lengths numbers) whole
  unfolding map_keeps
  numbers_fail e f g h = rw (sym e, f, sym g, h)

  pub whole-decides : {b n w : Bool} → b ≡ entries → b ≡ true → n ≡ named → n ≡ true → w ≡ is_whole whole
      → w ≡ map_keeps choices rows count (map_of starts lengths numbers) whole
  unfolding map_keeps
  whole-decides e f g h w = rw (sym e, f, sym g, h) w

-- ---- the lengths of the pools

module _ (starts lengths numbers : List ℕ) where
  pub starts-short : (length starts ≡ 64 → ⊥) → false ≡ map_full (map_of starts lengths numbers)
  unfolding map_full
  starts-short n = rw (ne_eqb _ _ n)

  pub lengths_short : length starts ≡ 64 → (length lengths ≡ 64 → ⊥) → false ≡ map_full (map_of starts lengths numbers)
  unfolding map_full
  lengths_short e n = rw (eq-eqb _ _ e, ne_eqb _ _ n)

  pub numbers_decide : length starts ≡ 64 → length lengths ≡ 64 → eqb (length numbers) 10240 ≡ map_full (map_of starts lengths numbers)
  unfolding map_full
  numbers_decide e f = rw (eq-eqb _ _ e, eq-eqb _ _ f)
