-- A number read digit by digit.
use mathlib.Core.Path.{◌≡◌, refl, sym, ◌∙◌}
use mathlib.Core.Bool.{Bool, true, false, cond, ◌&&◌}
use mathlib.Core.List.{List, [], ◌∷◌}
use Prim.Native.Nat.{ℕ, ◌+◌, ◌*◌, ◌-◌, ◌^◌, ◌≤◌, ◌<◌}
use native.Mathlib.Nat.{le_trans}
use native.Mathlib.Numerals.{add-one}
use native.Mathlib.Omega.{arith}
use borrow.Author.Tests.{lt-ltb, le-ltb, le-leb}
use lib.Dec.{ltb, leb}
use lib.ListN.{length, get_or, drop, drop_of_length-le}
use lib.Seq.{drop-cons}
use Rattle.std.specs.Prelude.{None, Some}
use Rattle.base_lists.specs.All.{all_of}
use Rattle.base_lists.proofs.All.{all-passes, all-fails, all-passed}
use Rattle.text_lines.specs.Number.{is_digit, value_from, is_number, number_in}

-- digits only make a number greater
value-least : (value : ℕ) (bytes : List ℕ) → value ≤ value_from value bytes
unfolding value_from
value-least value [] = omega arith
value-least value (byte ∷ bytes) =
    let l : 10 * value + (byte - 48) ≤ value_from (10 * value + (byte - 48)) bytes = value-least (10 * value + (byte - 48)) bytes in
    omega arith

-- nothing is no number
pub number-empty : (bytes : List ℕ) → length bytes ≡ 0 → None ≡ number_in bytes
unfolding is_number number_in
number-empty bytes e = rw e

-- neither is what has another byte than digits
number-other : (bytes : List ℕ) → all_of is_digit bytes ≡ false → None ≡ number_in bytes
unfolding is_number number_in
number-other bytes e = rw e (go (leb 1 (length bytes)))
  where
    go : (a : Bool) → None ≡ cond (a && false && ltb (value_from 0 bytes) (2 ^ 64)) (Some (value_from 0 bytes)) None
    go true = refl
    go false = refl

-- nor what is too large
number-large : (bytes : List ℕ) → 2 ^ 64 ≤ value_from 0 bytes → None ≡ number_in bytes
unfolding is_number number_in
number-large bytes h = rw (le-ltb (value_from 0 bytes) (2 ^ 64) h) (go (leb 1 (length bytes)) (all_of is_digit bytes))
  where
    go : (a b : Bool) → None ≡ cond (a && b && false) (Some (value_from 0 bytes)) None
    go true true = refl
    go true false = refl
    go false true = refl
    go false false = refl

-- everything else is its value
number-value : (bytes : List ℕ) (value : ℕ) → 1 ≤ length bytes → all_of is_digit bytes ≡ true → value_from 0 bytes ≡ value → value < 2 ^ 64
    → Some value ≡ number_in bytes
unfolding is_number number_in
number-value bytes value h e v l = rw (le-leb 1 (length bytes) h, e, v, lt-ltb value (2 ^ 64) l)

-- the loop: the bytes before i are digits, and their value is read
pub record Reading (bytes : List ℕ) (value i : ℕ) : Type 0 where
  pub some : 1 ≤ length bytes
  pub within : i ≤ length bytes
  pub small : value < 2 ^ 64
  pub digits : all_of is_digit (drop i bytes) ≡ all_of is_digit bytes
  pub valued : value_from value (drop i bytes) ≡ value_from 0 bytes

module _ {bytes : List ℕ} {value i : ℕ} (r : Reading bytes value i) where
  -- the value of what is left is read on
  step : i < length bytes → value_from (10 * value + (get_or bytes i 0 - 48)) (drop (i + 1) bytes) ≡ value_from 0 bytes
  unfolding value_from
  step h = sym (rw (add-one i, drop-cons bytes i 0 h)) ∙ r.valued

  -- another byte ends it
  pub reading_other : i < length bytes → is_digit (get_or bytes i 0) ≡ false → None ≡ number_in bytes
  reading_other h t = number-other bytes (sym r.digits ∙ all-fails is_digit bytes i 0 h t)

  -- a value that grows too large ends it
  pub reading_large : i < length bytes → 2 ^ 64 ≤ 10 * value + (get_or bytes i 0 - 48) → None ≡ number_in bytes
  reading_large h l =
      number-large bytes (rw (sym (step h)) (le_trans l (value-least (10 * value + (get_or bytes i 0 - 48)) (drop (i + 1) bytes))))

  -- a digit is read
  pub reading_digit : i < length bytes → is_digit (get_or bytes i 0) ≡ true → 10 * value + (get_or bytes i 0 - 48) < 2 ^ 64
      → Reading bytes (10 * value + (get_or bytes i 0 - 48)) (i + 1)
  reading_digit h t l =
      record {
        some = r.some;
        within = omega arith;
        small = l;
        digits = sym (all-passes is_digit bytes i 0 h t) ∙ r.digits;
        valued = step h;
      }

  -- all is read
  pub reading_end : length bytes ≤ i → Some value ≡ number_in bytes
  unfolding value_from
  reading_end h =
      let v : value_from 0 bytes ≡ value = sym r.valued ∙ rw (drop_of_length-le bytes {i = i} h) in
      number-value bytes value r.some (sym r.digits ∙ all-passed is_digit bytes i h) v r.small
