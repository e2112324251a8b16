-- A number in decimal: what `io` calls its fewest digits, and how many there are.
use mathlib.Core.Path.{◌≡◌, refl, sym, ap, ◌∙◌}
use mathlib.Core.Bool.{Bool, true, false}
use mathlib.Core.List.{List, [], ◌∷◌}
use Prim.Native.Nat.{ℕ, zero, suc, ◌+◌, ◌*◌, ◌-◌, ◌/◌, ◌%◌, ◌^◌, ◌≤◌, ◌<◌}
use native.Mathlib.Nat.{pow-suc, one-le-pow, pow-le-pow_right}
use native.Mathlib.Decide.{dec_le}
use native.Mathlib.Omega.{arith}
use borrow.Author.Tests.{lt-ltb, le-ltb}
use lib.Dec.{ltb}
use lib.ListN.{length, length-append}
use Rattle.io.specs.Digits.{hex_digit_ascii, last_digits, IsDigitCount}
use Rattle.text_lines.specs.Text.{digits_within, decimal}

-- the last digit as `io` writes it
last_digit : (number : ℕ) → hex_digit_ascii (number % 10) ≡ 48 + number % 10
last_digit number = rw (lt-ltb (number % 10) 10 (omega arith))

-- without its last digit a number of more digits has one digit fewer
fewest_less : (number count : ℕ) → IsDigitCount 10 1 number (suc (suc count)) → IsDigitCount 10 1 (number / 10) (suc count)
fewest_less number count f =
    let p : 10 ^ suc (suc count) ≡ 10 ^ suc count * 10 = pow-suc 10 (suc count) in
    let q : 10 ^ suc count ≡ 10 ^ count * 10 = pow-suc 10 count in
    let a : number < 10 ^ suc (suc count) = f.1 in
    let k : suc (suc count) - 1 ≡ suc count = omega arith in
    let j : suc count - 1 ≡ count = omega arith in
    let b : 10 ^ suc count ≤ number = rw k at (f.2 (omega arith)) in
    (omega arith, omega arith, λ h. rw j (omega arith))

-- a number of more digits is 10 or more
fewest_many : (number count : ℕ) → IsDigitCount 10 1 number (suc (suc count)) → 10 ≤ number
fewest_many number count f =
    let q : 10 ^ suc count ≡ 10 ^ count * 10 = pow-suc 10 count in
    let k : suc (suc count) - 1 ≡ suc count = omega arith in
    let b : 10 ^ suc count ≤ number = rw k at (f.2 (omega arith)) in
    let o : 1 ≤ 10 ^ count = one-le-pow count 10 (omega arith) in
    omega arith

-- the fewest digits are the digits within any greater count
fewest_within : (most number count : ℕ) → IsDigitCount 10 1 number count → count ≤ most → last_digits 10 count number ≡ digits_within most number
unfolding digits_within
fewest_within zero number count f h = let a : 1 ≤ count = f.0 in absurd (omega arith)
fewest_within (suc most) number zero f h = let a : 1 ≤ 0 = f.0 in absurd (omega arith)
fewest_within (suc most) number (suc zero) f h =
    let a : number < 10 = f.1 in
    let e : number % 10 ≡ number = omega arith in
    rw (lt-ltb number 10 a, e, lt-ltb number 10 a)
fewest_within (suc most) number (suc (suc count)) f h =
    rw (le-ltb number 10 (fewest_many number count f), sym (fewest_within most (number / 10) (suc count) (fewest_less number count f) (omega arith)), last_digit number)

-- what `io` writes is the number in decimal
pub decimal-is : (number count : ℕ) (bytes : List ℕ) → IsDigitCount 10 1 number count → count ≤ 20 → bytes ≡ last_digits 10 count number → bytes ≡ decimal number
unfolding decimal
decimal-is number count bytes f h e = e ∙ fewest_within 20 number count f h

-- a 64-bit number takes at most 20 digits
pub fewest_count : (number count : ℕ) → IsDigitCount 10 1 number count → number < 2 ^ 64 → count ≤ 20
fewest_count number count f h = elim (dec_le count 20) [ yes l ↦ l | no n ↦ absurd (many (let m : 20 < count = omega arith in m)) ]
  where
    many : 20 < count → ⊥
    many m =
        let k : 20 ≤ count - 1 = omega arith in
        let p : 10 ^ 20 ≤ 10 ^ (count - 1) = pow-le-pow_right (let o : 0 < 10 = omega arith in o) k in
        let q : 10 ^ (count - 1) ≤ number = f.2 (omega arith) in
        omega arith

-- so many digits are so many bytes
digits-length : (count number : ℕ) → length (last_digits 10 count number) ≡ count
digits-length zero number = refl
digits-length (suc count) number =
    let h : length (last_digits 10 count (number / 10)) ≡ count = digits-length count (number / 10) in
    length-append (last_digits 10 count (number / 10)) (hex_digit_ascii (number % 10) ∷ []) ∙ omega arith

-- the count that `io` tells is how many digits there are
pub decimal-count : (number count : ℕ) → IsDigitCount 10 1 number count → count ≤ 20 → count ≡ length (decimal number)
decimal-count number count f h = sym (digits-length count number) ∙ ap length (decimal-is number count (last_digits 10 count number) f h refl)

-- no more digits than asked for
within-length : (most number : ℕ) → length (digits_within most number) ≤ most
unfolding digits_within
within-length zero number = omega arith
within-length (suc most) number = go (ltb number 10) refl (within-length most (number / 10))
  where
    go : (b : Bool) → ltb number 10 ≡ b → length (digits_within most (number / 10)) ≤ most → length (digits_within (suc most) number) ≤ suc most
    go true t ih = rw t (omega arith)
    go false t ih = rw (t, length-append) (omega arith)

-- a number has at most 20 digits
pub decimal-length : (number : ℕ) → length (decimal number) ≤ 20
unfolding decimal
decimal-length number = within-length 20 number

-- a number below a power of ten has no more digits than that has zeros
below_length : (most number count : ℕ) → number < 10 ^ suc count → length (digits_within most number) ≤ suc count
unfolding digits_within
below_length zero number count h = omega arith
below_length (suc most) number zero h =
    let a : number < 10 = h in
    rw (lt-ltb number 10 a) (omega arith)
below_length (suc most) number (suc count) h = go (ltb number 10) refl (below_length most (number / 10) count less)
  where
    less : number / 10 < 10 ^ suc count
    less =
        let p : 10 ^ suc (suc count) ≡ 10 ^ suc count * 10 = pow-suc 10 (suc count) in
        omega arith

    go : (b : Bool) → ltb number 10 ≡ b → length (digits_within most (number / 10)) ≤ suc count
        → length (digits_within (suc most) number) ≤ suc (suc count)
    go true t ih = rw t (omega arith)
    go false t ih = rw (t, length-append) (omega arith)

-- a number below 1,000 has at most three
pub decimal-short : (number : ℕ) → number < 1000 → length (decimal number) ≤ 3
unfolding decimal
decimal-short number h = below_length 20 number 2 h

-- and one below 100 at most two
pub decimal-two : (number : ℕ) → number < 100 → length (decimal number) ≤ 2
unfolding decimal
decimal-two number h = below_length 20 number 1 h
