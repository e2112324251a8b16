-- The texts of lines as their parts, one behind the other.
use mathlib.Core.Path.{◌≡◌, refl, ap, ◌∙◌}
use mathlib.Core.List.{List, [], ◌∷◌, ◌++◌}
use Prim.Native.Nat.{ℕ, ◌+◌, ◌≤◌, ◌<◌}
use native.Mathlib.Omega.{arith}
use lib.ListN.{length, length-append}
use Rattle.text_lines.specs.Text.{ascii, decimal, number_line, clash_text, refused_text}
use Rattle.text_lines.specs.steps.Put.{Fits}
use Rattle.text_lines.proofs.DecimalLaws.{decimal-length}

-- a line with a number at its end: its word, the number, the line's end
pub number-line-is : (word : List ℕ) (number : ℕ) → number_line word number ≡ word ++ (decimal number ++ (10 ∷ []))
unfolding number_line
number-line-is word number = refl

-- and how many bytes it takes
pub number-line-length : (word : List ℕ) (number : ℕ) → length (number_line word number) ≡ length word + (length (decimal number) + 1)
unfolding number_line
number-line-length word number = length-append word (decimal number ++ (10 ∷ [])) ∙ ap (λ (n : ℕ). length word + n) (length-append (decimal number) (10 ∷ []))

-- at most 21 more than its word
pub number-line-most : (word : List ℕ) (number : ℕ) → length (number_line word number) ≤ length word + 21
number-line-most word number =
    let e = number-line-length word number in
    let d = decimal-length number in
    omega (arith, e, d)

-- whether it has room: its word must, and then the number and the line's end behind it
module _ (text : List ℕ) (at : ℕ) (word : List ℕ) (number : ℕ) where
  pub line_no_word : length text < at + length word → length text < at + length (number_line word number)
  line_no_word h = let e = number-line-length word number in omega (arith, e, h)

  module _ {count : ℕ} (c : count ≡ length (decimal number)) where
    pub line_no_number : length text < at + length word + (count + 1) → length text < at + length (number_line word number)
    line_no_number h = let e = number-line-length word number in omega (arith, e, c, h)

    pub line-fits : at + length word + (count + 1) ≤ length text → Fits text at (number_line word number)
    line-fits h = let e = number-line-length word number in omega (arith, e, c, h)

-- the lines of a clash and of a refusal
pub clash-is : ascii "result clash\n" ≡ clash_text
unfolding clash_text
clash-is = refl

pub refused-is : (number : ℕ) → number_line (ascii "result refused ") number ≡ refused_text number
unfolding refused_text
refused-is number = refl
