-- The texts of lines as their parts, one behind the other.
use mathlib.Core.Path.{◌≡◌, refl, sym}
use mathlib.Core.List.{List, ◌++◌, append_assoc}
use Prim.Native.Nat.{ℕ}
use borrow.Author.Tests.{eq-eqb, ne_eqb}
use Rattle.text_lines.specs.Text.{ascii, decimal, number_line, clash_text, refused_text}
use Rattle.text_lines.specs.PlanLines.{figures_text, place_text, choice_line, choice_lines, answer_text, found, none, turns, clash, refused}

-- a choice that is out
pub place_out : (place : ℕ) → place ≡ 255 → ascii " out\n" ≡ place_text place
unfolding place_text
place_out place e = rw (eq-eqb place 255 e)

-- a choice with a slot
pub place-slot : (place : ℕ) → (place ≡ 255 → ⊥) → number_line (ascii " slot ") place ≡ place_text place
unfolding place_text
place-slot place n = rw (ne_eqb place 255 n)

-- a choice's line: its word, its number, its place
pub choice-line-is : (choice place : ℕ) → choice_line choice place ≡ ascii "choice " ++ (decimal choice ++ place_text place)
unfolding choice_line
choice-line-is choice place = refl

-- the three figures
pub figures-is : (used passes limit : ℕ) → figures_text used passes limit ≡ number_line (ascii "turns ") used ++ (number_line (ascii "passes ") passes ++ number_line (ascii "limit ") limit)
unfolding figures_text
figures-is used passes limit = refl

-- the five answers
pub found-is : (used passes limit : ℕ) (plan : List ℕ) → answer_text (found used passes limit plan) ≡ (ascii "result found\n" ++ figures_text used passes limit) ++ choice_lines 0 plan
unfolding answer_text
found-is used passes limit plan = sym (append_assoc (ascii "result found\n") (figures_text used passes limit) (choice_lines 0 plan))

pub none_is : (used passes limit : ℕ) → ascii "result none\n" ++ figures_text used passes limit ≡ answer_text (none used passes limit)
unfolding answer_text
none_is used passes limit = refl

pub turns-is : (used passes limit : ℕ) → ascii "result turns\n" ++ figures_text used passes limit ≡ answer_text (turns used passes limit)
unfolding answer_text
turns-is used passes limit = refl

-- a clash and a refusal are said as every program says them
pub clash-is : clash_text ≡ answer_text clash
unfolding answer_text
clash-is = refl

pub refused-is : (number : ℕ) → refused_text number ≡ answer_text (refused number)
unfolding answer_text
refused-is number = refl
