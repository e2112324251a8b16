-- The texts of lines as their parts, one behind the other.
use mathlib.Core.Path.{◌≡◌, refl}
use mathlib.Core.List.{List, ◌++◌, flat_map}
use Prim.Native.Nat.{ℕ}
use borrow.Author.Tests.{eq-eqb, ne_eqb}
use Rattle.text_lines.specs.Text.{ascii, decimal, number_line, clash_text, refused_text}
use Rattle.text_lines.specs.PlansLines.{place_text, plan_line, plan_lines, page_text, answer_text, ended, goes_on, turns, clash, refused}

-- a choice that is out
pub place_out : (place : ℕ) → place ≡ 255 → ascii " out" ≡ place_text place
unfolding place_text
place_out place e = rw (eq-eqb place 255 e)

-- a choice with a slot
pub place-slot : (place : ℕ) → (place ≡ 255 → ⊥) → place_text place ≡ ascii " " ++ decimal place
unfolding place_text
place-slot place n = rw (ne_eqb place 255 n)

-- a plan's line: its word, its number, its places, the line's end
pub plan-line-is : (number : ℕ) (plan : List ℕ) → plan_line number plan ≡ ascii "plan " ++ (decimal number ++ (flat_map place_text plan ++ ascii "\n"))
unfolding plan_line
plan-line-is number plan = refl

-- a page: its head with the number, and its plans
pub page-is : (head : List ℕ) (first number : ℕ) (plans : List (List ℕ)) → page_text head first number plans ≡ number_line head number ++ plan_lines first plans
unfolding page_text
page-is head first number plans = refl

-- the three answers with a page
pub ended_is : (first total : ℕ) (plans : List (List ℕ)) → page_text (ascii "result listed\ntotal ") first total plans ≡ answer_text (ended first total plans)
unfolding answer_text
ended_is first total plans = refl

pub goes_on-is : (first met : ℕ) (plans : List (List ℕ)) → page_text (ascii "result listed\ntotal at least ") first met plans ≡ answer_text (goes_on first met plans)
unfolding answer_text
goes_on-is first met plans = refl

pub turns-is : (first met : ℕ) (plans : List (List ℕ)) → page_text (ascii "result turns\ntotal at least ") first met plans ≡ answer_text (turns first met plans)
unfolding answer_text
turns-is first met plans = refl

-- a clash and a refusal are said as every program says them
pub clash-is : clash_text ≡ answer_text clash
unfolding answer_text
clash-is = refl

pub refused-is : (number : ℕ) → refused_text number ≡ answer_text (refused number)
unfolding answer_text
refused-is number = refl
