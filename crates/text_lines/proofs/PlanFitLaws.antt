-- How long a text is at most.
use mathlib.Core.Path.{◌≡◌, refl}
use mathlib.Core.Bool.{Bool, true, false}
use mathlib.Core.List.{List, [], ◌∷◌, ◌++◌}
use Prim.Native.Nat.{ℕ, suc, ◌+◌, ◌*◌, ◌≤◌, ◌<◌}
use native.Mathlib.Omega.{arith}
use lib.Dec.{eqb}
use lib.ListN.{length, get_or, length-append}
use Rattle.text_lines.specs.Text.{ascii, decimal, number_line, clash_text, refused_text}
use Rattle.text_lines.specs.steps.Put.{Fits}
use Rattle.text_lines.proofs.DecimalLaws.{decimal-two, decimal-short}
use Rattle.text_lines.proofs.NewlineLaws.{number-line-length, number-line-most}
use Rattle.text_lines.specs.PlanLines.{PlanAnswer, found, none, turns, clash, refused, figures_text, place_text, choice_line, choice_lines, answer_text}

-- a plan of at most 64 choices, each with a place of a byte
pub record ModestPlan (plan : List ℕ) : Type 0 where
  pub few : length plan ≤ 64
  pub bytes : (choice : ℕ) → choice < length plan → get_or plan choice 0 < 256

-- an answer with such a plan
abbrev pub Modest : PlanAnswer → Type 0
Modest (found used passes limit plan) = ModestPlan plan
Modest (none used passes limit) = Unit {0}
Modest (turns used passes limit) = Unit {0}
Modest clash = Unit {0}
Modest (refused number) = Unit {0}

-- a place takes at most ten bytes
place-length : (place : ℕ) → place < 256 → length (place_text place) ≤ 10
unfolding place_text
place-length place h = go (eqb place 255) refl
  where
    go : (b : Bool) → eqb place 255 ≡ b → length (place_text place) ≤ 10
    go true t = rw t (omega arith)
    go false t =
        let d : length (decimal place) ≤ 3 = decimal-short place (omega arith) in
        let l : length (number_line (ascii " slot ") place) ≡ 6 + (length (decimal place) + 1) = number-line-length (ascii " slot ") place in
        rw t (omega arith)

-- a choice's line takes at most 19
line-length : (choice place : ℕ) → choice < 64 → place < 256 → length (choice_line choice place) ≤ 19
unfolding choice_line
line-length choice place c h =
    let p : length (place_text place) ≤ 10 = place-length place h in
    let d : length (decimal choice) ≤ 2 = decimal-two choice (omega arith) in
    let e : length (decimal choice ++ place_text place) ≡ length (decimal choice) + length (place_text place) = length-append (decimal choice) (place_text place) in
    omega arith

-- so do the lines of the choices each
lines_length : (choice : ℕ) (plan : List ℕ) → choice + length plan ≤ 64 → ((i : ℕ) → i < length plan → get_or plan i 0 < 256) → length (choice_lines choice plan) ≤ 19 * length plan
unfolding choice_lines
lines_length choice [] c h = omega arith
lines_length choice (place ∷ plan) c h =
    let a : length (choice_line choice place) ≤ 19 = line-length choice place (omega arith) (h 0 (omega arith)) in
    let b : length (choice_lines (choice + 1) plan) ≤ 19 * length plan = lines_length (choice + 1) plan (omega arith) (λ i l. h (suc i) (omega arith)) in
    rw (length-append (choice_line choice place) (choice_lines (choice + 1) plan)) (omega arith)

-- the figures take at most 82
figures-length : (used passes limit : ℕ) → length (figures_text used passes limit) ≤ 82
unfolding figures_text
figures-length used passes limit =
    let a : length (number_line (ascii "turns ") used) ≤ 27 = number-line-most (ascii "turns ") used in
    let b : length (number_line (ascii "passes ") passes) ≤ 28 = number-line-most (ascii "passes ") passes in
    let c : length (number_line (ascii "limit ") limit) ≤ 27 = number-line-most (ascii "limit ") limit in
    let e : length (number_line (ascii "passes ") passes ++ number_line (ascii "limit ") limit) ≡ length (number_line (ascii "passes ") passes) + length (number_line (ascii "limit ") limit) =
    length-append (number_line (ascii "passes ") passes) (number_line (ascii "limit ") limit) in
    rw (length-append (number_line (ascii "turns ") used) (number_line (ascii "passes ") passes ++ number_line (ascii "limit ") limit)) (omega arith)

-- a modest answer's text fits the pool lent for it
pub answer-fits : (answer : PlanAnswer) → Modest answer → length (answer_text answer) ≤ 1311
unfolding answer_text clash_text refused_text
answer-fits (found used passes limit plan) m =
    let f : length (figures_text used passes limit) ≤ 82 = figures-length used passes limit in
    let n : length plan ≤ 64 = m.few in
    let l : length (choice_lines 0 plan) ≤ 19 * length plan = lines_length 0 plan (omega arith) m.bytes in
    let e : length (figures_text used passes limit ++ choice_lines 0 plan) ≡ length (figures_text used passes limit) + length (choice_lines 0 plan) =
    length-append (figures_text used passes limit) (choice_lines 0 plan) in
    omega arith
answer-fits (none used passes limit) m =
    let f : length (figures_text used passes limit) ≤ 82 = figures-length used passes limit in
    omega arith
answer-fits (turns used passes limit) m =
    let f : length (figures_text used passes limit) ≤ 82 = figures-length used passes limit in
    omega arith
answer-fits clash m = omega arith
answer-fits (refused number) m =
    let a : length (number_line (ascii "result refused ") number) ≤ 36 = number-line-most (ascii "result refused ") number in
    omega arith

-- so it has room in such a pool
pub answer-room : (answer : PlanAnswer) (text : List ℕ) → Modest answer → 1311 ≤ length text → Fits text 0 (answer_text answer)
answer-room answer text m h = let f = answer-fits answer m in omega (arith, f, h)
