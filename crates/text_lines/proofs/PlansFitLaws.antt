-- How long a text is at most.
use mathlib.Core.Path.{◌≡◌, refl, ap}
use mathlib.Core.Bool.{Bool, true, false}
use mathlib.Core.List.Memᴰ
use mathlib.Core.List.{List, [], ◌∷◌, ◌++◌, flat_map, Memᴰ}
use mathlib.Core.Logic.{⊎_elim}
use Prim.Native.Nat.{ℕ, zero, suc, ◌+◌, ◌*◌, ◌≤◌, ◌<◌}
use native.Mathlib.Omega.{arith}
use lib.Dec.{eqb}
use lib.ListN.{length, get_or, take, drop, length-append, length-take}
use Rattle.text_lines.specs.Text.{ascii, decimal, number_line, clash_text, refused_text}
use Rattle.text_lines.proofs.DecimalLaws.{decimal-length, decimal-short}
use Rattle.text_lines.proofs.NewlineLaws.{number-line-most}
use Rattle.text_lines.specs.Pages.{plans_in}
use Rattle.text_lines.specs.PlansLines.{PlansAnswer, ended, goes_on, turns, clash, refused, place_text, plan_line, plan_lines, page_text, answer_text}

-- a plan of at most 64 choices, each with a place of a byte
abbrev pub ModestPlan : List ℕ → Type 0
ModestPlan plan = (length plan ≤ 64) × ((place : ℕ) → Memᴰ place plan → place < 256)

-- at most 1,024 such plans
abbrev pub ModestPage : List (List ℕ) → Type 0
ModestPage plans = (length plans ≤ 1024) × ((plan : List ℕ) → Memᴰ plan plans → ModestPlan plan)

-- an answer with such a page
abbrev pub Modest : PlansAnswer → Type 0
Modest (ended first total plans) = ModestPage plans
Modest (goes_on first met plans) = ModestPage plans
Modest (turns first met plans) = ModestPage plans
Modest clash = Unit {0}
Modest (refused number) = Unit {0}

-- a place takes at most four bytes
place-length : (place : ℕ) → place < 256 → length (place_text place) ≤ 4
unfolding place_text
place-length place h = go (eqb place 255) refl
  where
    go : (b : Bool) → eqb place 255 ≡ b → length (place_text place) ≤ 4
    go true t = rw t (omega arith)
    go false t =
        let d : length (decimal place) ≤ 3 = decimal-short place (omega arith) in
        rw t (omega arith)

-- so do the places of a plan each
places-length : (plan : List ℕ) → ((place : ℕ) → Memᴰ place plan → place < 256) → length (flat_map place_text plan) ≤ 4 * length plan
unfolding flat_map
places-length [] h = omega arith
places-length (place ∷ plan) h =
    let a : length (place_text place) ≤ 4 = place-length place (h place (Memᴰ.head refl)) in
    let b : length (flat_map place_text plan) ≤ 4 * length plan = places-length plan (λ p m. h p (Memᴰ.tail m)) in
    rw (length-append (place_text place) (flat_map place_text plan)) (omega arith)

-- a plan's line takes at most 282
line-length : (number : ℕ) (plan : List ℕ) → ModestPlan plan → length (plan_line number plan) ≤ 282
unfolding plan_line
line-length number plan h =
    let a : length (flat_map place_text plan) ≤ 4 * length plan = places-length plan h.1 in
    let d : length (decimal number) ≤ 20 = decimal-length number in
    let e : length (decimal number ++ (flat_map place_text plan ++ ascii "\n")) ≡ length (decimal number) + length (flat_map place_text plan ++ ascii "\n") =
    length-append (decimal number) (flat_map place_text plan ++ ascii "\n") in
    let f : length (flat_map place_text plan ++ ascii "\n") ≡ length (flat_map place_text plan) + 1 = length-append (flat_map place_text plan) (ascii "\n") in
    let s : length plan ≤ 64 = h.0 in
    omega arith

-- so do the lines of the plans each
lines_length : (number : ℕ) (plans : List (List ℕ)) → ((plan : List ℕ) → Memᴰ plan plans → ModestPlan plan) → length (plan_lines number plans) ≤ 282 * length plans
unfolding plan_lines
lines_length number [] h = omega arith
lines_length number (plan ∷ plans) h =
    let a : length (plan_line number plan) ≤ 282 = line-length number plan (h plan (Memᴰ.head refl)) in
    let b : length (plan_lines (number + 1) plans) ≤ 282 * length plans = lines_length (number + 1) plans (λ p m. h p (Memᴰ.tail m)) in
    rw (length-append (plan_line number plan) (plan_lines (number + 1) plans)) (omega arith)

-- a page's text fits the pool lent for it
text-fits : (head : List ℕ) (first number : ℕ) (plans : List (List ℕ)) → length head ≤ 29 → ModestPage plans → length (page_text head first number plans) ≤ 288818
unfolding page_text
text-fits head first number plans short h =
    let a : length (number_line head number) ≤ length head + 21 = number-line-most head number in
    let l : length (plan_lines first plans) ≤ 282 * length plans = lines_length first plans h.1 in
    let s : length plans ≤ 1024 = h.0 in
    let e : length (number_line head number ++ plan_lines first plans) ≡ length (number_line head number) + length (plan_lines first plans) =
    length-append (number_line head number) (plan_lines first plans) in
    omega arith

-- so does a modest answer's
pub answer-fits : (answer : PlansAnswer) → Modest answer → length (answer_text answer) ≤ 288818
unfolding answer_text clash_text refused_text
answer-fits (ended first total plans) h = text-fits (ascii "result listed\ntotal ") first total plans (omega arith) h
answer-fits (goes_on first met plans) h = text-fits (ascii "result listed\ntotal at least ") first met plans (omega arith) h
answer-fits (turns first met plans) h = text-fits (ascii "result turns\ntotal at least ") first met plans (omega arith) h
answer-fits clash h = omega arith
answer-fits (refused number) h =
    let a : length (number_line (ascii "result refused ") number) ≤ 36 = number-line-most (ascii "result refused ") number in
    omega arith

-- ---- parts of a list

pub member-drop {ℓ} : {A : Type ℓ} (n : ℕ) (l : List A) (x : A) → Memᴰ x (drop n l) → Memᴰ x l
member-drop zero l x m = m
member-drop (suc n) [] x m = m
member-drop (suc n) (y ∷ l) x m = Memᴰ.tail (member-drop n l x m)

pub member-take {ℓ} : {A : Type ℓ} (n : ℕ) (l : List A) (x : A) → Memᴰ x (take n l) → Memᴰ x l
member-take zero l x m = absurd (Memᴰ.not-nil m)
member-take (suc n) [] x m = m
member-take (suc n) (y ∷ l) x m =
    ⊎_elim (λ e. Memᴰ.head e) (λ k. Memᴰ.tail (member-take n l x k)) (Memᴰ.cases_cons m)

-- ---- the plans of a page of bytes

-- a member of a list of bytes is one
member-byte : (l : List ℕ) → ((k : ℕ) → get_or l k 0 < 256) → (place : ℕ) → Memᴰ place l → place < 256
member-byte [] h place m = absurd (Memᴰ.not-nil m)
member-byte (x ∷ l) h place m =
    ⊎_elim (λ e. rw e (h 0)) (λ k. member-byte l (λ i. h (suc i)) place k) (Memᴰ.cases_cons m)

-- each plan is modest
plans-modest : (count choices : ℕ) (page : List ℕ) → choices ≤ 64 → ((place : ℕ) → Memᴰ place page → place < 256)
    → (length (plans_in count choices page) ≡ count) × ((plan : List ℕ) → Memᴰ plan (plans_in count choices page) → ModestPlan plan)
unfolding plans_in
plans-modest zero choices page c h = (refl, λ plan m. absurd (Memᴰ.not-nil m))
plans-modest (suc count) choices page c h =
    let r = plans-modest count choices (drop choices page) c (λ place m. h place (member-drop choices page place m)) in (
      ap suc r.0,
      λ plan m. ⊎_elim
          (λ e. rw e (let l = length-take choices page in omega (arith, l), λ place k. h place (member-take choices page place k)))
          (λ k. r.1 plan k)
          (Memᴰ.cases_cons m),
    )

-- the text of a page within the limits fits the pool lent for it
pub page-fits : (head : List ℕ) (first number count choices : ℕ) (page text : List ℕ) → count ≤ 1024 → choices ≤ 64 → length head ≤ 29 → ((k : ℕ) → get_or page k 0 < 256) → 288818 ≤ length text
    → 0 + length (page_text head first number (plans_in count choices page)) ≤ length text
page-fits head first number count choices page text n c s b l =
    let m = plans-modest count choices page c (member-byte page b) in
    let f : length (page_text head first number (plans_in count choices page)) ≤ 288818 =
    text-fits head first number (plans_in count choices page) s (let e = m.0 in omega (arith, e, n), m.1) in
    omega (arith, f, l)
