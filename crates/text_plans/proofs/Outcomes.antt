-- Where turns don't run out there is one text, under any budget; with request 03's nodes within the budget
-- they don't; and a total of 0 says that the day has no plan.
use mathlib.Core.Path.{◌≡◌, refl, sym, ◌∙◌, ap, subst}
use mathlib.Core.Bool.{Bool, true, false, false≢true}
use mathlib.Core.List.Memᴰ
use mathlib.Core.List.{List, [], ◌∷◌, ◌++◌, append_assoc, Memᴰ}
use mathlib.Core.Logic.{◌⊎◌, ⊎_elim}
use Prim.Native.Nat.{ℕ, zero, suc, ◌+◌, ◌*◌, ◌/◌, ◌%◌, ◌≤◌, ◌<◌, ◌^◌}
use native.Mathlib.Nat.{pow-suc}
use native.Mathlib.Omega.{arith}
use borrow.Author.Tests.{ltb-false}
use lib.Dec.{ltb}
use lib.ListN.{length, get_or, take}
use Rattle.base_lists.specs.Pool.{pad}
use Rattle.std.specs.Prelude.{Result}
use Rattle.day_rows.specs.declared.refusal.Refusal.{Refusal}
use Rattle.day_rows.specs.Told.{tells, Told, done, refused, Verdict}
use Rattle.day_rows.proofs.ToldLaws.{answer_of, answer_back, refused-not-done}
use Rattle.plan_check.specs.Day.{Day}
use Rattle.plan_check.specs.Feasible.{feasible}
use Rattle.list_nodes.specs.Placements.{plans, total, nodes}
use Rattle.list_nodes.proofs.Members.{feasible-listed}
use Rattle.text_lines.specs.Text.{ascii, decimal, digits_within, number_line, clash_text, refused_text}
use Rattle.text_lines.specs.PlansLines.{PlansAnswer, ended, goes_on, turns, clash, plan_lines, page_text, answer_text}
use Rattle.text_lines.specs.PlansLines as answer
use Rattle.text_lines.specs.Pages.{longest}
use Rattle.text_day.specs.Prepared.{Prepared, prepared_of}
use Rattle.text_day.specs.Prepared as prepared
use Rattle.text_plans.specs.PlansAnswer.{Lists, lists-all, lists-page, lists-some, AnsweredBy, file_day, Answers}
use Rattle.text_plans.specs.Calls.{Prints, TextFits, refuses, prints}

-- ---- answers

-- an answer that turns don't cut short
abbrev pub answered_in_time : PlansAnswer → Bool
answered_in_time (ended first all told) = true
answered_in_time (goes_on first met told) = true
answered_in_time (turns first met told) = false
answered_in_time clash = true
answered_in_time (answer.refused number) = true

module _ (day : Day) (first room : ℕ) where
  -- a list that ends with the page doesn't go on past it
  not-both : (room ≡ 0) ⊎ (total day ≤ first + room) → 0 < room → first + room < total day → ⊥
  not-both c r t = ⊎_elim (λ e. omega (arith, e, r)) (λ l. omega (arith, l, t)) c

  one_list : {budget budget' : ℕ} {one other : PlansAnswer} → Lists day first room budget one → Lists day first room budget' other → answered_in_time one ≡ true → answered_in_time other ≡ true → one ≡ other
  one_list (lists-all c s) (lists-all c' s') t t' = refl
  one_list (lists-all c s) (lists-page r l) t t' = absurd (not-both c r l)
  one_list (lists-all c s) (lists-some met n l o) t t' = absurd (false≢true t')
  one_list (lists-page r l) (lists-all c s) t t' = absurd (not-both c r l)
  one_list (lists-page r l) (lists-page r' l') t t' = refl
  one_list (lists-page r l) (lists-some met n l' o) t t' = absurd (false≢true t')
  one_list (lists-some met n l o) g t t' = absurd (false≢true t)

  enough-listed : {budget : ℕ} {one : PlansAnswer} → nodes day ≤ budget → Lists day first room budget one → answered_in_time one ≡ true
  enough-listed h (lists-all c s) = refl
  enough-listed h (lists-page r l) = refl
  enough-listed h (lists-some met n l o) = absurd (omega arith)

module _ (file : List ℕ) (first room : ℕ) where
  -- two answers that may be given, under whatever budgets, are one
  pub one_answer : (budget budget' : ℕ) (one other : PlansAnswer) → Answers file first room budget one → Answers file first room budget' other → answered_in_time one ≡ true → answered_in_time other ≡ true → one ≡ other
  unfolding Answers
  one_answer budget budget' one other a b t t' = go (prepared_of file) a b
    where
      go : (p : Prepared) → AnsweredBy p (Lists (file_day file) first room budget) one → AnsweredBy p (Lists (file_day file) first room budget') other → one ≡ other
      go prepared.ready l k = one_list (file_day file) first room l k t t'
      go prepared.clash e f = e ∙ sym f
      go (prepared.refused number) e f = e ∙ sym f

  -- with request 03's nodes within the budget turns don't run out
  pub enough_turns : (budget : ℕ) (one : PlansAnswer) → nodes (file_day file) ≤ budget → Answers file first room budget one → answered_in_time one ≡ true
  unfolding Answers
  enough_turns budget one h a = go (prepared_of file) a
    where
      go : (p : Prepared) → AnsweredBy p (Lists (file_day file) first room budget) one → answered_in_time one ≡ true
      go prepared.ready l = enough-listed (file_day file) first room h l
      go prepared.clash e = ap answered_in_time e
      go (prepared.refused number) e = ap answered_in_time e

-- ---- texts

-- a text, or a pool with a text at its front, that says that turns ran out
abbrev pub SaysTurns : List ℕ → Type 0
SaysTurns text = take 12 text ≡ ascii "result turns"

-- a text that doesn't say turns is a settled answer's
said_settled : (one : PlansAnswer) (rest : List ℕ) → (SaysTurns (answer_text one ++ rest) → ⊥) → answered_in_time one ≡ true
unfolding answer_text page_text number_line
said_settled (ended first all told) rest n = refl
said_settled (goes_on first met told) rest n = refl
said_settled (turns first met told) rest n = absurd (n refl)
said_settled clash rest n = refl
said_settled (answer.refused number) rest n = refl

-- a settled answer's text doesn't say turns
settled_says : (one : PlansAnswer) → answered_in_time one ≡ true → SaysTurns (answer_text one) → ⊥
unfolding answer_text page_text number_line clash_text refused_text
settled_says (ended first all told) t e = let z : ◌≡◌ {A = ℕ} 108 116 = ap (λ (l : List ℕ). get_or l 7 0) e in absurd (omega arith)
settled_says (goes_on first met told) t e = let z : ◌≡◌ {A = ℕ} 108 116 = ap (λ (l : List ℕ). get_or l 7 0) e in absurd (omega arith)
settled_says (turns first met told) t e = absurd (false≢true t)
settled_says clash t e = let z : ◌≡◌ {A = ℕ} 99 116 = ap (λ (l : List ℕ). get_or l 7 0) e in absurd (omega arith)
settled_says (answer.refused number) t e = let z : ◌≡◌ {A = ℕ} 114 116 = ap (λ (l : List ℕ). get_or l 7 0) e in absurd (omega arith)

module _ (file : List ℕ) (first room : ℕ) where
  -- no two texts of one file and page but where one says turns
  one-shown : {budget budget' : ℕ} {text text' : List ℕ} (rest rest' : List ℕ) → Prints file first room budget text → Prints file first room budget' text' → (SaysTurns (text ++ rest) → ⊥) → (SaysTurns (text' ++ rest') → ⊥) → text ≡ text'
  one-shown {budget} {budget'} rest rest' p q n m =
      p.says
      ∙ ap answer_text
      (one_answer file first room budget budget' p.answer q.answer p.may q.may
      (said_settled p.answer rest (λ e. n (ap (λ (l : List ℕ). take 12 (l ++ rest)) p.says ∙ e)))
      (said_settled q.answer rest' (λ e. m (ap (λ (l : List ℕ). take 12 (l ++ rest')) q.says ∙ e))))
      ∙ sym q.says

  -- with request 03's nodes within the budget no text says turns
  pub none-says-turns : {budget : ℕ} {text : List ℕ} → nodes (file_day file) ≤ budget → Prints file first room budget text → SaysTurns text → ⊥
  none-says-turns {budget} h p e =
      settled_says p.answer (enough_turns file first room budget p.answer h p.may) (ap (take 12) (sym p.says) ∙ e)

-- ---- the call

-- a refusal's number and what it carries, whatever the call
abbrev carry : Verdict → Told ℕ
carry (done value) = done 0
carry (refused number carried) = refused number carried

module _ (file : List ℕ) (first room budget : ℕ) (pool : List ℕ) where
  one_told : {told told' : Told ℕ} {after after' : List ℕ} → TextFits file first room budget pool told after → TextFits file first room budget pool told' after'
      → (SaysTurns after → ⊥) → (SaysTurns after' → ⊥) → (told ≡ told') × (after ≡ after')
  unfolding pad
  one_told (refuses number carried e) (refuses number' carried' e') n m = (ap carry (sym e ∙ e'), refl)
  one_told (refuses number carried e) (prints g text p) n m = absurd (refused-not-done (sym e ∙ g))
  one_told (prints g text p) (refuses number carried e) n m = absurd (refused-not-done (sym e ∙ g))
  one_told (prints g text p) (prints g' text' p') n m =
      let e : text ≡ text' = one-shown file first room _ _ p p' n m in
      (ap (λ (l : List ℕ). done (length l)) e, ap (pad longest) e)

  -- no two outcomes fit the promise of the text but where one says turns
  pub one-text : {answer other : Result ℕ Refusal} {after after' : List ℕ} → TextFits file first room budget pool (tells answer) after → TextFits file first room budget pool (tells other) after'
      → (SaysTurns after → ⊥) → (SaysTurns after' → ⊥) → (answer ≡ other) × (after ≡ after')
  one-text {answer} {other} p q n m =
      let e = one_told p q n m in
      (sym (answer_back answer) ∙ ap answer_of e.0 ∙ answer_back other, e.1)

-- ---- a total of 0

-- a number whose first digit is 0 is 0
first_digit : (most number : ℕ) (rest : List ℕ) → number < 10 ^ most → get_or (digits_within most number ++ rest) 0 0 ≡ 48 → number ≡ 0
unfolding digits_within
first_digit zero number rest h e = let a : number < 1 = h in omega arith
first_digit (suc most) number rest h e = go (ltb number 10) refl e (first_digit most (number / 10))
  where
    go : (b : Bool) → ltb number 10 ≡ b → get_or (digits_within (suc most) number ++ rest) 0 0 ≡ 48
        → ((rest : List ℕ) → number / 10 < 10 ^ most → get_or (digits_within most (number / 10) ++ rest) 0 0 ≡ 48 → number / 10 ≡ 0) → number ≡ 0
    go true t e ih = let a : 48 + number ≡ 48 = rw t at e in omega arith
    go false t e ih =
        let p : 10 ^ suc most ≡ 10 ^ most * 10 = pow-suc 10 most in
        let a : 10 ≤ number = ltb-false number 10 t in
        let last = (48 + number % 10) ∷ [] in
        let f : get_or (digits_within most (number / 10) ++ last ++ rest) 0 0 ≡ 48 = rw t at e in
        let z : number / 10 ≡ 0 = ih (last ++ rest) (omega arith) (ap (λ (l : List ℕ). get_or l 0 0) (sym (append_assoc (digits_within most (number / 10)) last rest)) ∙ f) in
        omega arith

decimal-zero : (number : ℕ) (rest : List ℕ) → number < 2 ^ 64 → get_or (decimal number ++ rest) 0 0 ≡ 48 → number ≡ 0
unfolding decimal
decimal-zero number rest h e = first_digit 20 number rest (omega arith) e

none_in : (l : List (List ℕ)) (plan : List ℕ) → length l ≡ 0 → Memᴰ plan l → ⊥
none_in [] plan e m = Memᴰ.not-nil m
none_in (x ∷ l) plan e m = absurd (omega arith)

-- the total that an answer tells is the day's
abbrev TotalIs : Day → PlansAnswer → Type 0
TotalIs day (ended first all told) = (all ≡ total day) × (all < 2 ^ 64)
TotalIs day (goes_on first met told) = Unit {0}
TotalIs day (turns first met told) = Unit {0}
TotalIs day clash = Unit {0}
TotalIs day (answer.refused number) = Unit {0}

listed-total : (day : Day) (first room budget : ℕ) {one : PlansAnswer} → Lists day first room budget one → TotalIs day one
listed-total day first room budget (lists-all c s) = (refl, s)
listed-total day first room budget (lists-page r l) = tt
listed-total day first room budget (lists-some met n l o) = tt

module _ (file : List ℕ) (first room budget : ℕ) where
  answer-total : (one : PlansAnswer) → Answers file first room budget one → TotalIs (file_day file) one
  unfolding Answers
  answer-total one a = go (prepared_of file) a
    where
      go : (p : Prepared) → AnsweredBy p (Lists (file_day file) first room budget) one → TotalIs (file_day file) one
      go prepared.ready l = listed-total (file_day file) first room budget l
      go prepared.clash e = subst (TotalIs (file_day file)) (sym e) tt
      go (prepared.refused number) e = subst (TotalIs (file_day file)) (sym e) tt

  zero-said : (one : PlansAnswer) → answer_text one ≡ ascii "result listed\ntotal 0\n" → TotalIs (file_day file) one → total (file_day file) ≡ 0
  unfolding answer_text page_text number_line clash_text refused_text
  zero-said (ended f all told) e t =
      let nl : List ℕ = 10 ∷ [] in
      let z : all ≡ 0 = decimal-zero all (nl ++ plan_lines f told) t.1 (ap (λ (l : List ℕ). get_or l 0 0) (sym (append_assoc (decimal all) nl (plan_lines f told))) ∙ ap (λ (l : List ℕ). get_or l 20 0) e) in
      sym t.0 ∙ z
  zero-said (goes_on f met told) e t = let z : ◌≡◌ {A = ℕ} 97 48 = ap (λ (l : List ℕ). get_or l 20 0) e in absurd (omega arith)
  zero-said (turns f met told) e t = let z : ◌≡◌ {A = ℕ} 116 108 = ap (λ (l : List ℕ). get_or l 7 0) e in absurd (omega arith)
  zero-said clash e t = let z : ◌≡◌ {A = ℕ} 99 108 = ap (λ (l : List ℕ). get_or l 7 0) e in absurd (omega arith)
  zero-said (answer.refused number) e t = let z : ◌≡◌ {A = ℕ} 114 108 = ap (λ (l : List ℕ). get_or l 7 0) e in absurd (omega arith)

  -- a text that says a total of 0: the day that is listed has no plan at all
  pub total-zero : {text : List ℕ} → Prints file first room budget text → text ≡ ascii "result listed\ntotal 0\n"
      → (plan : List ℕ) → length plan ≡ (file_day file).counts.choices → feasible (file_day file) plan ≡ true → ⊥
  unfolding total
  total-zero p e plan n f =
      none_in (plans (file_day file)) plan (zero-said p.answer (sym p.says ∙ e) (answer-total p.answer p.may)) (feasible-listed (file_day file) plan n f)
