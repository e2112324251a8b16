-- A telling is one-to-one: from what an answer tells the answer itself can be read back, 5 with its row too.
use mathlib.Core.Path.{◌≡◌, refl, sym, ◌∙◌, ap}
use mathlib.Core.Bool.{Bool, true, false, cond, false≢true}
use mathlib.Core.List.{List}
use Prim.Native.Nat.{ℕ}
use lib.Dec.{eqb}
use lib.ListN.{get_or}
use Rattle.day_rows.specs.Refusal.{number_of, carried_by}
use Rattle.std.specs.Prelude.{Result, Ok, Err, IsErrAnd}
use Rattle.day_rows.specs.Told.{tells, Told, done, refused, Verdict, good, unless, and_then, Outcome, outcome}
use Rattle.day_rows.specs.declared.refusal.Refusal.{Refusal}
use Rattle.day_rows.specs.declared.refusal.Refusal.TheVariants as case

-- the refusal of a number, with what it carries
unfoldable pub refusal_of : ℕ → List ℕ → Refusal
refusal_of number carried =
    cond (eqb number 1) case.Count
    (cond (eqb number 2) case.Length
    (cond (eqb number 3) case.Levels
    (cond (eqb number 4) case.Preference
    (cond (eqb number 5) (case.Row (get_or carried 0 0))
    (cond (eqb number 6) case.TooMany
    (cond (eqb number 7) case.Sets
    (cond (eqb number 8) case.Orders
    (cond (eqb number 9) case.PlanCell
    (cond (eqb number 10) case.RosterCell
    (cond (eqb number 11) case.FileLength
    (cond (eqb number 12) case.Version
    (cond (eqb number 13) case.Optional
    case.Map))))))))))))

-- the refusal of its own number, with what it carries, is the refusal itself
pub refusal-back : (why : Refusal) → refusal_of (number_of why) (carried_by why) ≡ why
unfolding refusal_of
refusal-back case.Count = refl
refusal-back case.Length = refl
refusal-back case.Levels = refl
refusal-back case.Preference = refl
refusal-back (case.Row row) = refl
refusal-back case.TooMany = refl
refusal-back case.Sets = refl
refusal-back case.Orders = refl
refusal-back case.PlanCell = refl
refusal-back case.RosterCell = refl
refusal-back case.FileLength = refl
refusal-back case.Version = refl
refusal-back case.Optional = refl
refusal-back case.Map = refl

-- answers that can be read back from what they tell: no two tell the same
pub one_to_one : {X T : Type 0} (tells : X → T) (back : T → X) → ((x : X) → back (tells x) ≡ x) → {x y : X} → tells x ≡ tells y → x ≡ y
one_to_one tells back inverse {x} {y} e = sym (inverse x) ∙ ap back e ∙ inverse y

-- a promise that is an equation of what the answer tells settles the answer
pub one_answer : {X T : Type 0} (tells : X → T) (back : T → X) → ((x : X) → back (tells x) ≡ x) → {given : T} {x y : X} → tells x ≡ given → tells y ≡ given → x ≡ y
one_answer tells back inverse p q = one_to_one tells back inverse (p ∙ sym q)

-- a promise that is an equation of what the answer tells, with the buffers at exit, settles both
pub one-outcome : {X A B : Type 0} (tells : X → Told A) (back : Told A → X) → ((x : X) → back (tells x) ≡ x)
    → {given : Outcome A B} {x y : X} {b c : B} → outcome (tells x) b ≡ given → outcome (tells y) c ≡ given → (x ≡ y) × (b ≡ c)
one-outcome tells back inverse p q =
    let e = p ∙ sym q in
    (one_to_one tells back inverse (ap (λ o. o.answer) e), ap (λ o. o.buffers) e)

-- a call's answer, read back from what it tells
abbrev pub answer_of : {A : Type 0} → Told A → Result A Refusal
answer_of (done value) = Ok value
answer_of (refused number carried) = Err (refusal_of number carried)

pub answer_back : {A : Type 0} (answer : Result A Refusal) → answer_of (tells answer) ≡ answer
answer_back (Ok value) = refl
answer_back (Err why) = ap Err (refusal-back why)

-- a promise that is an equation of what the answer tells settles the answer, whatever the call
pub one_told : {A : Type 0} {given : Told A} {a b : Result A Refusal} → tells a ≡ given → tells b ≡ given → a ≡ b
one_told = one_answer tells answer_of answer_back

-- and with the buffers at exit, both
pub one_told-outcome : {A B : Type 0} {given : Outcome A B} {a b : Result A Refusal} {before after : B} → outcome (tells a) before ≡ given → outcome (tells b) after ≡ given → (a ≡ b) × (before ≡ after)
one_told-outcome = one-outcome tells answer_of answer_back

-- a known answer tells what the call's answer tells
pub told-by : {A : Type 0} {answer known : Result A Refusal} {told : Told A} → tells answer ≡ told → answer ≡ known → tells known ≡ told
told-by e k = ap tells (sym k) ∙ e

-- an error that a call passes on by `?` is told as it was
pub passed_on : {A : Type 0} (answer : Result A Refusal) (why : Refusal) → IsErrAnd answer (λ given. given ≡ why) → tells answer ≡ refused (number_of why) (carried_by why)
passed_on (Ok value) why h = absurd h
passed_on (Err given) why h = ap (λ (why : Refusal). refused (number_of why) (carried_by why)) h

-- whether a telling is done
abbrev done? : {A : Type 0} → Told A → Bool
done? (done value) = true
done? (refused number carried) = false

-- what was done tells its value
pub done-is : {A : Type 0} {one other : A} → done one ≡ done other → one ≡ other
done-is {A} {one} e = ap value_or e
  where
    value_or : Told A → A
    value_or (done value) = value
    value_or (refused number carried) = one

-- what is refused isn't done
pub refused-not-done : {A : Type 0} {value : A} {number : ℕ} {carried : List ℕ} → refused number carried ≡ done value → ⊥
refused-not-done e = false≢true (ap done? e)

-- what was refused tells its number
pub refused-number : {A : Type 0} {number other : ℕ} {carried with_it : List ℕ} → ◌≡◌ {A = Told A} (refused number carried) (refused other with_it) → number ≡ other
refused-number {A} e = ap number-of e
  where
    number-of : Told A → ℕ
    number-of (done value) = 0
    number-of (refused number carried) = number

-- one refusal, told of calls that hand back different values
pub refused_as : {A B : Type 0} {number other : ℕ} {carried with_it : List ℕ} → ◌≡◌ {A = Told A} (refused number carried) (refused other with_it)
    → ◌≡◌ {A = Told B} (refused number carried) (refused other with_it)
refused_as {A} {B} {number} {other} {carried} e = ap same e
  where
    same : Told A → Told B
    same (done value) = refused number carried
    same (refused x y) = refused x y

-- what a test let through was done by the rest
pub unless-done : {A : Type 0} (test : Bool) (number : ℕ) (rest : Told A) {value : A} → unless test number rest ≡ done value → (test ≡ true) × (rest ≡ done value)
unless-done true number rest e = (refl, e)
unless-done false number rest e = absurd (refused-not-done e)

-- what a first verdict let through: it was good, and the rest did it
pub then_done : {A : Type 0} (first : Verdict) (rest : Told A) {value : A} → and_then first rest ≡ done value → (first ≡ good) × (rest ≡ done value)
then_done (done value) rest e = (refl, e)
then_done (refused number carried) rest e = absurd (refused-not-done e)
