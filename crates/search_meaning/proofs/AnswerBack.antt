-- A search's answer, read back from what it tells: no two answers tell the same.
use mathlib.Core.Path.{◌≡◌, refl, ap}
use Rattle.std.specs.Prelude.{Result, Ok, Err, IsErrAnd}
use Rattle.day_rows.specs.Refusal.{number_of, carried_by}
use Rattle.day_rows.specs.Told.{Told, done, refused}
use Rattle.day_rows.proofs.ToldLaws.{refusal_of, refusal-back}
use Rattle.day_rows.specs.declared.refusal.Refusal.{Refusal}
use Rattle.search_meaning.specs.declared.answer.Searched.{Searched}
use Rattle.search_meaning.specs.declared.answer.Searched.TheVariants as searched
use Rattle.search_meaning.specs.Calls.{Settled, plan, no_plan, out_of_turns, settled, searched_tells}

-- the answer that settles so
abbrev pub settled_of : Settled → Searched
settled_of (plan figures) = searched.Found figures
settled_of (no_plan figures) = searched.None figures
settled_of (out_of_turns figures) = searched.OutOfTurns figures

pub settled-back : (answer : Searched) → settled_of (settled answer) ≡ answer
settled-back (searched.Found figures) = refl
settled-back (searched.None figures) = refl
settled-back (searched.OutOfTurns figures) = refl

-- the answer of a telling
abbrev pub searched_of : Told Settled → Result Searched Refusal
searched_of (done answer) = Ok (settled_of answer)
searched_of (refused number carried) = Err (refusal_of number carried)

pub searched-back : (answer : Result Searched Refusal) → searched_of (searched_tells answer) ≡ answer
searched-back (Ok answer) = ap Ok (settled-back answer)
searched-back (Err why) = ap Err (refusal-back why)

-- an error that a search passes on by `?` is told as it was
pub searched-passed : (answer : Result Searched Refusal) (why : Refusal) → IsErrAnd answer (λ given. given ≡ why) → searched_tells answer ≡ refused (number_of why) (carried_by why)
searched-passed (Ok value) why h = absurd h
searched-passed (Err given) why h = ap (λ (why : Refusal). refused (number_of why) (carried_by why)) h
