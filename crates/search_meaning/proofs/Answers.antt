-- The demand for whoever calls `search`: from the call's promise to what its answer says.
use mathlib.Core.Path.{◌≡◌, refl}
use mathlib.Core.Bool.{Bool, true, false}
use mathlib.Core.List.{List}
use Prim.Native.Nat.{ℕ, ◌<◌}
use borrow.Author.Tests.{leb-true, leb-false}
use lib.Dec.{leb}
use Rattle.std.specs.Prelude.{Result, Ok, Err, IsErrAnd}
use Rattle.day_rows.specs.Told.{outcome}
use Rattle.day_rows.specs.declared.refusal.Refusal.{Refusal}
use Rattle.search_meaning.specs.Given.{Given}
use Rattle.search_meaning.specs.Calls.{plan, no_plan, out_of_turns, searched_tells, search_of}
use Rattle.search_meaning.specs.declared.settings.Settings.{Settings}
use Rattle.search_meaning.specs.declared.answer.Searched.{Searched}
use Rattle.search_meaning.specs.declared.answer.Searched.TheVariants as searched
use Rattle.search_meaning.specs.Demand.{turns_that_settle, OwnMap}
use Rattle.search_meaning.specs.SearchAnswer.{AnswerSays}
use Rattle.search_meaning.proofs.DemandHolds.{demand}

module _ (given : Given) (settings : Settings) (before after : List ℕ) (full : settings.full ≡ true) (own : OwnMap given) where
  -- what `search` promises of its answer says this
  pub answered : (answer : Result Searched Refusal) → outcome (searched_tells answer) after ≡ search_of given settings before → AnswerSays given settings.total_budget after answer
  answered (Ok (searched.Found figures)) e =
      (demand given settings before full own (plan figures) after e).plan-is figures refl
  answered (Ok (searched.None figures)) e =
      (demand given settings before full own (no_plan figures) after e).none_is figures refl
  answered (Ok (searched.OutOfTurns figures)) e =
      go (leb (turns_that_settle given) settings.total_budget) refl
    where
      go : (b : Bool) → leb (turns_that_settle given) settings.total_budget ≡ b → settings.total_budget < turns_that_settle given
      go true t = absurd ((demand given settings before full own (out_of_turns figures) after e).never-out (leb-true _ _ t) figures refl)
      go false t = leb-false _ _ t
  answered (Err why) e = tt

-- an error that a search passes on by `?` says nothing of plans
pub refused-says : (given : Given) (turns : ℕ) (after : List ℕ) (answer : Result Searched Refusal) (why : Refusal) → IsErrAnd answer (λ given. given ≡ why) → AnswerSays given turns after answer
refused-says given turns after (Ok value) why h = absurd h
refused-says given turns after (Err given') why h = tt
