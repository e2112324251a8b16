-- A page of a day's plans as a call: what its answer and its buffer may be.
use Rattle.std.specs.Prelude.{◌≡◌, List, ℕ, length}
use Rattle.day_rows.specs.Told.{Told, done, refused}
use Rattle.plan_check.specs.Day.{Day}
use Rattle.list_nodes.specs.Judge.{judge_of}
use Rattle.list_nodes.specs.Page.{PageTold, Gives}

module _ (day : Day) (first room budget : ℕ) (buffer : List ℕ) where
  -- what list_page may answer, with the buffer after it; a refusal leaves the buffer untouched
  pub data Fits : Told PageTold → List ℕ → Type 0 where
    refuses : (number : ℕ) (carried : List ℕ) → judge_of day room (length buffer) ≡ refused number carried
        → Fits (refused number carried) buffer
    gives : judge_of day room (length buffer) ≡ done tt → (told : PageTold) (buffer' : List ℕ)
        → Gives day first room budget buffer told buffer' → Fits (done told) buffer'
