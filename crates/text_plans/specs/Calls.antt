-- The texts of `plans` as a call: its two refusals, its answer and its pool.
use Rattle.std.specs.Prelude.{◌≡◌, List, ℕ, eqb, leb, length}
use Rattle.base_lists.specs.Pool.{pad}
use Rattle.day_rows.specs.Told.{Told, done, refused, Verdict, good, unless}
use Rattle.text_lines.specs.Put.{pool, put_at}
use Rattle.text_lines.specs.PlansLines.{PlansAnswer, answer_text}
use Rattle.text_lines.specs.Pages.{longest}
use Rattle.text_plans.specs.PlansAnswer.{Answers}

-- the text of an answer that may be given is put from the pool's front on
pub record Puts (May : PlansAnswer → Type 0) (text text' : List ℕ) (size : ℕ) : Type 0 where
  pub answer : PlansAnswer
  pub may : May answer
  pub put : pool text' size ≡ put_at text 0 (answer_text answer)

-- a whole text that `plans` may print for a file
pub record Prints (file : List ℕ) (first room budget : ℕ) (text : List ℕ) : Type 0 where
  pub answer : PlansAnswer
  pub may : Answers file first room budget answer
  pub says : text ≡ answer_text answer

-- 1 for a room over 1,024, 2 for a pool that isn't lent at its full limit
unfoldable pub text_judged : ℕ → ℕ → Verdict
text_judged room size = unless (leb room 1024) 1 (unless (eqb size longest) 2 good)

module _ (file : List ℕ) (first room budget : ℕ) (pool' : List ℕ) where
  -- what the call may tell and leave: the text, and zeros after it; a refusal leaves the pool untouched
  pub data TextFits : Told ℕ → List ℕ → Type 0 where
    refuses : (number : ℕ) (carried : List ℕ) → text_judged room (length pool') ≡ refused number carried
        → TextFits (refused number carried) pool'
    prints : text_judged room (length pool') ≡ good → (text : List ℕ) → Prints file first room budget text
        → TextFits (done (length text)) (pad longest text)
