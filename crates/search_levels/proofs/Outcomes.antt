-- No two outcomes fit what this crate's functions promise.
use mathlib.Core.Path.{◌≡◌, refl, sym, ap, ◌∙◌}
use mathlib.Core.Bool.{Bool, cond}
use mathlib.Core.List.{List}
use Prim.Native.Nat.{ℕ, min}
use lib.Dec.{leb}
use lib.ListN.{get_or}
use Rattle.base_lists.specs.First.{first_failing}
use Rattle.base_lists.proofs.Outcome.{no_two}
use Rattle.search_pass.specs.steps.Call.{Ended}
use Rattle.search_meaning.proofs.AnswerBack.{settled_of, settled-back}
use Rattle.search_levels.specs.steps.Step.{Follows, answers, goes_on, step_tells, step_of}
use Rattle.search_levels.specs.declared.step.Begun.{Begun}
use Rattle.search_levels.specs.declared.step.Step.{Step}
use Rattle.search_levels.specs.declared.step.Step.TheVariants as step

-- what follows, read back from what it tells
abbrev step_back : Follows → Step
step_back (answers told) = step.Answer (settled_of told)
step_back (goes_on left draw) = step.On left draw

step_back_lem : (follows : Step) → step_back (step_tells follows) ≡ follows
step_back_lem (step.Answer answer) = ap step.Answer (settled-back answer)
step_back_lem (step.On left draw) = refl

pub one-step : (begun : Begun) (ended : Ended) {a b : Step} → step_tells a ≡ step_of begun ended → step_tells b ≡ step_of begun ended → a ≡ b
one-step begun ended {a} {b} p q = sym (step_back_lem a) ∙ ap step_back (no_two p q) ∙ step_back_lem b

pub one-turns : (last : Bool) (left budget : ℕ) {a b : ℕ} → a ≡ cond last left (min left budget) → b ≡ cond last left (min left budget) → a ≡ b
one-turns last left budget = no_two

pub one-count : (levels : List ℕ) (limit : ℕ) {a b : ℕ} → a ≡ first_failing (λ level. leb level limit) levels → b ≡ first_failing (λ level. leb level limit) levels → a ≡ b
one-count levels limit = no_two

pub one-level : (levels : List ℕ) (above : ℕ) {a b : ℕ} → a ≡ get_or levels above 0 → b ≡ get_or levels above 0 → a ≡ b
one-level levels above = no_two
