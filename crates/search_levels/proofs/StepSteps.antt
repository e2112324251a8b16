-- What follows a pass, a law for each way that it ends.
use mathlib.Core.Path.{◌≡◌}
use mathlib.Core.Bool.{Bool, true, false, cond}
use Prim.Native.Nat.{ℕ, ◌-◌, ◌≤◌, ◌<◌, min}
use native.Mathlib.Omega.{arith}
use borrow.Author.Tests.{le-leb, lt-leb}
use Rattle.search_pass.specs.steps.Call.{passed_tells}
use Rattle.search_pass.specs.declared.pass.Passed.{Passed}
use Rattle.search_pass.specs.declared.pass.Passed.TheVariants as passed
use Rattle.search_meaning.specs.Calls.{figures}
use Rattle.search_meaning.specs.declared.answer.Searched.TheVariants as searched
use Rattle.search_meaning.specs.declared.answer.Figures.{Figures}
use Rattle.search_levels.specs.declared.step.Begun.{Begun}
use Rattle.search_levels.specs.declared.step.Step.TheVariants as step
use Rattle.search_levels.specs.steps.Step.{Follows, step_tells, after_found, after_without, after_wanting, step_of}

-- ---- the turns of a pass

-- below the last level the smaller of both numbers
pub turns-below : (last : Bool) (left budget : ℕ) {turns : ℕ} → last ≡ false → turns ≡ min left budget → turns ≡ cond last left (min left budget)
turns-below last left budget l t = rw l t

-- ---- what follows a pass, by how it ended

module _ (begun : Begun) where
  -- a plan is found: the call's answer, with the turns that were used
  pub answer-found : (spared : ℕ) {rest : ℕ} {told : Figures} → rest ≡ begun.left - (begun.turns - spared) → told ≡ figures (begun.total - rest) begun.passes begun.limit
      → step_tells (step.Answer (searched.Found told)) ≡ after_found begun spared
  answer-found spared r t = rw (t, r)

  -- 'after the last level the answer is none'
  pub answer-none : (spared draw : ℕ) {rest : ℕ} {told : Figures} → begun.last ≡ true → rest ≡ begun.left - (begun.turns - spared)
      → told ≡ figures (begun.total - rest) begun.passes begun.limit
      → step_tells (step.Answer (searched.None told)) ≡ after_without begun spared draw
  answer-none spared draw l r t = rw (l, t, r)

  -- 'A pass without a plan goes to the next level above'
  pub goes_up : (spared draw : ℕ) {rest : ℕ} → begun.last ≡ false → rest ≡ begun.left - (begun.turns - spared)
      → step_tells (step.On rest draw) ≡ after_without begun spared draw
  goes_up spared draw l r = rw (l, r)

  -- 'A call that needs a turn past the total budget answers out of turns, before looking at the pass budget.'
  pub answer-out : (draw : ℕ) {told : Figures} → begun.left ≤ begun.turns → told ≡ figures (begun.total - 0) begun.passes begun.limit
      → step_tells (step.Answer (searched.OutOfTurns told)) ≡ after_wanting begun draw
  answer-out draw h t =
      let all : begun.total - 0 ≡ begun.total = omega arith in
      rw (le-leb _ _ h, t, all)

  -- 'A pass below the last level also ends when it needs a turn past the pass budget.'
  pub goes_on-cut : (draw : ℕ) {rest : ℕ} → begun.turns < begun.left → rest ≡ begun.left - begun.turns
      → step_tells (step.On rest draw) ≡ after_wanting begun draw
  goes_on-cut draw h r = rw (lt-leb _ _ h, r)

-- ---- the three ways put together

module _ (begun : Begun) {ended : Passed} {follows : Follows} where
  -- the pass found a plan
  pub step-found : {spared draw : ℕ} → ended ≡ passed.Found spared draw → follows ≡ after_found begun spared
      → follows ≡ step_of begun (passed_tells ended)
  step-found k f = rw k f

  -- the pass ended without a plan
  pub step-without : {spared draw : ℕ} → ended ≡ passed.Without spared draw → follows ≡ after_without begun spared draw
      → follows ≡ step_of begun (passed_tells ended)
  step-without k f = rw k f

  -- the pass ended for want of a turn
  pub step-wanting : {draw : ℕ} → ended ≡ passed.Wanting draw → follows ≡ after_wanting begun draw
      → follows ≡ step_of begun (passed_tells ended)
  step-wanting k f = rw k f
