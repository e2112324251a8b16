-- A stuck set is met, or none is.
use mathlib.Core.Path.{sym, ◌∙◌}
use mathlib.Core.Bool.{true, false, false≢true}
use native.Mathlib.Omega.{arith}
use Rattle.base_choice_sets.proofs.ReachLaws.{some-of}
use Rattle.base_choice_sets.proofs.reach.some_stuck.Goals as goal

pub returns-then-is_stuck : goal.returns-then-is_stuck
returns-then-is_stuck c =
    some-of _ _ _ true (λ _. (c.loop-set.set-index, c.loop-set-test.true, sym c.is_stuck.ensures ∙ c.if-is_stuck.true)) (λ e. absurd (false≢true (sym e)))

pub returns : goal.returns
returns c =
    some-of _ _ _ false (λ e. absurd (false≢true e)) (λ _ i h. c.loop-set.invariant i (omega (arith, h, c.loop-set-test.false)))
