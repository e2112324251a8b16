use mathlib.Core.Path.{sym, ◌∙◌}
use native.Mathlib.Omega.{arith}
use Rattle.plan_check.proofs.PlanLaws.{omission_is}
use Rattle.plan_check.proofs.SumLaws.{adding_start, adding_skip, adding_put, adding_refused, adding_done, room}
use Rattle.plan_check.proofs.feasible.add_up.Goals as goal

pub loop-choice-init : goal.loop-choice-init
loop-choice-init c =
    adding_start _ _ _ _ _ _ _ _ c.requires.cleared.0 c.requires.cleared.1 c.requires.cleared.2

pub returns-then-not-omission_allowed : goal.returns-then-not-omission_allowed
returns-then-not-omission_allowed c =
    adding_refused _ _ _ _ _ _ _ _ _ c.loop-choice.invariant c.loop-choice-test.true (omega (arith, c.from-slot.ensures, c.if-day-slot.true)) (sym c.omission_allowed.ensures ∙ c.if-not-omission_allowed.true)

pub loop-choice-preserved-then-day-slot : goal.loop-choice-preserved-then-day-slot
loop-choice-preserved-then-day-slot c =
    let t = sym c.omission_allowed.ensures ∙ c.if-not-omission_allowed.false in
    adding_skip _ _ _ _ _ _ _ _ _ c.loop-choice.invariant c.loop-choice-test.true (omega (arith, c.from-slot.ensures, c.if-day-slot.true)) t (omission_is _ _ t)

pub add_at-requires : goal.add_at-requires
add_at-requires c =
    (omega (arith, c.if-day-slot.false, c.requires.shapes.few-slots), room _ _ _ _ _ _ c.loop-choice.invariant.min-sums (λ k. omega (arith, c.type_inv.mins k)) (omega (arith, c.requires.shapes.few-choices, c.loop-choice-test.true)) (omega (arith, c.from.ensures, c.type_inv.mins c.loop-choice.choice)))

pub add_at-requires-in-loop-choice : goal.add_at-requires-in-loop-choice
add_at-requires-in-loop-choice c =
    (omega (arith, c.if-day-slot.false, c.requires.shapes.few-slots), room _ _ _ _ _ _ c.loop-choice.invariant.max-sums (λ k. omega (arith, c.type_inv.maxs k)) (omega (arith, c.requires.shapes.few-choices, c.loop-choice-test.true)) (omega (arith, c.from-in-loop-choice.ensures, c.type_inv.maxs c.loop-choice.choice)))

pub add_at-requires-in-loop-choice-2 : goal.add_at-requires-in-loop-choice-2
add_at-requires-in-loop-choice-2 c =
    (omega (arith, c.if-day-slot.false, c.requires.shapes.few-slots), room _ _ _ _ _ _ c.loop-choice.invariant.counted (λ k. omega arith) (omega (arith, c.requires.shapes.few-choices, c.loop-choice-test.true)) (omega arith))

pub loop-choice-preserved : goal.loop-choice-preserved
loop-choice-preserved c =
    adding_put _ _ _ _ _ _ _ _ _ c.loop-choice.invariant c.loop-choice-test.true _ _ _ _ _ _ c.from-slot.ensures c.if-day-slot.false c.requires.shapes.few-slots c.from.ensures c.from-in-loop-choice.ensures c.add_at.ensures c.add_at-in-loop-choice.ensures c.add_at-in-loop-choice-2.ensures

pub returns : goal.returns
returns c =
    adding_done _ _ _ _ _ _ _ _ _ c.loop-choice.invariant c.loop-choice-test.false
