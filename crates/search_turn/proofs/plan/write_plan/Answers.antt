use mathlib.Core.Path.{◌≡◌, sym, ◌∙◌, ap}
use Prim.Native.Nat.{ℕ}
use native.Mathlib.Omega.{arith}
use lib.ListN.{length, take}
use lib.Seq.{take_all}
use Rattle.search_turn.proofs.PlanLaws.{left_alone, plan_written}
use Rattle.search_turn.proofs.plan.write_plan.Goals as goal

pub returns-then-decisions-plan : goal.returns-then-decisions-plan
returns-then-decisions-plan c =
    left_alone _ _ c.if-decisions-plan.true

pub returns : goal.returns
returns c =
    let l = c.loop-choice in
    let all : l.choice ≡ length c.args.plan.now = omega (arith, c.loop-choice-test.false, l.invariant.0) in
    plan_written _ _ c.if-decisions-plan.false _
    (sym (take_all l.choice l.plan (omega (arith, all, l.invariant.0))) ∙ l.invariant.1 ∙ ap (λ (n : ℕ). take n c.args.decisions.now) all)
