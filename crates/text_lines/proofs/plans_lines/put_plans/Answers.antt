use mathlib.Core.Path.{refl, ◌∙◌}
use Prim.Native.Nat.{◌+◌, ◌*◌, ◌≤◌}
use native.Mathlib.Omega.{arith}
use borrow.Author.Rules.{rules}
use lib.ListN.{length}
use Rattle.text_lines.proofs.PlanLaws.{plan-within, lines_start, lines_fits, lines_part, lines_end}
use Rattle.text_lines.proofs.plans_lines.put_plans.Goals as goal

pub loop-i-init : goal.loop-i-init
loop-i-init c =
    let a = c.args in
    let p = c.requires in
    (p.held, p.numbered, lines_start a.page.now.first a.page.now.count a.page.now.choices a.page.now.plans.now a.text.now.bytes.now a.text.now.next p.room, refl)

pub overflow_mul-from : goal.overflow_mul-from
overflow_mul-from c =
    let a = c.args in
    let l = c.loop-i in
    let w : l.i * a.page.now.choices + a.page.now.choices ≤ length a.page.now.plans.now = plan-within a.page.now.count a.page.now.choices _ l.i c.loop-i-test.true l.invariant.0 in
    search rules

pub overflow_add-page : goal.overflow_add-page
overflow_add-page c =
    omega (arith, c.loop-i.invariant.1)

pub overflow_add-plan : goal.overflow_add-plan
overflow_add-plan c =
    let a = c.args in
    let l = c.loop-i in
    let w : l.i * a.page.now.choices + a.page.now.choices ≤ length a.page.now.plans.now = plan-within a.page.now.count a.page.now.choices _ l.i c.loop-i-test.true l.invariant.0 in
    search rules

pub put_plan-requires : goal.put_plan-requires
put_plan-requires c =
    lines_fits _ _ _ _ c.loop-i.invariant.2 c.loop-i-test.true

pub loop-i-preserved : goal.loop-i-preserved
loop-i-preserved c =
    let l = c.loop-i in
    (l.invariant.0, l.invariant.1, lines_part _ _ _ _ l.invariant.2 c.loop-i-test.true c.put_plan.ensures.put, c.put_plan.ensures.same ∙ l.invariant.3)

pub returns-clause-put : goal.returns-clause-put
returns-clause-put c =
    lines_end _ _ _ _ c.loop-i.invariant.2 c.loop-i-test.false

pub returns-clause-same : goal.returns-clause-same
returns-clause-same c = c.loop-i.invariant.3
