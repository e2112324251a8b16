use mathlib.Core.Path.{refl, sym, ◌∙◌, ap}
use native.Mathlib.Omega.{arith}
use Rattle.search_turn.specs.steps.Seen.{sight_tells}
use Rattle.search_pass.proofs.SightLaws.{plan-written}
use Rattle.search_pass.proofs.PlanLaws.{order-within, order-few, remains-all}
use Rattle.search_pass.proofs.TurnLaws.{at-start, at-goal, at-over, at_cut, at_closing, at_turn}
use Rattle.search_pass.proofs.pass.walk_pass.Goals as goal

pub all_max-requires : goal.all_max-requires
all_max-requires c =
    (order-within _ c.requires.fact, order-few _ c.requires.fact)

pub loop-left-init : goal.loop-left-init
loop-left-init c =
    (at-start _ _ _ _ _ _ _ _ c.requires.fact c.new-state.ensures.0 c.new-state.ensures.1 c.new-state.ensures.2 c.new-state.ensures.3 c.new-state.ensures.4 c.new-state.ensures.5 c.new-state.ensures.6 (remains-all _ _ c.all_max.ensures) refl refl refl, c.requires.fact)

pub enum_told-1 : goal.enum_told-1
enum_told-1 c =
    c.in-Goal.in-Goal-own.keys1

pub enum_told-in-Over : goal.enum_told-in-Over
enum_told-in-Over c =
    c.in-Over.in-Over-own.keys2

pub returns-in-Over : goal.returns-in-Over
returns-in-Over c =
    at-over _ _ _ _ _ _ _ _ _ _ _ c.loop-left.invariant.0 c.loop-left.invariant.1 _ (sym (ap sight_tells c.in-Over.is) ∙ c.sight_at.ensures)

pub enum_told-in-On : goal.enum_told-in-On
enum_told-in-On c =
    c.in-On.in-On-own.keys3

pub returns-then-left-eq0 : goal.returns-then-left-eq0
returns-then-left-eq0 c =
    at_cut _ _ _ _ _ _ _ _ _ _ _ c.loop-left.invariant.0 c.loop-left.invariant.1 _ (omega (arith, c.if-left-eq0.true)) (sym (ap sight_tells c.in-On.is) ∙ c.sight_at.ensures)

pub overflow_sub-left : goal.overflow_sub-left
overflow_sub-left c =
    omega (arith, c.if-left-eq0.false)

pub slice_bounds-open_if_new-end : goal.slice_bounds-open_if_new-end
slice_bounds-open_if_new-end c =
    sym c.loop-left.invariant.0.held.pool-length

pub slice_bounds-open_if_new-end-in-loop-left : goal.slice_bounds-open_if_new-end-in-loop-left
slice_bounds-open_if_new-end-in-loop-left c =
    sym c.loop-left.invariant.0.held.next-length

pub slice_bounds-open_if_new-end-in-loop-left-2 : goal.slice_bounds-open_if_new-end-in-loop-left-2
slice_bounds-open_if_new-end-in-loop-left-2 c =
    sym c.loop-left.invariant.0.held.end-length

pub returns-then-closes : goal.returns-then-closes
returns-then-closes c =
    at_closing _ _ _ _ _ _ _ _ c.loop-left.invariant.0 c.loop-left.invariant.1 _ _ _ _ c.open_if_new-draw.auto.candidates (rw c.loads.ensures at c.open_if_new-draw.ensures) _ _ (sym (ap sight_tells c.in-On.is) ∙ c.sight_at.ensures) (omega (arith, c.if-left-eq0.false)) c.closes.ensures c.if-closes.true

pub loop-left-smaller : goal.loop-left-smaller
loop-left-smaller c =
    omega (arith, c.if-left-eq0.false)

pub loop-left-preserved : goal.loop-left-preserved
loop-left-preserved c =
    (at_turn _ _ _ _ _ _ _ _ c.loop-left.invariant.0 c.loop-left.invariant.1 _ _ _ _ c.open_if_new-draw.auto.candidates (rw c.loads.ensures at c.open_if_new-draw.ensures) _ c.closes.ensures c.if-closes.false c.turned-state.ensures.words.0 c.turned-state.ensures.words.1 _ _ (sym (ap sight_tells c.in-On.is) ∙ c.sight_at.ensures) (omega (arith, c.if-left-eq0.false)) c.turned-state.ensures.after, c.loop-left.invariant.1)

pub shape_of-plan : goal.shape_of-plan
shape_of-plan c =
    c.write_plan.auto.plan

pub returns : goal.returns
returns c =
    at-goal _ _ _ _ _ _ _ _ _ _ _ c.loop-left.invariant.0 c.loop-left.invariant.1 _ _ (sym (ap sight_tells c.in-Goal.is) ∙ c.sight_at.ensures) (plan-written _ c.loop-left.invariant.1 _ _ _ c.loop-left.invariant.0.counted.entries c.requires.plan_len c.write_plan.ensures)
