-- The walk from the empty start; the plan is the first C of 64 places.
use Rattle.std.proofs.Common.{◌≤◌, length, take, replicate, refl, ◌∙◌, arith, rules}
use Rattle.list_walk.proofs.CallLaws.{plan-length, all_requires, all-answers}
use Rattle.list_walk.proofs.all.walk_ready.Goals as goal

pub slice_bounds-plan-end : goal.slice_bounds-plan-end
slice_bounds-plan-end c =
    let j = c.requires.0 in
    let h : length c.args.day.now.mins.now ≤ 64 = omega (arith, j.few-choices, j.mins-fit) in
    search (rules, h)

pub walk_choice-requires : goal.walk_choice-requires
walk_choice-requires c =
    let j = c.requires.0 in
    let p = plan-length (length c.args.day.now.mins.now) 64 (omega (arith, j.few-choices, j.mins-fit)) in
    all_requires _ _ _ _ j (take (length c.args.day.now.mins.now) (replicate 64 0)) _ _ (p ∙ j.mins-fit) refl refl c.requires.1 c.requires.2

pub returns : goal.returns
returns c =
    let j = c.requires.0 in
    let p = plan-length (length c.args.day.now.mins.now) 64 (omega (arith, j.few-choices, j.mins-fit)) in
    all-answers _ _ _ _ j (take (length c.args.day.now.mins.now) (replicate 64 0)) _ _ (p ∙ j.mins-fit) refl refl _ _ c.walk_choice.ensures
