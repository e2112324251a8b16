use mathlib.Core.Path.{refl, ◌∙◌}
use Rattle.base_lists.proofs.Stores.{each_start, each_part, each-end}
use Rattle.text_lines.specs.PlansLines.{place_text}
use Rattle.text_lines.proofs.PutLaws.{each_fits}
use Rattle.text_lines.proofs.plans_lines.put_places.Goals as goal

pub loop-place-init : goal.loop-place-init
loop-place-init c =
    let a = c.args in
    (c.requires, each_start place_text a.plan.now a.text.now.bytes.now a.text.now.next, refl)

pub put_place-requires : goal.put_place-requires
put_place-requires c =
    let a = c.args in
    let l = c.loop-place in
    each_fits place_text a.plan.now a.text.now.bytes.now a.text.now.next l.place-index 0 l.invariant.0 l.invariant.1 c.loop-place-test.true

pub loop-place-preserved : goal.loop-place-preserved
loop-place-preserved c =
    let a = c.args in
    let l = c.loop-place in
    (l.invariant.0, each_part place_text a.plan.now l.place-index 0 c.loop-place-test.true l.invariant.1 c.put_place.ensures.put, c.put_place.ensures.same ∙ l.invariant.2)

pub returns-clause-put : goal.returns-clause-put
returns-clause-put c =
    each-end place_text c.args.plan.now c.loop-place.place-index c.loop-place-test.false c.loop-place.invariant.1

pub returns-clause-same : goal.returns-clause-same
returns-clause-same c = c.loop-place.invariant.2
