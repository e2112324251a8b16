use mathlib.Core.Path.{◌≡◌}
use native.Mathlib.Omega.{arith}
use Rattle.base_choice_sets.proofs.SetLaws.{set-start, set-step}
use Rattle.list_twins.proofs.twins.alike_slots.Goals as goal

pub loop-other-init : goal.loop-other-init
loop-other-init c =
    set-start _

pub loop-other-preserved : goal.loop-other-preserved
loop-other-preserved c =
    set-step _ _ _ _ _ (omega (arith, c.loop-other-test.true, c.requires)) c.loop-other.invariant c.is_alike-inside.ensures c.with_if-set.ensures

pub returns : goal.returns
returns c =
    let e : c.loop-other.other ≡ c.args.counts.slots = omega (arith, c.loop-other-test.false) in rw e at c.loop-other.invariant
