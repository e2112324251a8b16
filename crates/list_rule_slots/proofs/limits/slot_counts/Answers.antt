use mathlib.Core.Path.{◌∙◌, ap}
use Prim.Native.Nat.{ℕ, ◌≤◌, ◌<◌}
use native.Mathlib.Omega.{arith}
use lib.Dec.{eqb}
use Rattle.std.proofs.lemmas.List.{get_or-take, length-take-le}
use Rattle.base_choice_sets.specs.Sets.{has}
use Rattle.list_domains.specs.steps.Domains.{only_place}
use Rattle.list_rule_slots.proofs.StepLaws.{one_from, from_le, must-more, may_more, must-none, may_none, must_le, may_le}
use Rattle.list_rule_slots.proofs.limits.slot_counts.Goals as goal

pub loop-domain-init : goal.loop-domain-init
loop-domain-init c =
    (must-none _ _, may_none _ _)

pub overflow_add-must : goal.overflow_add-must
overflow_add-must c =
    let n = length-take-le c.args.choices c.args.domains.now (omega (arith, c.requires, c.told-domains)) in
    omega (arith, n, c.loop-domain-test.true, c.requires, must_le c.loop-domain.domain-index c.args.domains.now c.args.slot, c.loop-domain.invariant.0, c.from-must.ensures, from_le c.is_only.result)

pub overflow_add-may : goal.overflow_add-may
overflow_add-may c =
    let n = length-take-le c.args.choices c.args.domains.now (omega (arith, c.requires, c.told-domains)) in
    omega (arith, n, c.loop-domain-test.true, c.requires, may_le c.loop-domain.domain-index c.args.domains.now c.args.slot, c.loop-domain.invariant.1, c.from-may.ensures, from_le c.member.result)

pub loop-domain-preserved : goal.loop-domain-preserved
loop-domain-preserved c =
    let n = length-take-le c.args.choices c.args.domains.now (omega (arith, c.requires, c.told-domains)) in
    let h : c.loop-domain.domain-index < c.args.choices = omega (arith, n, c.loop-domain-test.true) in
    let e = get_or-take c.args.choices c.args.domains.now c.loop-domain.domain-index 0 h in
    let i = c.loop-domain.invariant in
    (must-more _ _ _ _ _ _ i.0 (c.from-must.ensures ∙ one_from _) (c.is_only.ensures ∙ ap (λ (x : ℕ). eqb x (only_place c.args.slot)) e), may_more _ _ _ _ _ _ i.1 (c.from-may.ensures ∙ one_from _) (c.member.ensures ∙ ap (λ (x : ℕ). has x c.args.slot) e))

pub invariant_of-result : goal.invariant_of-result
invariant_of-result c =
    let n = length-take-le c.args.choices c.args.domains.now (omega (arith, c.requires, c.told-domains)) in
    let e : c.loop-domain.domain-index ≤ 64 = omega (arith, n, c.loop-domain.auto.domain-index-end, c.requires) in
    let i = c.loop-domain.invariant in
    record { few = (omega (arith, e, i.0, must_le c.loop-domain.domain-index c.args.domains.now c.args.slot), omega (arith, e, i.1, may_le c.loop-domain.domain-index c.args.domains.now c.args.slot)) }
