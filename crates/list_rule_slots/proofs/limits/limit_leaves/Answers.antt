-- The calls' promises joined by one law.
use mathlib.Core.Path.{◌∙◌, ap}
use Prim.Native.Nat.{ℕ, ◌+◌, ◌-◌}
use Rattle.list_rule_slots.proofs.StepLaws.{one_from, limit-leaves}
use Rattle.list_rule_slots.proofs.limits.limit_leaves.Goals as goal

pub returns : goal.returns
returns c =
    let must = c.args.counts.must in
    let may = c.args.counts.may in
    limit-leaves _ _ _ _ _ _ _ _ _ _ _ _ _ c.is_only-only.ensures c.member-has.ensures
    (ap (λ (x : ℕ). must + x) (c.from.ensures ∙ one_from _)) (ap (λ (x : ℕ). may + x) (c.from-2.ensures ∙ one_from _)) c.op_can-stands.ensures
    (c.saturating_sub.ensures ∙ ap (λ (x : ℕ). must - x) (c.from-3.ensures ∙ one_from _)) (c.saturating_sub-2.ensures ∙ ap (λ (x : ℕ). may - x) (c.from-4.ensures ∙ one_from _))
    c.op_can-leaves.ensures c.kept.ensures
