-- Out of order, settled, or free.
use mathlib.Core.Path.{sym, ◌∙◌}
use Rattle.list_rule_slots.proofs.SumLaws.{sums-not, sums-settled, sums-free}
use borrow.Author.Rules.{rules}
use Rattle.list_rule_slots.proofs.sums.sums_leave.Goals as goal

pub returns-then-not-ordered : goal.returns-then-not-ordered
returns-then-not-ordered c =
    sums-not _ _ _ _ _ _ _ c.requires.1 (c.if-not-ordered.true)

pub returns-then-is_settled : goal.returns-then-is_settled
returns-then-is_settled c =
    sums-settled _ _ _ _ _ _ _ c.requires.1 c.requires.0 (search rules) (c.if-not-ordered.false) (sym c.is_settled.ensures ∙ c.if-is_settled.true)

pub slots_leave-requires : goal.slots_leave-requires
slots_leave-requires c =
    let p = c.requires in
    (p.0, sym c.is_settled.ensures ∙ c.if-is_settled.false, sym p.1 ∙ c.if-not-ordered.false)

pub returns : goal.returns
returns c =
    sums-free _ _ _ _ _ _ _ c.requires.1 _ (c.if-not-ordered.false) c.slots_leave.ensures
