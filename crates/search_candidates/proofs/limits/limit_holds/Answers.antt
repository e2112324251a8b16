-- Another kind, the tried slot, another slot.
use mathlib.Core.Path.{sym, ◌∙◌}
use Rattle.search_candidates.proofs.CaseLaws.{none_of, limit-none, limit_tried, limit-elsewhere}
use Rattle.search_candidates.proofs.limits.limit_holds.Goals as goal

pub returns-then-kind_of-ne-SLOT_HAS_LIMITED_SIZE : goal.returns-then-kind_of-ne-SLOT_HAS_LIMITED_SIZE
returns-then-kind_of-ne-SLOT_HAS_LIMITED_SIZE c =
    sym (limit-none _ _ _ (none_of c.kind_of.ensures c.if-kind_of-ne-SLOT_HAS_LIMITED_SIZE.true))

pub returns-then-place-slot : goal.returns-then-place-slot
returns-then-place-slot c =
    c.holds_with_one_more.ensures ∙ rw (c.extra_of.ensures, c.load-count.ensures, c.right_of.ensures, c.left_of-slot.ensures) (sym (limit_tried _ _ _ (sym c.kind_of.ensures ∙ c.if-kind_of-ne-SLOT_HAS_LIMITED_SIZE.false) (c.if-place-slot.true ∙ c.left_of-slot.ensures)))

pub returns : goal.returns
returns c =
    c.op_holds.ensures ∙ rw (c.extra_of-2.ensures, c.load-count.ensures, c.right_of-2.ensures, c.left_of-slot.ensures) (sym (limit-elsewhere _ _ _ (sym c.kind_of.ensures ∙ c.if-kind_of-ne-SLOT_HAS_LIMITED_SIZE.false) λ e. c.if-place-slot.false (e ∙ sym c.left_of-slot.ensures)))
