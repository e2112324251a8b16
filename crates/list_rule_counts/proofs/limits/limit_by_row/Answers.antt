-- Another kind and a slot past the last change nothing.
use Rattle.list_rule_counts.proofs.LimitLaws.{row_other, row-past, row_changes}
use Rattle.list_rule_counts.proofs.limits.limit_by_row.Goals as goal

pub returns-then-kind_of-ne-SLOT_HAS_LIMITED_SIZE : goal.returns-then-kind_of-ne-SLOT_HAS_LIMITED_SIZE
returns-then-kind_of-ne-SLOT_HAS_LIMITED_SIZE c =
    record { least_after = row_other _ _ _ _ c.kind_of.ensures c.if-kind_of-ne-SLOT_HAS_LIMITED_SIZE.true; under_after = row_other _ _ _ _ c.kind_of.ensures c.if-kind_of-ne-SLOT_HAS_LIMITED_SIZE.true }

pub returns-then-slot-ge24 : goal.returns-then-slot-ge24
returns-then-slot-ge24 c =
    let p = c.kind_of.ensures in let q = c.if-kind_of-ne-SLOT_HAS_LIMITED_SIZE.false in let s = c.left_of-slot.ensures in
    record { least_after = row-past _ _ _ _ _ p q s c.if-slot-ge24.true; under_after = row-past _ _ _ _ _ p q s c.if-slot-ge24.true }

pub returns : goal.returns
returns c =
    let p = c.kind_of.ensures in let q = c.if-kind_of-ne-SLOT_HAS_LIMITED_SIZE.false in let s = c.left_of-slot.ensures in let h = c.if-slot-ge24.false in
    let w = c.right_of.ensures in let l = c.from-limit.ensures in let o = c.extra_of-op.ensures in
    record { least_after = row_changes _ _ _ _ _ _ _ _ _ p q s h w l o c.raised.ensures; under_after = row_changes _ _ _ _ _ _ _ _ _ p q s h w l o c.lowered.ensures }
