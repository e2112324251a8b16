-- Kind 6, then left, then right.
use Rattle.search_map.proofs.Entries.{of_kind_6, of_left, of_right}
use Rattle.search_map.proofs.entry.is_concerned.Goals as goal

pub returns-then-kind_of-eq-SLOT_HAS_LIMITED_SIZE : goal.returns-then-kind_of-eq-SLOT_HAS_LIMITED_SIZE
returns-then-kind_of-eq-SLOT_HAS_LIMITED_SIZE c =
    of_kind_6 _ _ c.kind_of.ensures c.if-kind_of-eq-SLOT_HAS_LIMITED_SIZE.true

pub returns-then-has_left : goal.returns-then-has_left
returns-then-has_left c =
    of_left _ _ c.kind_of.ensures c.if-kind_of-eq-SLOT_HAS_LIMITED_SIZE.false c.has_left.ensures c.if-has_left.true

pub returns : goal.returns
returns c =
    of_right _ _ c.kind_of.ensures c.if-kind_of-eq-SLOT_HAS_LIMITED_SIZE.false c.has_left.ensures c.if-has_left.false c.has_right.ensures
