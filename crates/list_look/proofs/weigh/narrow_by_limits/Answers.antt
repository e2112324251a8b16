-- A slot's least count is one that it can't have, or what tables and then counts leave.
use Rattle.list_look.proofs.StepLaws.{limits-broken, limits-by}
use Rattle.list_look.proofs.weigh.narrow_by_limits.Goals as goal

pub returns-then-bounds : goal.returns-then-bounds
returns-then-bounds c =
    limits-broken _ _ _ _ _ _ _ c.bounds_of-bounds.ensures.broken_value c.if-bounds.true

pub returns : goal.returns
returns c =
    let b = c.bounds_of-bounds.ensures in
    limits-by _ _ _ _ _ _ _ b.broken_value c.if-bounds.false b.wants_value b.rooms_value c.narrow_by_tables.ensures c.narrow_by_counts.ensures
