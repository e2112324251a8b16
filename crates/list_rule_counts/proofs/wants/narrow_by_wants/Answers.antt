-- Too few are wanted, too many, or all.
use Rattle.list_rule_counts.proofs.WantLaws.{wants-few, wants-many, wants-all}
use Rattle.list_rule_counts.proofs.wants.narrow_by_wants.Goals as goal

pub returns-then-need-spare : goal.returns-then-need-spare
returns-then-need-spare c =
    wants-few _ _ _ _ _ _ _ c.need_of-need.ensures c.size-spare.ensures c.if-need-spare.true

pub returns-then-spare-need : goal.returns-then-spare-need
returns-then-spare-need c =
    wants-many _ _ _ _ _ _ _ c.need_of-need.ensures c.size-spare.ensures _ c.if-spare-need.true c.narrow_free.ensures

pub returns : goal.returns
returns c =
    wants-all _ _ _ _ _ _ _ c.need_of-need.ensures c.size-spare.ensures _ _ c.if-need-spare.false c.if-spare-need.false c.needy_slots.ensures c.narrow_free-2.ensures
