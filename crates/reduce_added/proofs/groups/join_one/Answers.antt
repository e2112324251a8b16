-- A row of kind 10 is joined, every other leaves the record.
use Rattle.reduce_added.proofs.Joining.{unjoined, joined-row}
use Rattle.reduce_added.proofs.groups.join_one.Goals as goal

pub returns-then-row-ne-CHOICES_HAVE_SAME_CHOOSERS : goal.returns-then-row-ne-CHOICES_HAVE_SAME_CHOOSERS
returns-then-row-ne-CHOICES_HAVE_SAME_CHOOSERS c = unjoined _ _ _ c.from-row.ensures c.if-row-ne-CHOICES_HAVE_SAME_CHOOSERS.true

pub returns : goal.returns
returns c = joined-row _ _ _ c.from-row.ensures c.if-row-ne-CHOICES_HAVE_SAME_CHOOSERS.false (rw (c.from-left.ensures, c.from-right.ensures) at c.join-joined.ensures)
