-- The row's chooser is marked, or nothing is.
use Rattle.reduce_added.proofs.Pairing.{mark_kind, mark_past, mark_set}
use Rattle.reduce_added.proofs.pairs.mark_one.Goals as goal

pub returns-then-row-ne-CHOOSER_IS_IN_CHOICE : goal.returns-then-row-ne-CHOOSER_IS_IN_CHOICE
returns-then-row-ne-CHOOSER_IS_IN_CHOICE c =
    mark_kind _ c.from-row.ensures c.args.named.now c.if-row-ne-CHOOSER_IS_IN_CHOICE.true

pub returns-then-at-named : goal.returns-then-at-named
returns-then-at-named c =
    mark_past _ c.from-row.ensures c.args.named.now c.if-row-ne-CHOOSER_IS_IN_CHOICE.false (rw c.from-at.ensures at c.if-at-named.true)

pub returns : goal.returns
returns c =
    rw c.from-at.ensures (mark_set _ c.from-row.ensures c.args.named.now c.if-row-ne-CHOOSER_IS_IN_CHOICE.false (rw c.from-at.ensures at c.if-at-named.false))
