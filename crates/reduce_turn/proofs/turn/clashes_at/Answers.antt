-- A row of another kind doesn't clash; one of kind 9 does where its slots differ.
use Rattle.reduce_turn.proofs.Turning.{clash-not, clash-slots}
use Rattle.reduce_turn.proofs.turn.clashes_at.Goals as goal

pub returns-then-row-ne-SLOTS_HAVE_SAME_CHOICES : goal.returns-then-row-ne-SLOTS_HAVE_SAME_CHOICES
returns-then-row-ne-SLOTS_HAVE_SAME_CHOICES c = clash-not _ c.from-row.ensures c.if-row-ne-SLOTS_HAVE_SAME_CHOICES.true

pub returns : goal.returns
returns c = clash-slots _ c.from-row.ensures c.if-row-ne-SLOTS_HAVE_SAME_CHOICES.false
