-- The kind is 11, or else whether it is 12.
use Rattle.reduce_added.proofs.Copying.{copied_11, copied-other}
use Rattle.reduce_added.proofs.copies.is_copied.Goals as goal

pub returns-then-kind-eq-CHOOSER_IS_IN_CHOICE : goal.returns-then-kind-eq-CHOOSER_IS_IN_CHOICE
returns-then-kind-eq-CHOOSER_IS_IN_CHOICE c = copied_11 _ c.if-kind-eq-CHOOSER_IS_IN_CHOICE.true

pub returns-else-kind-eq-CHOOSER_IS_IN_CHOICE : goal.returns-else-kind-eq-CHOOSER_IS_IN_CHOICE
returns-else-kind-eq-CHOOSER_IS_IN_CHOICE c = copied-other _ c.if-kind-eq-CHOOSER_IS_IN_CHOICE.false
