-- The row's choice, if it is of kind 11 and the chooser's, or nothing.
use mathlib.Core.Path.{refl, sym, ap, ◌∙◌}
use native.Mathlib.Omega.{arith}
use Rattle.base_lists.proofs.Stores.{stored-none, stored_one}
use lib.ListN.{length}
use Rattle.reduce_added.proofs.Pairing.{listed-kind, listed-chooser, listed}
use Rattle.reduce_added.proofs.pairs.list_one.Goals as goal

pub returns-then-row-ne-CHOOSER_IS_IN_CHOICE : goal.returns-then-row-ne-CHOOSER_IS_IN_CHOICE
returns-then-row-ne-CHOOSER_IS_IN_CHOICE c = stored-none _ _ (listed-kind _ _ c.from-row.ensures c.if-row-ne-CHOOSER_IS_IN_CHOICE.true)

pub returns-then-from-chooser : goal.returns-then-from-chooser
returns-then-from-chooser c = stored-none _ _ (listed-chooser _ _ c.from-row.ensures c.if-row-ne-CHOOSER_IS_IN_CHOICE.false (λ z. c.if-from-chooser.true (c.from.ensures ∙ z)))

pub bounds-list-at : goal.bounds-list-at
bounds-list-at c = omega (arith, c.requires, ap length (listed _ _ c.from-row.ensures c.if-row-ne-CHOOSER_IS_IN_CHOICE.false (sym c.from.ensures ∙ c.if-from-chooser.false)))

pub returns : goal.returns
returns c = stored_one _ _ _ (listed _ _ c.from-row.ensures c.if-row-ne-CHOOSER_IS_IN_CHOICE.false (sym c.from.ensures ∙ c.if-from-chooser.false)) refl
