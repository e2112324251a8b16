-- Past the room the pool is cleared; else its rows are sorted and the rest is cleared.
use mathlib.Core.Path.{◌∙◌}
use Rattle.reduce.proofs.Calling.{too_many, all_reduced}
use Rattle.reduce.proofs.reduce_rows.Goals as goal

pub returns-then-too_many : goal.returns-then-too_many
returns-then-too_many c = too_many _ _ _ _ _ c.expand-total.ensures c.if-too_many.true (c.pool-1.given ∙ c.requires.pool-is) (c.fill.ensures.after (λ _ e. e))

pub returns : goal.returns
returns c = all_reduced _ _ _ _ _ c.expand-total.ensures c.if-too_many.false c.requires.pool-is _ _ _ _ c.sort_unique-count.ensures c.clashes-clash.ensures (c.pool-1.given ∙ c.requires.pool-is) (c.fill-2.ensures.after (λ _ e. e))
