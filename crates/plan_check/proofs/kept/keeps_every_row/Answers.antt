-- The three ways out: too long, a cell that fits nothing, and what the rows decide.
use mathlib.Core.Path.{sym, ◌∙◌}
use Rattle.plan_check.proofs.KeptLaws.{every-long, every_bad, every-rows}
use Rattle.plan_check.proofs.kept.keeps_every_row.Goals as goal

pub returns-then-plan-gt64 : goal.returns-then-plan-gt64
returns-then-plan-gt64 c = every-long _ _ c.if-plan-gt64.true

pub returns-then-not-count_sizes : goal.returns-then-not-count_sizes
returns-then-not-count_sizes c =
    every_bad _ _ c.if-plan-gt64.false (sym c.count_sizes.ensures.answer ∙ c.if-not-count_sizes.true)

pub keeps_rows-requires : goal.keeps_rows-requires
keeps_rows-requires c =
    c.count_sizes.ensures.counted (c.if-not-count_sizes.false)

pub returns : goal.returns
returns c =
    c.keeps_rows.ensures ∙ every-rows _ _ c.if-plan-gt64.false (sym c.count_sizes.ensures.answer ∙ c.if-not-count_sizes.false)
