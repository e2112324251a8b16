-- Each return is one law: the tests before it hold, and its own does not.
use mathlib.Core.Path.{sym, ◌∙◌, ap}
use Rattle.search_meaning.proofs.JudgedLaws.{range-day, range-levels, range-numbers}
use Rattle.day_rows.specs.Check.{counts_in_range}
use Rattle.day_rows.specs.declared.check.Takes.TheVariants.{Scheduling}
use Rattle.search_meaning.proofs.judge.in_range.Goals as goal

pub returns-then-not-counts_in_range : goal.returns-then-not-counts_in_range
returns-then-not-counts_in_range c = range-day _ (ap (λ k. counts_in_range k Scheduling) (sym c.row_counts.ensures) ∙ sym c.counts_in_range.ensures ∙ c.if-not-counts_in_range.true)

pub returns-then-not-levels_in_range : goal.returns-then-not-levels_in_range
returns-then-not-levels_in_range c = range-levels _ (ap (λ k. counts_in_range k Scheduling) (sym c.row_counts.ensures) ∙ sym c.counts_in_range.ensures ∙ c.if-not-counts_in_range.false) (sym c.levels_in_range.ensures ∙ c.if-not-levels_in_range.true)

pub returns : goal.returns
returns c = range-numbers _ (ap (λ k. counts_in_range k Scheduling) (sym c.row_counts.ensures) ∙ sym c.counts_in_range.ensures ∙ c.if-not-counts_in_range.false) (sym c.levels_in_range.ensures ∙ c.if-not-levels_in_range.false)
