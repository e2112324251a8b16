-- The counts, one test after the other.
use mathlib.Core.Path.{sym, ◌∙◌, ap}
use Rattle.day_rows.specs.Check.{counts_in_range}
use Rattle.day_rows.specs.declared.check.Counts.{Counts}
use Rattle.day_rows.specs.declared.check.Takes.TheVariants.{Scheduling}
use Rattle.roster_check.proofs.JudgeLaws.{range-rows, range_no_level, range-levels, range-decides}
use Rattle.roster_check.proofs.roster_check.RosterCounts.in_range.Goals as goal

pub returns-then-not-counts_in_range : goal.returns-then-not-counts_in_range
returns-then-not-counts_in_range c =
    range-rows _ (sym (c.counts_in_range.ensures ∙ ap (λ (n : Counts). counts_in_range n Scheduling) c.of_rows.ensures) ∙ c.if-not-counts_in_range.true)

pub returns-then-self-lt1 : goal.returns-then-self-lt1
returns-then-self-lt1 c =
    range_no_level _ (sym (c.counts_in_range.ensures ∙ ap (λ (n : Counts). counts_in_range n Scheduling) c.of_rows.ensures) ∙ c.if-not-counts_in_range.false) c.if-self-lt1.true

pub returns-then-self-gt64 : goal.returns-then-self-gt64
returns-then-self-gt64 c =
    range-levels _ (sym (c.counts_in_range.ensures ∙ ap (λ (n : Counts). counts_in_range n Scheduling) c.of_rows.ensures) ∙ c.if-not-counts_in_range.false) c.if-self-lt1.false c.if-self-gt64.true

pub returns : goal.returns
returns c =
    range-decides _ (sym (c.counts_in_range.ensures ∙ ap (λ (n : Counts). counts_in_range n Scheduling) c.of_rows.ensures) ∙ c.if-not-counts_in_range.false) c.if-self-lt1.false c.if-self-gt64.false
