-- Each return is one law: the tests before it hold, and its own does not.
use mathlib.Core.Path.{sym, ◌∙◌}
use borrow.Author.Tests.{eq-eqb, ne_eqb}
use native.Mathlib.Omega.{arith}
use Rattle.search_meaning.proofs.JudgedLaws.{few-preferences, entries_differ, levels_differ, preferences_decide}
use Rattle.plan_check.proofs.CheckLaws.{mins_differ, maxs_differ, optional_differ, plan-decides}
use Rattle.search_meaning.proofs.judge.day_lengths.Goals as goal

pub returns-then-given-counts : goal.returns-then-given-counts
returns-then-given-counts c = entries_differ _ _ (sym (mins_differ _ _ _ _ _ c.if-given-counts.true))

pub returns-then-given-counts-2 : goal.returns-then-given-counts-2
returns-then-given-counts-2 c = entries_differ _ _ (sym (maxs_differ _ _ _ _ _ c.if-given-counts.false c.if-given-counts-2.true))

pub returns-then-given-counts-3 : goal.returns-then-given-counts-3
returns-then-given-counts-3 c = entries_differ _ _ (sym (optional_differ _ _ _ _ _ c.if-given-counts.false c.if-given-counts-2.false c.if-given-counts-3.true))

pub returns-then-plan-counts : goal.returns-then-plan-counts
returns-then-plan-counts c = entries_differ _ _ (sym (plan-decides _ _ _ _ _ c.if-given-counts.false c.if-given-counts-2.false c.if-given-counts-3.false) ∙ ne_eqb _ _ c.if-plan-counts.true)

pub returns-then-given-counts-4 : goal.returns-then-given-counts-4
returns-then-given-counts-4 c = levels_differ _ _ (sym (plan-decides _ _ _ _ _ c.if-given-counts.false c.if-given-counts-2.false c.if-given-counts-3.false) ∙ eq-eqb _ _ c.if-plan-counts.false) c.if-given-counts-4.true

pub overflow_mul-result : goal.overflow_mul-result
overflow_mul-result c = omega (arith, few-preferences c.args.given.now.counts c.requires)

pub returns : goal.returns
returns c = preferences_decide _ _ (sym (plan-decides _ _ _ _ _ c.if-given-counts.false c.if-given-counts-2.false c.if-given-counts-3.false) ∙ eq-eqb _ _ c.if-plan-counts.false) c.if-given-counts-4.false
