-- Each return is one law: the tests before it hold, and its own does not.
use mathlib.Core.Path.{sym, ◌∙◌}
use Rattle.search_meaning.proofs.JudgedLaws.{rows_differ, map-short, whole-decides}
use Rattle.search_meaning.proofs.judge.row_lengths.Goals as goal

pub returns-then-given : goal.returns-then-given
returns-then-given c = rows_differ _ c.if-given.true

pub returns-then-not-is_full : goal.returns-then-not-is_full
returns-then-not-is_full c = map-short _ c.if-given.false (sym c.is_full.ensures ∙ c.if-not-is_full.true)

pub returns : goal.returns
returns c = whole-decides _ c.if-given.false (sym c.is_full.ensures ∙ c.if-not-is_full.false)
