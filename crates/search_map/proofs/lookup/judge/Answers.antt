-- Each return is one law: the tests before it hold, and its own does not.
use mathlib.Core.Path.{sym, ◌∙◌}
use Rattle.search_map.proofs.Looking.{range-fails, full-fails, whole-differs, map-fails, map-good}
use Rattle.search_map.proofs.lookup.judge.Goals as goal

pub returns-then-not-is_in_range : goal.returns-then-not-is_in_range
returns-then-not-is_in_range c =
    range-fails _ _ _ _ (sym c.is_in_range.ensures ∙ c.if-not-is_in_range.true)

pub returns-then-not-is_full : goal.returns-then-not-is_full
returns-then-not-is_full c =
    full-fails _ _ _ _ (sym c.is_in_range.ensures ∙ c.if-not-is_in_range.false) (sym c.is_full.ensures ∙ c.if-not-is_full.true)

pub returns-then-whole-counts : goal.returns-then-whole-counts
returns-then-whole-counts c =
    whole-differs _ _ _ _ (sym c.is_in_range.ensures ∙ c.if-not-is_in_range.false) (sym c.is_full.ensures ∙ c.if-not-is_full.false) c.if-whole-counts.true

pub returns-then-not-judge_map : goal.returns-then-not-judge_map
returns-then-not-judge_map c =
    map-fails _ _ _ _ (sym c.is_in_range.ensures ∙ c.if-not-is_in_range.false) (sym c.is_full.ensures ∙ c.if-not-is_full.false) c.if-whole-counts.false (sym c.judge_map.ensures ∙ c.if-not-judge_map.true)

pub returns : goal.returns
returns c =
    map-good _ _ _ _ (sym c.is_in_range.ensures ∙ c.if-not-is_in_range.false) (sym c.is_full.ensures ∙ c.if-not-is_full.false) c.if-whole-counts.false (sym c.judge_map.ensures ∙ c.if-not-judge_map.false)
