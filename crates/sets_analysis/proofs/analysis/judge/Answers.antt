-- Each refusal where the tests before it hold and its own does not.
use mathlib.Core.Path.{sym, ◌∙◌}
use Rattle.sets_analysis.proofs.CallSteps.{judged-count, judged-lengths, judged-masks, judged-levels, judged-rise, judged_preference, judged-good}
use Rattle.sets_analysis.proofs.analysis.judge.Goals as goal

pub returns-then-not-counts_keep : goal.returns-then-not-counts_keep
returns-then-not-counts_keep c = judged-count _ _ _ (sym c.counts_keep.ensures ∙ c.if-not-counts_keep.true)

pub lengths_keep-requires : goal.lengths_keep-requires
lengths_keep-requires c = sym c.counts_keep.ensures ∙ c.if-not-counts_keep.false

pub returns-then-not-lengths_keep : goal.returns-then-not-lengths_keep
returns-then-not-lengths_keep c =
    judged-lengths _ _ _ (sym c.counts_keep.ensures ∙ c.if-not-counts_keep.false) (sym c.lengths_keep.ensures ∙ c.if-not-lengths_keep.true)

pub returns-then-masks-ne-MOST_SETS : goal.returns-then-masks-ne-MOST_SETS
returns-then-masks-ne-MOST_SETS c =
    judged-masks _ _ _ (sym c.counts_keep.ensures ∙ c.if-not-counts_keep.false) (sym c.lengths_keep.ensures ∙ c.if-not-lengths_keep.false) c.if-masks-ne-MOST_SETS.true

pub returns-then-set_levels-ne-MOST_SETS : goal.returns-then-set_levels-ne-MOST_SETS
returns-then-set_levels-ne-MOST_SETS c =
    judged-levels _ _ _ (sym c.counts_keep.ensures ∙ c.if-not-counts_keep.false) (sym c.lengths_keep.ensures ∙ c.if-not-lengths_keep.false) c.if-masks-ne-MOST_SETS.false c.if-set_levels-ne-MOST_SETS.true

pub returns-then-not-levels_rise : goal.returns-then-not-levels_rise
returns-then-not-levels_rise c =
    judged-rise _ _ _ (sym c.counts_keep.ensures ∙ c.if-not-counts_keep.false) (sym c.lengths_keep.ensures ∙ c.if-not-lengths_keep.false) c.if-masks-ne-MOST_SETS.false c.if-set_levels-ne-MOST_SETS.false (sym c.levels_rise.ensures ∙ c.if-not-levels_rise.true)

pub returns-then-not-preferences_keep : goal.returns-then-not-preferences_keep
returns-then-not-preferences_keep c =
    judged_preference _ _ _ (sym c.counts_keep.ensures ∙ c.if-not-counts_keep.false) (sym c.lengths_keep.ensures ∙ c.if-not-lengths_keep.false) c.if-masks-ne-MOST_SETS.false c.if-set_levels-ne-MOST_SETS.false (sym c.levels_rise.ensures ∙ c.if-not-levels_rise.false) _ c.last_level.ensures (sym c.preferences_keep.ensures ∙ c.if-not-preferences_keep.true)

pub returns : goal.returns
returns c =
    judged-good _ _ _ (sym c.counts_keep.ensures ∙ c.if-not-counts_keep.false) (sym c.lengths_keep.ensures ∙ c.if-not-lengths_keep.false) c.if-masks-ne-MOST_SETS.false c.if-set_levels-ne-MOST_SETS.false (sym c.levels_rise.ensures ∙ c.if-not-levels_rise.false) _ c.last_level.ensures (sym c.preferences_keep.ensures ∙ c.if-not-preferences_keep.false)
