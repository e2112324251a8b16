-- The numbers' rows refuse, or allow and it isn't the last choice, or the limits decide.
use mathlib.Core.Path.{sym, ◌∙◌}
use Rattle.search_candidates.specs.Loads.{size_of}
use Rattle.search_candidates.proofs.LoopLaws.{each-refuses, not_last, last_tested}
use Rattle.search_candidates.proofs.allow.rows_allow.Goals as goal

pub returns-then-not-each_allows : goal.returns-then-not-each_allows
returns-then-not-each_allows c =
    sym (each-refuses _ _ _ _ _ _ _ (sym c.each_allows.ensures ∙ c.if-not-each_allows.true))

pub returns-then-not-asked : goal.returns-then-not-asked
returns-then-not-asked c =
    sym (not_last _ _ _ _ _ _ _ (c.if-not-asked.true) (sym c.each_allows.ensures ∙ c.if-not-each_allows.false))

pub returns : goal.returns
unfolding size_of
returns c =
    c.limits_hold.ensures ∙ sym (last_tested _ _ _ _ _ _ _ (c.if-not-asked.false) (sym c.each_allows.ensures ∙ c.if-not-each_allows.false))
