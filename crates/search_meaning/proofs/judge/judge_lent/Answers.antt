-- Each return is one law: the tests before it hold, and its own does not.
use mathlib.Core.Path.{sym, ◌∙◌}
use Rattle.search_meaning.proofs.JudgedLaws.{lent-orders, lent-flags, lent_map, lent-good}
use Rattle.search_meaning.proofs.judge.judge_lent.Goals as goal

pub returns-then-not-orders_keep : goal.returns-then-not-orders_keep
returns-then-not-orders_keep c = lent-orders _ (sym c.orders_keep.ensures ∙ c.if-not-orders_keep.true)

pub returns-then-not-flags_fit : goal.returns-then-not-flags_fit
returns-then-not-flags_fit c = lent-flags _ (sym c.orders_keep.ensures ∙ c.if-not-orders_keep.false) (sym c.flags_fit.ensures ∙ c.if-not-flags_fit.true)

pub returns-then-not-judge_map : goal.returns-then-not-judge_map
returns-then-not-judge_map c = lent_map _ (sym c.orders_keep.ensures ∙ c.if-not-orders_keep.false) (sym c.flags_fit.ensures ∙ c.if-not-flags_fit.false) (sym c.judge_map.ensures ∙ c.if-not-judge_map.true)

pub returns : goal.returns
returns c = lent-good _ (sym c.orders_keep.ensures ∙ c.if-not-orders_keep.false) (sym c.flags_fit.ensures ∙ c.if-not-flags_fit.false) (sym c.judge_map.ensures ∙ c.if-not-judge_map.false)
