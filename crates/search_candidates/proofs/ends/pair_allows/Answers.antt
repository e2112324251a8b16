-- The other choice is left, or right where left is this one; undecided, or compared.
use mathlib.Core.Path.{sym, ◌∙◌, ap}
use Rattle.search_candidates.specs.Allow.{decision_of}
use Rattle.search_candidates.proofs.CaseLaws.{pair-left_open, pair_left, pair-right_open, pair-right, none_of}
use Rattle.search_candidates.proofs.ends.pair_allows.Goals as goal

pub returns-then-other : goal.returns-then-other
returns-then-other c =
    let left = c.from-left.ensures ∙ c.left_of.ensures in
    let d = c.decision_of-other.ensures ∙ ap (decision_of _) left in
    sym (pair-left_open _ _ _ _ (none_of left c.if-left-choice.true) (sym d ∙ c.if-other.true))

pub returns-then-left-choice : goal.returns-then-left-choice
returns-then-left-choice c =
    let left = c.from-left.ensures ∙ c.left_of.ensures in
    let d = c.decision_of-other.ensures ∙ ap (decision_of _) left in
    c.ends_keep.ensures ∙ pair_left _ _ _ _ _ d (none_of left c.if-left-choice.true) c.if-other.false

pub returns-then-other-2 : goal.returns-then-other-2
returns-then-other-2 c =
    let left = c.from-left.ensures ∙ c.left_of.ensures in
    let right = c.from.ensures ∙ c.right_of.ensures in
    let d = c.decision_of-other-2.ensures ∙ ap (decision_of _) right in
    sym (pair-right_open _ _ _ _ (sym left ∙ c.if-left-choice.false) (sym d ∙ c.if-other-2.true))

pub returns : goal.returns
returns c =
    let left = c.from-left.ensures ∙ c.left_of.ensures in
    let right = c.from.ensures ∙ c.right_of.ensures in
    let d = c.decision_of-other-2.ensures ∙ ap (decision_of _) right in
    c.ends_keep-2.ensures ∙ pair-right _ _ _ _ _ d (sym left ∙ c.if-left-choice.false) c.if-other-2.false
