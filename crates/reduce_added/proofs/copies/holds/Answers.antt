-- A member that is the choice is met, or none is.
use mathlib.Core.Path.{sym, ◌∙◌}
use borrow.Author.Tests.{eq-eqb, ne_eqb}
use lib.Dec.{eqb}
use Rattle.base_lists.proofs.Keep.{any_here, any_on, any_none}
use Rattle.reduce_added.proofs.copies.holds.Goals as goal

pub returns-then-member-choice : goal.returns-then-member-choice
returns-then-member-choice c =
    let l = c.loop-member in
    sym (l.invariant ∙ any_here (eqb _) _ l.member-index 0 c.loop-member-test.true (eq-eqb _ _ (sym c.if-member-choice.true)))

pub loop-member-preserved : goal.loop-member-preserved
loop-member-preserved c =
    let l = c.loop-member in
    l.invariant ∙ any_on (eqb _) _ l.member-index 0 c.loop-member-test.true (ne_eqb _ _ (λ e. c.if-member-choice.false (sym e)))

pub returns : goal.returns
returns c =
    let l = c.loop-member in
    sym (l.invariant ∙ any_none _ _ l.member-index c.loop-member-test.false)
