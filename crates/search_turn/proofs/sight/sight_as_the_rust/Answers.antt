use borrow.Author.Tests.{eq-eqb, ne_eqb}
use Rattle.search_turn.proofs.sight.sight_as_the_rust.Goals as goal

pub returns-then-slots-eq0 : goal.returns-then-slots-eq0
returns-then-slots-eq0 c =
    rw (eq-eqb _ _ c.if-slots-eq0.true)

pub returns-then-passes : goal.returns-then-passes
returns-then-passes c =
    rw (ne_eqb _ _ c.if-slots-eq0.false, c.if-passes.true)

pub returns : goal.returns
returns c =
    rw (ne_eqb _ _ c.if-slots-eq0.false, c.if-passes.false)
