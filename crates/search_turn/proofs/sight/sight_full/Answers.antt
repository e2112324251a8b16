use borrow.Author.Tests.{eq-eqb, ne_eqb}
use Rattle.search_turn.proofs.sight.sight_full.Goals as goal

pub returns-then-choices-eq0 : goal.returns-then-choices-eq0
returns-then-choices-eq0 c =
    rw (c.if-passes.false, eq-eqb _ _ c.if-choices-eq0.true)

pub returns : goal.returns
returns c =
    rw (c.if-passes.false, ne_eqb _ _ c.if-choices-eq0.false)
