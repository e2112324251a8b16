-- Each return has the tests before it held and its own failed.
use borrow.Author.Tests.{eq-eqb, ne_eqb}
use Rattle.day_file.specs.FileDay.{lengths_full}
use Rattle.day_file.proofs.read.pools_full.Goals as goal

pub returns-then-mins-ne64 : goal.returns-then-mins-ne64
unfolding lengths_full
returns-then-mins-ne64 c =
    rw (ne_eqb _ _ c.if-mins-ne64.true)

pub returns-then-maxs-ne64 : goal.returns-then-maxs-ne64
unfolding lengths_full
returns-then-maxs-ne64 c =
    rw (eq-eqb _ _ c.if-mins-ne64.false, ne_eqb _ _ c.if-maxs-ne64.true)

pub returns-then-optional-ne64 : goal.returns-then-optional-ne64
unfolding lengths_full
returns-then-optional-ne64 c =
    rw (eq-eqb _ _ c.if-mins-ne64.false, eq-eqb _ _ c.if-maxs-ne64.false, ne_eqb _ _ c.if-optional-ne64.true)

pub returns-then-levels-ne64 : goal.returns-then-levels-ne64
unfolding lengths_full
returns-then-levels-ne64 c =
    rw (eq-eqb _ _ c.if-mins-ne64.false, eq-eqb _ _ c.if-maxs-ne64.false, eq-eqb _ _ c.if-optional-ne64.false, ne_eqb _ _ c.if-levels-ne64.true)

pub returns-then-preferences-ne12800 : goal.returns-then-preferences-ne12800
unfolding lengths_full
returns-then-preferences-ne12800 c =
    rw (eq-eqb _ _ c.if-mins-ne64.false, eq-eqb _ _ c.if-maxs-ne64.false, eq-eqb _ _ c.if-optional-ne64.false, eq-eqb _ _ c.if-levels-ne64.false, ne_eqb _ _ c.if-preferences-ne12800.true)

pub returns : goal.returns
unfolding lengths_full
returns c =
    rw (eq-eqb _ _ c.if-mins-ne64.false, eq-eqb _ _ c.if-maxs-ne64.false, eq-eqb _ _ c.if-optional-ne64.false, eq-eqb _ _ c.if-levels-ne64.false, eq-eqb _ _ c.if-preferences-ne12800.false)
