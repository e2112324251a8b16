-- Each op's arm has the key that it matched; past them all, none of the six.
use borrow.Author.Tests.{ne_eqb}
use Rattle.day_rows.specs.Op.{is_op}
use Rattle.day_rows.proofs.op.Op.is_op.Goals as goal

pub returns-in-32769 : goal.returns-in-32769
unfolding is_op
returns-in-32769 c = rw c.in-32769.is

pub returns-in-32770 : goal.returns-in-32770
unfolding is_op
returns-in-32770 c = rw c.in-32770.is

pub returns-in-32771 : goal.returns-in-32771
unfolding is_op
returns-in-32771 c = rw c.in-32771.is

pub returns-in-32767 : goal.returns-in-32767
unfolding is_op
returns-in-32767 c = rw c.in-32767.is

pub returns-in-32766 : goal.returns-in-32766
unfolding is_op
returns-in-32766 c = rw c.in-32766.is

pub returns-in-32765 : goal.returns-in-32765
unfolding is_op
returns-in-32765 c = rw c.in-32765.is

pub returns-in_default : goal.returns-in_default
unfolding is_op
returns-in_default c =
    let r = c.in_default.in_default-own.rest in
    simp
    (ne_eqb _ _ r.0.0.0.0.0.1, ne_eqb _ _ r.0.0.0.0.1, ne_eqb _ _ r.0.0.0.1, ne_eqb _ _ r.0.0.1, ne_eqb _ _ r.0.1, ne_eqb _ _ r.1)
