-- Each return has the tests before it held and its own failed.
use native.Mathlib.Omega.{arith}
use borrow.Author.Tests.{eq-eqb, ne_eqb}
use Rattle.day_file.specs.FileDay.{file_lengths_fit}
use Rattle.day_file.proofs.CountLaws.{in_range}
use Rattle.day_write.proofs.write.lengths_keep.Goals as goal

pub returns-then-day-counts : goal.returns-then-day-counts
unfolding file_lengths_fit
returns-then-day-counts c =
    rw (ne_eqb _ _ c.if-day-counts.true)

pub returns-then-day-counts-2 : goal.returns-then-day-counts-2
unfolding file_lengths_fit
returns-then-day-counts-2 c =
    rw (eq-eqb _ _ c.if-day-counts.false, ne_eqb _ _ c.if-day-counts-2.true)

pub returns-then-day-counts-3 : goal.returns-then-day-counts-3
unfolding file_lengths_fit
returns-then-day-counts-3 c =
    rw (eq-eqb _ _ c.if-day-counts.false, eq-eqb _ _ c.if-day-counts-2.false, ne_eqb _ _ c.if-day-counts-3.true)

pub returns-then-day-counts-4 : goal.returns-then-day-counts-4
unfolding file_lengths_fit
returns-then-day-counts-4 c =
    rw (eq-eqb _ _ c.if-day-counts.false, eq-eqb _ _ c.if-day-counts-2.false, eq-eqb _ _ c.if-day-counts-3.false, ne_eqb _ _ c.if-day-counts-4.true)

pub overflow_mul-counts : goal.overflow_mul-counts
overflow_mul-counts c =
    let h = (in_range _ c.requires).cells in record { fits = omega arith }

pub returns-then-day-counts-5 : goal.returns-then-day-counts-5
unfolding file_lengths_fit
returns-then-day-counts-5 c =
    rw (eq-eqb _ _ c.if-day-counts.false, eq-eqb _ _ c.if-day-counts-2.false, eq-eqb _ _ c.if-day-counts-3.false, eq-eqb _ _ c.if-day-counts-4.false, ne_eqb _ _ c.if-day-counts-5.true)

pub returns : goal.returns
unfolding file_lengths_fit
returns c =
    rw (eq-eqb _ _ c.if-day-counts.false, eq-eqb _ _ c.if-day-counts-2.false, eq-eqb _ _ c.if-day-counts-3.false, eq-eqb _ _ c.if-day-counts-4.false, eq-eqb _ _ c.if-day-counts-5.false)
