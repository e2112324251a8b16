-- The lengths, one test after the other.
use Rattle.roster_check.proofs.JudgeLaws.{length-mins, length-maxs, length-levels, length-preferences, length-rows, length-assignment, length-plan, length-decides}
use native.Mathlib.Omega.{arith}
use Rattle.roster_check.proofs.CallLaws.{ranged, few_product}
use Rattle.roster_check.proofs.roster_check.lengths_keep.Goals as goal

pub returns-then-sheet-counts : goal.returns-then-sheet-counts
returns-then-sheet-counts c = length-mins _ c.if-sheet-counts.true

pub returns-then-sheet-counts-2 : goal.returns-then-sheet-counts-2
returns-then-sheet-counts-2 c = length-maxs _ c.if-sheet-counts.false c.if-sheet-counts-2.true

pub returns-then-sheet-counts-3 : goal.returns-then-sheet-counts-3
returns-then-sheet-counts-3 c = length-levels _ c.if-sheet-counts.false c.if-sheet-counts-2.false c.if-sheet-counts-3.true

pub overflow_mul-counts : goal.overflow_mul-counts
overflow_mul-counts c =
    let r = ranged c.args.sheet.now.counts c.requires in omega (arith, few_product _ _ r.rows.choosers r.rows.choices)

pub returns-then-sheet-counts-4 : goal.returns-then-sheet-counts-4
returns-then-sheet-counts-4 c = length-preferences _ c.if-sheet-counts.false c.if-sheet-counts-2.false c.if-sheet-counts-3.false c.if-sheet-counts-4.true

pub returns-then-sheet-counts-5 : goal.returns-then-sheet-counts-5
returns-then-sheet-counts-5 c = length-rows _ c.if-sheet-counts.false c.if-sheet-counts-2.false c.if-sheet-counts-3.false c.if-sheet-counts-4.false c.if-sheet-counts-5.true

pub returns-then-sheet-counts-6 : goal.returns-then-sheet-counts-6
returns-then-sheet-counts-6 c = length-assignment _ c.if-sheet-counts.false c.if-sheet-counts-2.false c.if-sheet-counts-3.false c.if-sheet-counts-4.false c.if-sheet-counts-5.false c.if-sheet-counts-6.true

pub returns-then-sheet-counts-7 : goal.returns-then-sheet-counts-7
returns-then-sheet-counts-7 c = length-plan _ c.if-sheet-counts.false c.if-sheet-counts-2.false c.if-sheet-counts-3.false c.if-sheet-counts-4.false c.if-sheet-counts-5.false c.if-sheet-counts-6.false c.if-sheet-counts-7.true

pub overflow_mul-result : goal.overflow_mul-result
overflow_mul-result c =
    let r = ranged c.args.sheet.now.counts c.requires in omega (arith, few_product c.args.sheet.now.counts.choosers c.args.sheet.now.counts.slots r.rows.choosers (omega (arith, r.rows.slots)))

pub returns : goal.returns
returns c = length-decides _ c.if-sheet-counts.false c.if-sheet-counts-2.false c.if-sheet-counts-3.false c.if-sheet-counts-4.false c.if-sheet-counts-5.false c.if-sheet-counts-6.false c.if-sheet-counts-7.false
