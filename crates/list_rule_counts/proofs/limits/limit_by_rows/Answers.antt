use mathlib.Core.Path.{refl}
use Rattle.list_rule_counts.proofs.LimitLaws.{rows-turn, rows_end}
use Rattle.list_rule_counts.proofs.limits.limit_by_rows.Goals as goal

pub loop-number-init : goal.loop-number-init
loop-number-init c =
    (refl, refl)

pub loop-number-preserved : goal.loop-number-preserved
loop-number-preserved c =
    let h = c.loop-number-test.true in let inv = c.loop-number.invariant in
    (rows-turn _ _ _ _ _ _ h inv.0 c.limit_by_row.ensures.least_after, rows-turn _ _ _ _ _ _ h inv.1 c.limit_by_row.ensures.under_after)

pub returns : goal.returns
returns c =
    record { least_after = rows_end _ _ _ _ _ c.loop-number-test.false c.loop-number.invariant.0; under_after = rows_end _ _ _ _ _ c.loop-number-test.false c.loop-number.invariant.1 }
