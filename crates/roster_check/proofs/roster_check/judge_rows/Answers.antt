-- The search's list, and then the roster's.
use mathlib.Core.Path.{◌∙◌}
use native.Mathlib.Omega.{arith}
use Rattle.day_rows.proofs.ToldLaws.{passed_on}
use Rattle.roster_check.proofs.JudgeLaws.{rows-counts, rows-first, rows-second}
use Rattle.roster_check.proofs.roster_check.judge_rows.Goals as goal

pub judge_list-requires : goal.judge_list-requires
judge_list-requires c = omega (arith, c.requires.0)

pub returns-in_err-judge_list : goal.returns-in_err-judge_list
returns-in_err-judge_list c =
    passed_on _ _ c.from_residual.ensures.1 ∙ rows-counts _ _ c.of_rows-counts.ensures (rows-first _ _ _ c.in_err-judge_list.ensures)

pub judge_list-requires-2 : goal.judge_list-requires-2
judge_list-requires-2 c = omega (arith, c.requires.0, c.requires.1)

pub returns : goal.returns
returns c =
    rows-counts _ _ c.of_rows-counts.ensures (rows-second _ _ _ c.in_ok-judge_list.ensures c.judge_list-2.ensures)
