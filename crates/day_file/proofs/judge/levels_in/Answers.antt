use native.Mathlib.Omega.{arith}
use Rattle.base_lists.proofs.Through.{all_none}
use Rattle.day_file.proofs.JudgeLaws.{rise-fails, rise-more}
use Rattle.day_file.proofs.judge.levels_in.Goals as goal

pub loop-i-init : goal.loop-i-init
loop-i-init c =
    all_none _

pub returns-then-next-level : goal.returns-then-next-level
returns-then-next-level c =
    rise-fails _ c.args.levels _ c.word_at-level.ensures c.word_at-next.ensures c.args.levels.count (omega arith) c.if-next-level.true

pub loop-i-preserved : goal.loop-i-preserved
loop-i-preserved c =
    rise-more _ c.args.levels _ c.word_at-level.ensures c.word_at-next.ensures c.loop-i.invariant c.if-next-level.false
