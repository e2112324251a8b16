use Rattle.base_lists.proofs.Through.{all_none}
use Rattle.day_file.proofs.JudgeLaws.{under-fails, under_more}
use Rattle.day_file.proofs.judge.preferences_in.Goals as goal

pub loop-i-init : goal.loop-i-init
loop-i-init c =
    all_none _

pub returns-then-last-word_at : goal.returns-then-last-word_at
returns-then-last-word_at c =
    under-fails _ c.args.preferences _ _ c.word_at.ensures _ c.loop-i-test.true c.if-last-word_at.true

pub loop-i-preserved : goal.loop-i-preserved
loop-i-preserved c =
    under_more _ c.args.preferences _ _ c.word_at.ensures c.loop-i.invariant c.if-last-word_at.false
