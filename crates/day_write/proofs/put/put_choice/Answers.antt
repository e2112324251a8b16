-- Two words and a byte are the choice's five bytes.
use Rattle.day_write.proofs.WriteLaws.{choice-put}
use Rattle.day_write.proofs.put.put_choice.Goals as goal

pub returns : goal.returns
returns c =
    choice-put _ _ _ _ _ c.put_word.ensures c.put_word-2.ensures
