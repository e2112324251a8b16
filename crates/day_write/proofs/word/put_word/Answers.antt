-- Two stores are a run of two.
use Rattle.day_write.proofs.WriteLaws.{word-put}
use Rattle.day_write.proofs.word.put_word.Goals as goal

pub returns : goal.returns
returns c =
    word-put _ _ _
