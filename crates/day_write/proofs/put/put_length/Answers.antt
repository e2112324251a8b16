-- Two words are the four bytes.
use Rattle.day_write.proofs.WriteLaws.{length-put}
use Rattle.day_write.proofs.put.put_length.Goals as goal

pub returns : goal.returns
returns c =
    length-put _ _ c.put_word.ensures c.put_word-2.ensures
