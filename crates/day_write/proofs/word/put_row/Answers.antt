-- Two bytes and two words are the row's six bytes.
use Rattle.day_write.proofs.WriteLaws.{row_put}
use Rattle.day_write.proofs.word.put_row.Goals as goal

pub returns : goal.returns
returns c =
    row_put _ _ _ c.from-row.ensures c.flip_sign_bit.ensures c.put_word.ensures c.put_word-2.ensures
