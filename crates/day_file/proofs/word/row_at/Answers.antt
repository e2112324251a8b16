-- The columns read are those of the definition's row.
use Rattle.day_file.proofs.JudgeLaws.{row_read}
use Rattle.day_file.proofs.word.row_at.Goals as goal

pub returns : goal.returns
returns c =
    row_read _ _ c.from.ensures c.from-2.ensures c.word_at.ensures c.word_at-2.ensures c.flip_sign_bit.ensures c.from-3.ensures
