-- An offset is any number but the least.
use borrow.Author.Rules.{rules}
use Rattle.day_rows.proofs.SignedLaws.{offset-range}
use Rattle.day_rows.proofs.check.column_holds.Goals as goal

pub returns-in-Offset : goal.returns-in-Offset
returns-in-Offset c =
    rw c.in-Offset.is (offset-range _ (search rules))
