use borrow.Author.Rules.{rules}
use Rattle.day_rows.specs.Levels.{last_level}
use Rattle.day_rows.proofs.lists.last_level.Goals as goal

pub returns : goal.returns
unfolding last_level
returns c = search rules
