-- The two bytes from the place on, as `word_of` puts them together.
use Rattle.day_file.specs.File.{word_at}
use Rattle.day_file.proofs.word.word_at.Goals as goal

pub returns : goal.returns
unfolding word_at
returns c = c.word_of.ensures
