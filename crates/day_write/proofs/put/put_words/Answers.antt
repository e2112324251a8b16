use mathlib.Core.Path.{refl, ◌∙◌}
use lib.ListN.{get_or}
use Rattle.base_lists.proofs.Stores.{sets-start, sets_join}
use Rattle.day_file.specs.File.{word}
use Rattle.day_file.proofs.FileLaws.{length-word}
use Rattle.day_write.proofs.put.put_words.Goals as goal

pub loop-i-init : goal.loop-i-init
loop-i-init c =
    (refl, sets-start _ _ _)

pub loop-i-preserved : goal.loop-i-preserved
loop-i-preserved c =
    let s = c in
    (c.put_word.auto.pool ∙ c.loop-i.invariant.0, sets_join 2 (λ k. word (get_or s.args.words.now k 0)) (λ k. length-word (get_or s.args.words.now k 0)) _ _ _ c.loop-i.invariant.1 c.put_word.ensures)
