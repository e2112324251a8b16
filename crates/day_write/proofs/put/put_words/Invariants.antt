-- The loop's invariant: the first i words are put.
use mathlib.Core.Path.{◌≡◌}
use lib.ListN.{length, get_or}
use lib.Seq.{sets}
use Rattle.base_lists.specs.Flat.{join_below}
use Rattle.day_file.specs.File.{word}
use Rattle.day_write.proofs.put.put_words.Given as goal

abbrev pub invariant-loop-i : goal.invariant-loop-i
invariant-loop-i l =
    (length l.pool ≡ length l.initial.pool) × (l.pool ≡ sets l.initial.pool l.at (join_below l.i (λ k. word (get_or l.words k 0))))
