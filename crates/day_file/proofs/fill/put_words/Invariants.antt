-- The loop's invariant: the first i entries are the file's.
use mathlib.Core.Path.{◌≡◌}
use lib.ListN.{length, take}
use Rattle.base_lists.specs.Flat.{list_below}
use Rattle.day_file.specs.File.{word_at}
use Rattle.day_file.specs.steps.Columns.{place}
use Rattle.day_file.proofs.fill.put_words.Given as goal

abbrev pub invariant-loop-i : goal.invariant-loop-i
invariant-loop-i l =
    (length l.pool ≡ length l.initial.pool) × (take l.i l.pool ≡ list_below l.i (λ k. word_at l.file (place l.words k)))
