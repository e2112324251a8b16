-- The loop's invariant: the first i choices are put.
use mathlib.Core.Path.{◌≡◌}
use lib.ListN.{length}
use lib.Seq.{sets}
use Rattle.base_lists.specs.Flat.{join_below}
use Rattle.day_file.specs.File.{choice_bytes}
use Rattle.day_write.proofs.put.put_choices.Given as goal

abbrev pub invariant-loop-i : goal.invariant-loop-i
invariant-loop-i l =
    (length l.pool ≡ length l.initial.pool) × (l.pool ≡ sets l.initial.pool 11 (join_below l.i (choice_bytes l.mins l.maxs l.optional)))
