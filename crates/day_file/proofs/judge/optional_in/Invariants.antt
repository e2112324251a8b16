-- The loop's invariant: the optional byte of every choice before i is 0 or 1.
use mathlib.Core.Path.{◌≡◌}
use mathlib.Core.Bool.{true}
use lib.Dec.{leb}
use lib.ListN.{get_or}
use Rattle.base_lists.specs.Below.{all_below}
use Rattle.day_file.specs.steps.Columns.{place}
use Rattle.day_file.proofs.judge.optional_in.Given as goal

abbrev pub invariant-loop-i : goal.invariant-loop-i
invariant-loop-i l =
    all_below l.i (λ k. leb (get_or l.file (place l.flags k) 0) 1) ≡ true
