-- The loop's invariant: every level before i is under the next.
use mathlib.Core.Path.{◌≡◌}
use mathlib.Core.Bool.{true}
use Rattle.base_lists.specs.Below.{all_below}
use Rattle.day_file.proofs.JudgeLaws.{rising}
use Rattle.day_file.proofs.judge.levels_in.Given as goal

abbrev pub invariant-loop-i : goal.invariant-loop-i
invariant-loop-i l =
    all_below l.i (rising l.file l.levels) ≡ true
