-- The loop's invariant: every preference before i is at most the last level.
use mathlib.Core.Path.{◌≡◌}
use mathlib.Core.Bool.{true}
use Rattle.base_lists.specs.Below.{all_below}
use Rattle.day_file.proofs.JudgeLaws.{under}
use Rattle.day_file.proofs.judge.preferences_in.Given as goal

abbrev pub invariant-loop-i : goal.invariant-loop-i
invariant-loop-i l =
    all_below l.i (under l.file l.preferences l.last) ≡ true
