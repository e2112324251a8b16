-- The loop's invariant: the choices passed have seats that fit.
use mathlib.Core.Path.{◌≡◌}
use mathlib.Core.Bool.{true}
use Rattle.base_lists.specs.Below.{all_below}
use Rattle.roster_check.specs.Roster.{seats_fit}
use Rattle.roster_check.proofs.seats.seats_fit.Given as goal

abbrev pub invariant-loop-choice : goal.invariant-loop-choice
invariant-loop-choice l =
    all_below l.choice (seats_fit l.sheet.mins.now l.sheet.maxs.now l.sheet.plan.now l.sheet.roster.now) ≡ true
