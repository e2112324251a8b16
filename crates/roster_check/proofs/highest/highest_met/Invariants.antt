-- The loop's invariant: the highest of the choosers passed.
use mathlib.Core.Path.{◌≡◌}
use Rattle.roster_check.specs.Roster.{highest_below, preference_met}
use Rattle.roster_check.proofs.highest.highest_met.Given as goal

abbrev pub invariant-loop-chooser : goal.invariant-loop-chooser
invariant-loop-chooser l =
    l.highest ≡ highest_below l.chooser (λ k. highest_below l.sheet.counts.slots (preference_met l.sheet.counts.choices l.sheet.counts.slots l.sheet.preferences.now l.sheet.roster.now k))
