-- The loop's invariant: the domains of the choices passed are what the set leaves of them.
use mathlib.Core.Path.{◌≡◌}
use Rattle.list_domains.specs.steps.Domains.{each_below}
use Rattle.list_rule_counts.specs.steps.Figures.{keeps_of}
use Rattle.list_rule_counts.proofs.wants.narrow_free.Given as goal

abbrev pub invariant-loop-choice : goal.invariant-loop-choice
invariant-loop-choice l =
    l.domains ≡ each_below l.choice (keeps_of l.free l.set) l.initial.domains
