-- The loop's invariant: the domains of the choices passed are what the rule leaves.
use mathlib.Core.Path.{◌≡◌}
use Rattle.list_domains.specs.steps.Domains.{each_below}
use Rattle.list_rule_tables.specs.steps.Lent.{rule_by}
use Rattle.list_rule_tables.proofs.rule.narrow_once.Given as goal

abbrev pub invariant-loop-choice : goal.invariant-loop-choice
invariant-loop-choice l =
    l.domains ≡ each_below l.choice (rule_by l.one l.counts l.maxs l.free) l.initial.domains
