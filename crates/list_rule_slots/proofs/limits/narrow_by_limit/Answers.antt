-- Each early return is a shape that the rule leaves alone.
use mathlib.Core.Path.{◌∙◌, ap}
use Rattle.day_rows.specs.Row.{row_of}
use Rattle.day_rows.specs.declared.row.Row.{Row}
use Rattle.list_rule_slots.specs.steps.SlotRules.{limit_rule}
use Rattle.list_rule_slots.proofs.StepLaws.{limit-choices, limit-slots, limit-past}
use Rattle.list_rule_slots.proofs.limits.narrow_by_limit.Goals as goal

pub returns-then-counts-gt64 : goal.returns-then-counts-gt64
returns-then-counts-gt64 c =
    limit-choices c.args.counts (row_of c.args.number) c.args.domains.now c.if-counts-gt64.true

pub returns-then-counts-gt24 : goal.returns-then-counts-gt24
returns-then-counts-gt24 c =
    limit-slots c.args.counts (row_of c.args.number) c.args.domains.now c.if-counts-gt64.false c.if-counts-gt24.true

pub returns-then-counts-row : goal.returns-then-counts-row
returns-then-counts-row c =
    limit-past c.args.counts (row_of c.args.number) c.args.domains.now c.if-counts-gt64.false c.if-counts-gt24.false (rw c.from-row.ensures at c.if-counts-row.true)

pub returns : goal.returns
returns c =
    c.narrow_each.ensures ∙ ap (λ (row : Row). limit_rule c.args.counts row c.args.domains.now) c.from-row.ensures
