-- The calls' promises joined.
use mathlib.Core.Path.{◌∙◌, ap₂}
use mathlib.Core.Bool.{Bool}
use Rattle.list_domains.specs.steps.Domains.{kept_places}
use Rattle.list_rule_slots.proofs.sums.slot_leaves.Goals as goal

pub returns : goal.returns
returns c =
    c.kept.ensures ∙ ap₂ (λ (a b : Bool). kept_places c.args.left c.args.slot a b) c.sum_fits-stands.ensures c.sum_fits-leaves.ensures
