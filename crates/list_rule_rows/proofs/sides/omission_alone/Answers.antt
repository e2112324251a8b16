-- The places of both, the other being omission.
use mathlib.Core.Path.{◌∙◌, ap}
use Rattle.list_domains.specs.steps.Domains.{both_places}
use Rattle.list_rule_rows.proofs.sides.omission_alone.Goals as goal

pub returns : goal.returns
returns c = c.both.ensures ∙ ap (both_places c.args.domain) c.only.ensures
