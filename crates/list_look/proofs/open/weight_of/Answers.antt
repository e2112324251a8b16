-- The weight stands within the tables.
use mathlib.Core.Path.{◌∙◌}
use native.Mathlib.Omega.{arith}
use Rattle.list_tables.proofs.TableLaws.{weight_in}
use Rattle.list_look.proofs.open.weight_of.Goals as goal

pub returns : goal.returns
returns c =
    (c.from.ensures ∙ weight_in _ 1 _ (omega arith) c.requires, omega arith)
