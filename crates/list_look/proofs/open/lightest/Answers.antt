-- The entry stands within the tables.
use Rattle.list_look.proofs.SlotLaws.{heads-entry}
use mathlib.Core.Path.{◌∙◌}
use native.Mathlib.Omega.{arith}
use Rattle.list_look.proofs.open.lightest.Goals as goal

pub returns : goal.returns
returns c =
    (c.from.ensures ∙ heads-entry _ _ _ c.requires.0 c.requires.1, omega arith)
