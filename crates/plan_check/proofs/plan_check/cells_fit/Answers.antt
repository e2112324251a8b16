use mathlib.Core.Path.{◌∙◌}
use Rattle.std.proofs.Common.{tests, rules}
use Rattle.std.proofs.lemmas.Iterator.{YieldsList-from_slice}
use Rattle.std.proofs.lemmas.Iterator.Search.{all_from_yields_List}
use Rattle.base_lists.proofs.Words.{every-passes}
use Rattle.plan_check.specs.Check.{cell_fits}
use Rattle.plan_check.proofs.plan_check.cells_fit.Goals as goal

pub returns : goal.returns
returns c =
    all_from_yields_List (cell_fits c.args.slots) _ _ c.all.result c.all.ensures.ran (YieldsList-from_slice _ c.iter.ensures.rest) (λ x b q k. search (rules, tests)) ∙ every-passes _ _
