use Rattle.std.proofs.Common.{◌∙◌, eqb, rules, tests}
use Rattle.std.proofs.lemmas.Iterator.{YieldsList-from_slice}
use Rattle.std.proofs.lemmas.Iterator.Search.{any_from_yields_List}
use Rattle.base_lists.proofs.Words.{some-passes, either-way}
use Rattle.roster_rows.proofs.cells.is_there.Goals as goal

pub returns : goal.returns
returns c =
    any_from_yields_List (λ cell. eqb cell c.args.choice) _ _ c.any.result c.any.ensures.ran (YieldsList-from_slice c.args.cells.now cc) (λ x b q k. search (rules, tests))
    ∙ some-passes _ _ (λ x. either-way x c.args.choice) _
