use Rattle.std.proofs.Common.{◌∙◌, rules}
use Rattle.std.proofs.lemmas.Iterator.{YieldsList-from_slice}
use Rattle.std.proofs.lemmas.Iterator.Search.{all_from_yields_List}
use Rattle.base_lists.proofs.Words.{every-passes}
use Rattle.roster_rows.specs.Seats.{names_scheduled}
use Rattle.roster_rows.proofs.judge.cells_named.Goals as goal

pub returns : goal.returns
returns c =
    all_from_yields_List (names_scheduled c.args.plan.now) _ _ c.all.result c.all.ensures.ran (YieldsList-from_slice c.args.roster.now cc) (λ x b q k. search rules)
    ∙ every-passes _ _
