-- Some row passes the test, by std's word and by the rules'.
use Rattle.std.proofs.Common.{◌∙◌, refl, eqb, rules, tests}
use Rattle.std.proofs.lemmas.Iterator.{YieldsList-from_slice}
use Rattle.std.proofs.lemmas.Iterator.Search.{any_from_yields_List}
use Rattle.day_rows.specs.Row.{row_of}
use Rattle.base_lists.proofs.Words.{some-passes}
use Rattle.list_rule_counts.specs.steps.CountRule.{has_limit}
use Rattle.list_rule_counts.proofs.bounds.has_limit.Goals as goal

pub returns : goal.returns
unfolding has_limit
returns c =
    any_from_yields_List (λ number. eqb (row_of number).kind 6) _ _ c.any.result c.any.ensures.ran (YieldsList-from_slice c.args.rows.now cc) (λ x b q k. search (rules, tests))
    ∙ some-passes _ _ (λ number. refl) _
