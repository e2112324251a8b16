use mathlib.Core.Path.{◌∙◌}
use Rattle.std.proofs.Common.{tests, rules}
use Rattle.std.proofs.lemmas.Iterator.{YieldsList-from_slice}
use Rattle.std.proofs.lemmas.Iterator.Search.{all_from_yields_List}
use lib.ListN.{get_or}
use Rattle.base_lists.proofs.Words.{every-passes}
use Rattle.day_rows.specs.Row.{row_of}
use Rattle.search_candidates.specs.Allow.{limit_holds, limits_hold}
use Rattle.search_candidates.proofs.limits.limits_hold.Goals as goal

pub returns : goal.returns
unfolding limits_hold
returns c =
    all_from_yields_List (λ number. limit_holds (λ slot. get_or c.args.sizes.now slot 0) c.args.place (row_of number)) _ _ c.all.result c.all.ensures.ran (YieldsList-from_slice _ c.iter.ensures.rest) (λ x b q k. search (rules, tests)) ∙ every-passes _ _
