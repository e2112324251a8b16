-- The pairs of no more than a day may have, so that they can be counted; of more, none.
use Rattle.std.specs.Prelude.{◌&&◌, cond, List, [], ℕ, leb, length}
use Rattle.base_lists.specs.steps.Cut.{cut_at}
use Rattle.reduce_added.specs.steps.Fit.{groups_fit}
use Rattle.reduce_added.specs.Pairs.{group_pairs, mandatory_pairs}

-- the pairs of groups that fit their pools; else none
unfoldable pub pairs_in_groups : List ℕ → List ℕ → List ℕ
pairs_in_groups members ends = cond (groups_fit members ends) (group_pairs (cut_at 0 ends members)) []

-- the pairs of at most 200 choosers' lists in at most 128 rows; else none
unfoldable pub pairs_of_choosers : List ℕ → ℕ → List ℕ
pairs_of_choosers rows choosers =
    cond (leb (length rows) 128 && leb choosers 200) (mandatory_pairs rows choosers) []
