-- Module 2, the same-choosers groups.
use Rattle.std.specs.Prelude.{cond, ℕ, eqb}
use mathlib.Core.List.{List, [], ◌∷◌, flat_map}
use Rattle.base_lists.specs.Group.{classes}
use Rattle.reduce_union_find.specs.State.{join_all, root_of}
use Rattle.reduce_turn.specs.Turn.{kind_of, left_of, right_of}

-- the two choices that a row of kind 10 joins
unfoldable pub join_one : ℕ → List (ℕ × ℕ)
join_one number = cond (eqb (kind_of number) 10) ((left_of number, right_of number) ∷ []) []

abbrev pub joins : List ℕ → List (ℕ × ℕ)
joins rows = flat_map join_one rows

-- every 'same-choosers group (kind 10)': the groups of the choices after all joins in given order, by rising
-- root, members rising
unfoldable pub same_choosers : ℕ → List ℕ → List (List ℕ)
same_choosers choices rows = classes choices (root_of (join_all choices (joins rows)))
