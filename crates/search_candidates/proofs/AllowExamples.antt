-- Each kind's row, allowed and not, computed from the definitions.
use mathlib.Core.Path.{◌≡◌, refl}
use mathlib.Core.Bool.{Bool, true, false}
use mathlib.Core.List.{List, [], ◌∷◌}
use Prim.Native.Nat.{ℕ, ◌+◌}
use lib.ListN.{get_or}
use Rattle.base_lists.specs.All.{all_of}
use Rattle.base_lists.specs.Below.{one}
use Rattle.day_rows.specs.Op.{eq_op, gt_op, leq_op, lt_op}
use Rattle.day_rows.specs.Row.{row_of, row_number, plain_row}
use Rattle.day_rows.specs.declared.row.Row.{Row}
use Rattle.plan_check.specs.Plan.{slot_of, omitted}
use Rattle.plan_check.specs.Rows.{op_holds, slots_differ, offset_kept}
use Rattle.search_candidates.specs.Allow.{decision_of, is_undecided, ends_keep, pair_allows, room_for, room_allows, row_allows, each_allows, limit_holds, limits_hold, rows_allow}

-- what one row says of a place for a choice that is not the last, beside the decisions and each slot's count
unfoldable pub said_of : Row → List ℕ → List ℕ → ℕ → ℕ → Bool
said_of row decisions sizes choice place = rows_allow (row_number row ∷ []) (0 ∷ []) decisions (λ slot. get_or sizes slot 0) false choice place

-- choice 0 in slot 2: slot 2, not slot 3, not omitted
pub in_slot : (said_of (plain_row 1 0 2) [] [] 0 2 ∷ said_of (plain_row 1 0 2) [] [] 0 3 ∷ said_of (plain_row 1 0 2) [] [] 0 255 ∷ []) ≡ true ∷ false ∷ false ∷ []
unfolding said_of row_number rows_allow each_allows limits_hold all_of row_of row_allows
in_slot = refl

-- choice 0 not in slot 2: not slot 2, slot 3, omitted
pub not_in_slot : (said_of (plain_row 2 0 2) [] [] 0 2 ∷ said_of (plain_row 2 0 2) [] [] 0 3 ∷ said_of (plain_row 2 0 2) [] [] 0 255 ∷ []) ≡ false ∷ true ∷ true ∷ []
unfolding said_of row_number rows_allow each_allows limits_hold all_of row_of row_allows
not_in_slot = refl

-- choices 0 and 1 in one slot, choice 1 in slot 4: slot 4, not slot 5, not omitted; with choice 1 omitted,
-- omitted
pub same-slot : (said_of (plain_row 3 0 1) (254 ∷ 4 ∷ []) [] 0 4 ∷ said_of (plain_row 3 0 1) (254 ∷ 4 ∷ []) [] 0 5 ∷ said_of (plain_row 3 0 1) (254 ∷ 4 ∷ []) [] 0 255 ∷ said_of (plain_row 3 0 1) (254 ∷ 255 ∷ []) [] 0 255 ∷ []) ≡ true ∷ false ∷ false ∷ true ∷ []
unfolding said_of row_number rows_allow each_allows limits_hold all_of row_of row_allows pair_allows is_undecided decision_of ends_keep
same-slot = refl

-- choices 0 and 1 not in one slot: not slot 4, slot 5; with both omitted, allowed
pub not-same-slot : (said_of (plain_row 4 0 1) (254 ∷ 4 ∷ []) [] 0 4 ∷ said_of (plain_row 4 0 1) (254 ∷ 4 ∷ []) [] 0 5 ∷ said_of (plain_row 4 0 1) (254 ∷ 255 ∷ []) [] 0 255 ∷ []) ≡ false ∷ true ∷ true ∷ []
unfolding said_of row_number rows_allow each_allows limits_hold all_of row_of row_allows pair_allows is_undecided decision_of ends_keep slots_differ omitted slot_of
not-same-slot = refl

-- choice 1 two slots after choice 0
unfoldable pub two_after : Row
two_after = record { kind = 5; left = 0; right = 1; extra = 32768 + 2 }

-- with choice 1 in slot 4, choice 0 in slot 2 and not in slot 6; with choice 0 in slot 4, choice 1 in slot 6
-- and not in slot 2
pub has-offset : (said_of two_after (254 ∷ 4 ∷ []) [] 0 2 ∷ said_of two_after (254 ∷ 4 ∷ []) [] 0 6 ∷ said_of two_after (4 ∷ 254 ∷ []) [] 1 6 ∷ said_of two_after (4 ∷ 254 ∷ []) [] 1 2 ∷ []) ≡ true ∷ false ∷ true ∷ false ∷ []
unfolding said_of row_number rows_allow each_allows limits_hold all_of row_of row_allows pair_allows is_undecided decision_of ends_keep offset_kept omitted slot_of two_after
has-offset = refl

-- one of two omitted; the other undecided; a row from a choice to itself
pub offset-apart : (said_of two_after (254 ∷ 255 ∷ []) [] 0 2 ∷ said_of two_after (254 ∷ 254 ∷ []) [] 0 2 ∷ said_of (plain_row 4 0 0) (254 ∷ []) [] 0 2 ∷ []) ≡ false ∷ true ∷ true ∷ []
unfolding said_of row_number rows_allow each_allows limits_hold all_of row_of row_allows pair_allows is_undecided decision_of ends_keep offset_kept slots_differ omitted slot_of two_after
offset-apart = refl

-- a limit of 3 on slot 2, by an op
unfoldable pub limit_of : ℕ → Row
limit_of op = record { kind = 6; left = 2; right = 3; extra = op }

-- with two choices in slot 2 a third fits by Leq and Eq, not by Lt; Gt asks nothing yet; another slot is free
pub room : (said_of (limit_of leq_op) [] (0 ∷ 0 ∷ 2 ∷ []) 0 2 ∷ said_of (limit_of eq_op) [] (0 ∷ 0 ∷ 2 ∷ []) 0 2 ∷ said_of (limit_of lt_op) [] (0 ∷ 0 ∷ 2 ∷ []) 0 2 ∷ said_of (limit_of gt_op) [] (0 ∷ 0 ∷ 2 ∷ []) 0 2 ∷ said_of (limit_of lt_op) [] (0 ∷ 0 ∷ 2 ∷ []) 0 1 ∷ []) ≡ true ∷ true ∷ false ∷ true ∷ true ∷ []
unfolding said_of row_number rows_allow each_allows limits_hold all_of row_of row_allows room_allows room_for limit_of
room = refl

-- with three choices in slot 2 a fourth fits by none of Leq, Eq and Lt
pub no_room : (said_of (limit_of leq_op) [] (0 ∷ 0 ∷ 3 ∷ []) 0 2 ∷ said_of (limit_of eq_op) [] (0 ∷ 0 ∷ 3 ∷ []) 0 2 ∷ []) ≡ false ∷ false ∷ []
unfolding said_of row_number rows_allow each_allows limits_hold all_of row_of row_allows room_allows room_for limit_of
no_room = refl

-- the last choice: Gt 3 on slot 2, which holds three, is kept there and not elsewhere; it needs none of the
-- numbers
pub last-choice : (rows_allow (row_number (limit_of gt_op) ∷ []) [] [] (λ slot. 3) true 0 2 ∷ rows_allow (row_number (limit_of gt_op) ∷ []) [] [] (λ slot. 3) true 0 1 ∷ []) ≡ true ∷ false ∷ []
unfolding limit_of row_number rows_allow each_allows limits_hold all_of row_of limit_holds op_holds one
last-choice = refl

-- a number past the rows allows no place
pub past_the_rows : rows_allow [] (0 ∷ []) [] (λ slot. 0) false 0 2 ≡ false
unfolding rows_allow each_allows all_of row_of row_allows
past_the_rows = refl
