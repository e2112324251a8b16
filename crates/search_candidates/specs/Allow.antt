-- 'Rows allow': what a list of rows says of the place that is tried for a choice, a slot or 255 for omitted.
use Rattle.std.specs.Prelude.{Bool, true, false, ◌&&◌, ◌||◌, not, cond, List, [], ◌∷◌, ℕ, ◌+◌, ◌-◌, eqb, leb, get_or}
use Rattle.base_lists.specs.All.{all_of}
use Rattle.base_lists.specs.Below.{one}
use Rattle.day_rows.specs.Op.{eq_op, leq_op, lt_op}
use Rattle.day_rows.specs.Row.{row_of}
use Rattle.day_rows.specs.declared.row.Row.{Row}
use Rattle.plan_check.specs.Rows.{op_holds, slots_differ, offset_kept}

-- the byte of a choice that isn't decided yet, beside 255 for one that is omitted
abbrev pub undecided : ℕ
undecided = 254

-- a choice's slot, 255 or 254; a choice past the list's end is undecided
unfoldable pub decision_of : List ℕ → ℕ → ℕ
decision_of decisions choice = get_or decisions choice undecided

-- a choice that isn't decided
unfoldable pub is_undecided : List ℕ → ℕ → Bool
is_undecided decisions choice = eqb (decision_of decisions choice) undecided

-- what kinds 3, 4 and 5 ask of the places of a row's left and right: module 3's sentences of a plan of these
-- two choices
unfoldable pub ends_keep : Row → ℕ → ℕ → Bool
ends_keep row left right =
    cond (eqb row.kind 3) (eqb left right)
    (cond (eqb row.kind 4) (slots_differ (left ∷ right ∷ []) 0 1)
    (cond (eqb row.kind 5) (offset_kept (left ∷ right ∷ []) 0 1 row.extra)
    false))

-- '3, 4, 5 only if the other choice (left, unless left is this one) is decided, this one then standing for
-- the opposite end'
unfoldable pub pair_allows : List ℕ → ℕ → ℕ → Row → Bool
pair_allows decisions choice place row =
    cond (eqb row.left choice)
    (is_undecided decisions row.right || ends_keep row place (decision_of decisions row.right))
    (is_undecided decisions row.left || ends_keep row (decision_of decisions row.left) place)

-- 'ops Eq, Leq, Lt only, as count + 1 <= limit (Lt: limit - 1)'
unfoldable pub room_for : ℕ → ℕ → ℕ → Bool
room_for op count limit =
    cond (eqb op eq_op) (leb (count + 1) limit)
    (cond (eqb op leq_op) (leb (count + 1) limit)
    (cond (eqb op lt_op) (leb (count + 1) (limit - 1))
    true))

-- '6 when the slot is tried': the sizes are each slot's count of the choices decided so far
unfoldable pub room_allows : (ℕ → ℕ) → ℕ → Row → Bool
room_allows sizes place row =
    not (eqb place row.left) || room_for row.extra (sizes row.left) row.right

-- what a row of the choice says of the place, by its kind; a row of another kind allows none
unfoldable pub row_allows : List ℕ → (ℕ → ℕ) → ℕ → ℕ → Row → Bool
row_allows decisions sizes choice place row =
    -- 'kind 1 and 2 on the tried place'
    cond (eqb row.kind 1) (eqb place row.right)
    (cond (eqb row.kind 2) (not (eqb place row.right))
    (cond (eqb row.kind 3) (pair_allows decisions choice place row)
    (cond (eqb row.kind 4) (pair_allows decisions choice place row)
    (cond (eqb row.kind 5) (pair_allows decisions choice place row)
    (cond (eqb row.kind 6) (room_allows sizes place row)
    false)))))

-- every row that the numbers name allows the place; a number past the rows names a row of kind 0
unfoldable pub each_allows : List ℕ → List ℕ → List ℕ → (ℕ → ℕ) → ℕ → ℕ → Bool
each_allows rows numbers decisions sizes choice place =
    all_of (λ number. row_allows decisions sizes choice place (row_of (get_or rows number 0))) numbers

-- a row of kind 6 against its slot's count, with this choice where it is tried; other kinds ask nothing
unfoldable pub limit_holds : (ℕ → ℕ) → ℕ → Row → Bool
limit_holds sizes place row =
    cond (eqb row.kind 6)
    (op_holds row.extra (sizes row.left + one (eqb place row.left)) row.right)
    true

-- 'every kind 6 row of the list is also tested in full'
unfoldable pub limits_hold : List ℕ → (ℕ → ℕ) → ℕ → Bool
limits_hold rows sizes place = all_of (λ number. limit_holds sizes place (row_of number)) rows

-- the rows allow the place: each of the choice's rows does and, 'For the last undecided choice', all limits
-- hold too
unfoldable pub rows_allow : List ℕ → List ℕ → List ℕ → (ℕ → ℕ) → Bool → ℕ → ℕ → Bool
rows_allow rows numbers decisions sizes last choice place =
    each_allows rows numbers decisions sizes choice place && (not last || limits_hold rows sizes place)
