-- What each kind of row asks of a plan: module 3's sentences.
use Rattle.std.specs.Prelude.{Bool, false, ◌&&◌, ◌||◌, not, cond, List, ℕ, ◌+◌, eqb, ltb, leb}
use Rattle.base_lists.specs.All.{all_of}
use Rattle.day_rows.specs.Op.{eq_op, gt_op, geq_op, neq_op, leq_op, lt_op}
use Rattle.day_rows.specs.Row.{row_of}
use Rattle.day_rows.specs.declared.row.Row.{Row}
use Rattle.plan_check.specs.Plan.{slot_of, omitted, count_in}

-- '6: count of choices in the slot against the limit', by the op
unfoldable pub op_holds : ℕ → ℕ → ℕ → Bool
op_holds op count limit =
    cond (eqb op eq_op) (eqb count limit)
    (cond (eqb op neq_op) (not (eqb count limit))
    (cond (eqb op gt_op) (ltb limit count)
    (cond (eqb op lt_op) (ltb count limit)
    (cond (eqb op geq_op) (leb limit count)
    (cond (eqb op leq_op) (leb count limit)
    false)))))

-- '4: fails only for equal slots': two omitted choices stand in no slot
unfoldable pub slots_differ : List ℕ → ℕ → ℕ → Bool
slots_differ plan left right = omitted plan left || not (eqb (slot_of plan left) (slot_of plan right))

-- '5: right slot minus left slot is the offset; both omitted passes, one omitted fails'; extra is the offset
-- plus 32,768
unfoldable pub offset_kept : List ℕ → ℕ → ℕ → ℕ → Bool
offset_kept plan left right extra =
    cond (omitted plan left) (omitted plan right)
    (not (omitted plan right) && eqb (slot_of plan right + 32768) (slot_of plan left + extra))

-- what a row asks of a plan, by its kind; a row of another kind is kept by no plan
unfoldable pub keeps_row : List ℕ → Row → Bool
keeps_row plan row =
    -- '1: slot equals'
    cond (eqb row.kind 1) (eqb (slot_of plan row.left) row.right)
    -- '2: differs (omitted passes)': no slot is 255
    (cond (eqb row.kind 2) (not (eqb (slot_of plan row.left) row.right))
    -- '3: equal, both omitted passes'
    (cond (eqb row.kind 3) (eqb (slot_of plan row.left) (slot_of plan row.right))
    (cond (eqb row.kind 4) (slots_differ plan row.left row.right)
    (cond (eqb row.kind 5) (offset_kept plan row.left row.right row.extra)
    (cond (eqb row.kind 6) (op_holds row.extra (count_in plan row.left) row.right)
    false)))))

-- a plan keeps every row of a list
unfoldable pub keeps_rows : List ℕ → List ℕ → Bool
keeps_rows plan rows = all_of (λ number. keeps_row plan (row_of number)) rows
