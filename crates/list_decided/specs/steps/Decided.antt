-- With which choice a row is decided: once it has its place, whether the row is kept depends on no later one.
use Rattle.std.specs.Prelude.{cond, List, [], ◌∷◌, ℕ, suc, max, eqb, ltb}
use Rattle.day_rows.specs.Row.{row_of}
use Rattle.day_rows.specs.declared.row.Row.{Row}

-- no choice: whole plans alone decide the row
abbrev pub never : ℕ
never = 65536

-- the choice with which a row of kind 1 or 2 is decided: its own, if the row names a slot of the day
unfoldable pub with_slot : ℕ → ℕ → ℕ → ℕ
with_slot slots choice slot = cond (ltb slot slots) choice never

-- the choice with which a row of kind 3, 4 or 5 is decided: the later of its two; none if they are one
unfoldable pub later_choice : ℕ → ℕ → ℕ
later_choice left right = cond (eqb left right) never (max left right)

-- the choice with which a row is decided, by its kind
unfoldable pub last_of : ℕ → Row → ℕ
last_of slots row =
    cond (eqb row.kind 1) (with_slot slots row.left row.right)
    (cond (eqb row.kind 2) (with_slot slots row.left row.right)
    (cond (eqb row.kind 3) (later_choice row.left row.right)
    (cond (eqb row.kind 4) (later_choice row.left row.right)
    (cond (eqb row.kind 5) (later_choice row.left row.right)
    never))))

-- how many rows at the front of a list are decided with the choice
unfoldable pub front_of : ℕ → ℕ → List ℕ → ℕ
front_of slots choice [] = 0
front_of slots choice (number ∷ rows) =
    cond (eqb (last_of slots (row_of number)) choice) (suc (front_of slots choice rows)) 0
