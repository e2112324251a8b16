-- No two answers fit what the functions on a plan's bytes promise, those of `plan` and of `sentences`.
use mathlib.Core.Path.{◌≡◌}
use mathlib.Core.Bool.{Bool}
use mathlib.Core.List.{List}
use Prim.Native.Nat.{ℕ}
use lib.Dec.{eqb}
use Rattle.base_lists.proofs.Outcome.{no_two}
use Rattle.day_rows.specs.Row.{row_of}
use Rattle.plan_check.specs.Plan.{slot_of, omission_allowed}
use Rattle.plan_check.specs.Rows.{op_holds, slots_differ, offset_kept}

-- slot_of
pub one-slot : (plan : List ℕ) (choice : ℕ) {a b : ℕ} → a ≡ slot_of plan choice → b ≡ slot_of plan choice → a ≡ b
one-slot plan choice = no_two

-- op_holds
pub one_op : (op count limit : ℕ) {a b : Bool} → a ≡ op_holds op count limit → b ≡ op_holds op count limit → a ≡ b
one_op op count limit = no_two

-- slots_differ
pub one_difference : (plan : List ℕ) (left right : ℕ) {a b : Bool} → a ≡ slots_differ plan left right → b ≡ slots_differ plan left right → a ≡ b
one_difference plan left right = no_two

-- keeps_offset
pub one-offset : (plan : List ℕ) (left right extra : ℕ) {a b : Bool} → a ≡ offset_kept plan left right extra → b ≡ offset_kept plan left right extra → a ≡ b
one-offset plan left right extra = no_two

-- omission_allowed
pub one_omission : (place flag : ℕ) {a b : Bool} → a ≡ omission_allowed place flag → b ≡ omission_allowed place flag → a ≡ b
one_omission place flag = no_two

-- in_slot
pub one_in-slot : (plan : List ℕ) (number : ℕ) {a b : Bool} → a ≡ eqb (slot_of plan (row_of number).left) (row_of number).right → b ≡ eqb (slot_of plan (row_of number).left) (row_of number).right → a ≡ b
one_in-slot plan number = no_two

-- same_slot
pub one-same-slot : (plan : List ℕ) (left right : ℕ) {a b : Bool} → a ≡ eqb (slot_of plan left) (slot_of plan right) → b ≡ eqb (slot_of plan left) (slot_of plan right) → a ≡ b
one-same-slot plan left right = no_two
