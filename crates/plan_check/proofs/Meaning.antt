-- The plan check in plain mathematics: it says yes exactly to the feasible plans of `PlanMeans`, and what
-- each kind of row asks of a plan.
use mathlib.Core.Path.{◌≡◌, refl, sym, ◌∙◌, ap}
use mathlib.Core.Bool.{Bool, true, false, ◌&&◌, ◌||◌, not, false≢true, or-true}
use mathlib.Core.List.{List}
use mathlib.Core.Logic.{◌↔◌}
use Prim.Native.Nat.{ℕ, ◌≤◌, ◌<◌}
use native.Mathlib.Decide.{ℕ_discrete}
use native.Mathlib.Nat.{add_comm}
use native.Mathlib.Omega.{arith}
use borrow.Author.Tests.{lt-ltb, ltb-true, le-leb, leb-true, eq-eqb, ne_eqb, eqb-true, eqb-false, not-true}
use lib.Dec.{eqb, ltb, leb}
use lib.IntN.{pos, ◌-ℤ◌}
use lib.ListN.{length, get_or}
use Rattle.base_lists.specs.Below.{all_below}
use Rattle.base_lists.proofs.Below.{and_both, and_left, and_right, all-each, each_all}
use Rattle.base_lists.proofs.All.{all_of-each, each-all_of}
use Rattle.base_lists.proofs.Differences.{minus_is, cross_same, same_cross}
use Rattle.day_rows.specs.Op.{signed_of, eq_op, gt_op, geq_op, neq_op, leq_op, lt_op}
use Rattle.day_rows.specs.Row.{row_of}
use Rattle.day_rows.specs.declared.row.Row.{Row}
use Rattle.plan_check.specs.Day.{Day}
use Rattle.plan_check.specs.Plan.{slot_of, count_in, sum_in}
use Rattle.plan_check.specs.Rows.{slots_differ, offset_kept, keeps_row, keeps_rows}
use Rattle.plan_check.specs.PlanMeans.{Placed, scheduled, left_out, Feasible}
use Rattle.plan_check.specs.Feasible.{omission_allowed, place_allowed, places_allowed, slot_fits, feasible}
use Rattle.plan_check.proofs.RowLaws.{op_eq, op_neq, op_gt, op_lt, op_geq, op_leq, differ_out, differ_in, offset-left-out, offset-right-out, offset-both, keeps_in_slot, keeps-not_in_slot, keeps-same-slot, keeps-not-same-slot, keeps-offset-row, keeps_limited_size}
use Rattle.plan_check.proofs.SumLaws.{sum_fits}

-- the test of one choice's place holds exactly if the choice is placed
module _ (slots : ℕ) (optional plan : List ℕ) (choice : ℕ) where
  pub placed_means : place_allowed slots optional plan choice ≡ true → Placed slots optional plan choice
  unfolding place_allowed omission_allowed
  placed_means h = go (ltb (slot_of plan choice) slots) refl h
    where
      go : (b : Bool) → ltb (slot_of plan choice) slots ≡ b → (b || (eqb (slot_of plan choice) 255 && eqb (get_or optional choice 0) 1)) ≡ true
          → Placed slots optional plan choice
      go true t h = scheduled (ltb-true _ _ t)
      go false t h =
          left_out (eqb-true _ _ (and_left (eqb (slot_of plan choice) 255) (eqb (get_or optional choice 0) 1) h))
          (eqb-true _ _ (and_right (eqb (slot_of plan choice) 255) (eqb (get_or optional choice 0) 1) h))

  pub placed_by : Placed slots optional plan choice → place_allowed slots optional plan choice ≡ true
  unfolding place_allowed omission_allowed
  placed_by (scheduled h) = rw (lt-ltb _ _ h)
  placed_by (left_out e f) = rw (eq-eqb _ _ e, eq-eqb _ _ f) (or-true (ltb (slot_of plan choice) slots))

-- the plan check says yes exactly to feasible plans
module _ (day : Day) (plan : List ℕ) where
  pub feasible_means : feasible day plan ≡ true → Feasible day plan
  unfolding feasible places_allowed slot_fits keeps_rows
  feasible_means h =
      let slots = day.counts.slots in
      let choosers = day.counts.choosers in
      let p = all_below (length plan) (place_allowed slots day.optional plan) in
      let s = all_below slots λ slot. leb (sum_in day.mins plan slot) choosers && leb choosers (sum_in day.maxs plan slot) in
      let r = keeps_rows plan day.rows in
      let ps = and_left (p && s) r h in
      let each = all-each slots (λ slot. leb (sum_in day.mins plan slot) choosers && leb choosers (sum_in day.maxs plan slot)) (and_right p s ps) in
      record {
        places = λ choice hc. placed_means slots day.optional plan choice (all-each (length plan) (place_allowed slots day.optional plan) (and_left p s ps) choice hc);
        minimums = λ slot hs. leb-true _ _ (and_left (leb (sum_in day.mins plan slot) choosers) (leb choosers (sum_in day.maxs plan slot)) (each slot hs));
        maximums = λ slot hs. leb-true _ _ (and_right (leb (sum_in day.mins plan slot) choosers) (leb choosers (sum_in day.maxs plan slot)) (each slot hs));
        rows = λ i hi. all_of-each (λ number. keeps_row plan (row_of number)) day.rows 0 (and_right (p && s) r h) i hi;
      }

  pub feasible-by : Feasible day plan → feasible day plan ≡ true
  unfolding feasible places_allowed slot_fits keeps_rows
  feasible-by f =
      let slots = day.counts.slots in
      let choosers = day.counts.choosers in
      let p = all_below (length plan) (place_allowed slots day.optional plan) in
      let s = all_below slots λ slot. leb (sum_in day.mins plan slot) choosers && leb choosers (sum_in day.maxs plan slot) in
      let r = keeps_rows plan day.rows in
      and_both (p && s) r
      (and_both p s
      (each_all (length plan) (place_allowed slots day.optional plan) λ choice hc. placed_by slots day.optional plan choice (f.places choice hc))
      (each_all slots (λ slot. leb (sum_in day.mins plan slot) choosers && leb choosers (sum_in day.maxs plan slot))
      λ slot hs. and_both (leb (sum_in day.mins plan slot) choosers) (leb choosers (sum_in day.maxs plan slot)) (le-leb _ _ (f.minimums slot hs)) (le-leb _ _ (f.maximums slot hs))))
      (each-all_of (λ number. keeps_row plan (row_of number)) day.rows 0 f.rows)

  pub feasible-exactly : (feasible day plan ≡ true) ↔ Feasible day plan
  feasible-exactly = (feasible_means, feasible-by)

-- no sum passes 32 bits: 64 choices of 65,535 sum to 4,194,240
pub sums-fit : (amounts plan : List ℕ) (slot : ℕ) → length plan ≤ 64 → ((k : ℕ) → get_or amounts k 0 ≤ 65535) → sum_in amounts plan slot ≤ 4194240
unfolding sum_in
sums-fit amounts plan slot h b = omega (arith, sum_fits (λ choice. get_or amounts choice 0) plan (length plan) slot b)

-- a test that is equal to another holds exactly if what the other says does
by-test {ℓ} : {P : Type ℓ} {b t : Bool} → b ≡ t → (t ≡ true → P) → (P → t ≡ true) → (b ≡ true) ↔ P
by-test e f g = ((λ h. f (sym e ∙ h)), λ p. e ∙ g p)

-- the test of kind 4 holds exactly if equal bytes are 255: the two choices don't stand in one slot
pub differ_exactly : (plan : List ℕ) (left right : ℕ) → (slots_differ plan left right ≡ true) ↔ (slot_of plan left ≡ slot_of plan right → slot_of plan left ≡ 255)
differ_exactly plan left right = (there (ℕ_discrete (slot_of plan left) 255), back (ℕ_discrete (slot_of plan left) 255))
  where
    there : Dec (slot_of plan left ≡ 255) → slots_differ plan left right ≡ true → slot_of plan left ≡ slot_of plan right → slot_of plan left ≡ 255
    there (yes l) h e = l
    there (no l) h e = absurd (eqb-false _ _ (not-true _ (sym (differ_in plan left right l) ∙ h)) e)

    back : Dec (slot_of plan left ≡ 255) → (slot_of plan left ≡ slot_of plan right → slot_of plan left ≡ 255) → slots_differ plan left right ≡ true
    back (yes l) f = differ_out plan left right l
    back (no l) f = differ_in plan left right l ∙ ap not (ne_eqb _ _ λ e. l (f e))

-- what kind 5 asks: both choices are omitted, or both scheduled and as far apart as the signed offset says
pub data Apart (plan : List ℕ) (left right extra : ℕ) : Type 0 where
  both_out : slot_of plan left ≡ 255 → slot_of plan right ≡ 255 → Apart plan left right extra
  both_in : (slot_of plan left ≡ 255 → ⊥) → (slot_of plan right ≡ 255 → ⊥) → pos (slot_of plan right) -ℤ pos (slot_of plan left) ≡ signed_of extra
      → Apart plan left right extra

-- the test of kind 5 holds exactly if the choices are so far apart
pub offset-exactly : (plan : List ℕ) (left right extra : ℕ) → (offset_kept plan left right extra ≡ true) ↔ Apart plan left right extra
unfolding signed_of
offset-exactly plan left right extra = (go (ℕ_discrete (slot_of plan left) 255) (ℕ_discrete (slot_of plan right) 255), back)
  where
    go : Dec (slot_of plan left ≡ 255) → Dec (slot_of plan right ≡ 255) → offset_kept plan left right extra ≡ true → Apart plan left right extra
    go (yes l) r h = both_out l (eqb-true _ _ (sym (offset-left-out plan left right extra l) ∙ h))
    go (no l) (yes r) h = absurd (false≢true (sym (offset-right-out plan left right extra l r) ∙ h))
    go (no l) (no r) h =
        both_in l r
        (minus_is (slot_of plan right) (slot_of plan left)
        ∙ cross_same (slot_of plan right) (slot_of plan left) extra 32768
        (eqb-true _ _ (sym (offset-both plan left right extra l r) ∙ h) ∙ add_comm (slot_of plan left) extra))

    back : Apart plan left right extra → offset_kept plan left right extra ≡ true
    back (both_out l r) = offset-left-out plan left right extra l ∙ eq-eqb _ _ r
    back (both_in l r e) =
        offset-both plan left right extra l r
        ∙ eq-eqb _ _ (same_cross (slot_of plan right) (slot_of plan left) extra 32768 (sym (minus_is (slot_of plan right) (slot_of plan left)) ∙ e) ∙ add_comm extra (slot_of plan left))

-- what each kind of row asks of a plan, in plain words
module _ (plan : List ℕ) (row : Row) where
  -- '1: slot equals'
  pub kind_1 : row.kind ≡ 1 → (keeps_row plan row ≡ true) ↔ (slot_of plan row.left ≡ row.right)
  kind_1 k = by-test (keeps_in_slot plan row k) (eqb-true _ _) (eq-eqb _ _)

  -- '2: differs (omitted passes)'
  pub kind_2 : row.kind ≡ 2 → (keeps_row plan row ≡ true) ↔ (slot_of plan row.left ≡ row.right → ⊥)
  kind_2 k = by-test (keeps-not_in_slot plan row k) (λ h. eqb-false _ _ (not-true _ h)) λ n. ap not (ne_eqb _ _ n)

  -- '3: equal, both omitted passes'
  pub kind_3 : row.kind ≡ 3 → (keeps_row plan row ≡ true) ↔ (slot_of plan row.left ≡ slot_of plan row.right)
  kind_3 k = by-test (keeps-same-slot plan row k) (eqb-true _ _) (eq-eqb _ _)

  -- '4: fails only for equal slots'
  pub kind_4 : row.kind ≡ 4
      → (keeps_row plan row ≡ true) ↔ (slot_of plan row.left ≡ slot_of plan row.right → slot_of plan row.left ≡ 255)
  kind_4 k =
      let d = differ_exactly plan row.left row.right in
      by-test (keeps-not-same-slot plan row k) d.0 d.1

  -- '5: right slot minus left slot is the offset; both omitted passes, one omitted fails'
  pub kind_5 : row.kind ≡ 5 → (keeps_row plan row ≡ true) ↔ Apart plan row.left row.right row.extra
  kind_5 k =
      let a = offset-exactly plan row.left row.right row.extra in
      by-test (keeps-offset-row plan row k) a.0 a.1

  -- '6: count of choices in the slot against the limit', op by op
  module _ (k : row.kind ≡ 6) where
    pub kind_6_eq : row.extra ≡ eq_op → (keeps_row plan row ≡ true) ↔ (count_in plan row.left ≡ row.right)
    kind_6_eq e = by-test (keeps_limited_size plan row k ∙ op_eq _ _ _ e) (eqb-true _ _) (eq-eqb _ _)

    pub kind_6_neq : row.extra ≡ neq_op → (keeps_row plan row ≡ true) ↔ (count_in plan row.left ≡ row.right → ⊥)
    kind_6_neq e =
        by-test (keeps_limited_size plan row k ∙ op_neq _ _ _ e) (λ h. eqb-false _ _ (not-true _ h)) λ n. ap not (ne_eqb _ _ n)

    pub kind_6_gt : row.extra ≡ gt_op → (keeps_row plan row ≡ true) ↔ (row.right < count_in plan row.left)
    kind_6_gt e = by-test (keeps_limited_size plan row k ∙ op_gt _ _ _ e) (ltb-true _ _) (lt-ltb _ _)

    pub kind_6_lt : row.extra ≡ lt_op → (keeps_row plan row ≡ true) ↔ (count_in plan row.left < row.right)
    kind_6_lt e = by-test (keeps_limited_size plan row k ∙ op_lt _ _ _ e) (ltb-true _ _) (lt-ltb _ _)

    pub kind_6_geq : row.extra ≡ geq_op → (keeps_row plan row ≡ true) ↔ (row.right ≤ count_in plan row.left)
    kind_6_geq e = by-test (keeps_limited_size plan row k ∙ op_geq _ _ _ e) (leb-true _ _) (le-leb _ _)

    pub kind_6_leq : row.extra ≡ leq_op → (keeps_row plan row ≡ true) ↔ (count_in plan row.left ≤ row.right)
    kind_6_leq e = by-test (keeps_limited_size plan row k ∙ op_leq _ _ _ e) (leb-true _ _) (le-leb _ _)
