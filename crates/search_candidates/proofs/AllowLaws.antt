-- What the rows allow, row by row; and that a plan's own places are allowed: whatever is decided as the plan
-- has it, each row that the plan keeps allows the plan's place.
use mathlib.Core.Path.{◌≡◌, refl, sym, ◌∙◌, ap}
use mathlib.Core.Bool.{Bool, true, false, false≢true, or-true}
use mathlib.Core.List.{List, [], ◌∷◌}
use mathlib.Core.Logic.{◌↔◌, ◌⊎◌, ⊎_elim}
use Prim.Native.Nat.{ℕ, ◌+◌, ◌≤◌, ◌<◌}
use native.Mathlib.Decide.{ℕ_discrete}
use native.Mathlib.Omega.{arith}
use borrow.Author.Tests.{lt-ltb, ltb-true, leb-true, leb-false, eq-eqb, ne_eqb, eqb-true}
use lib.Dec.{eqb, leb}
use lib.ListN.{length, get_or}
use Rattle.base_lists.specs.Below.{one}
use Rattle.base_lists.proofs.All.{all_of-each, each-all_of}
use Rattle.base_lists.proofs.Below.{and_both, and_left, and_right}
use Rattle.day_rows.specs.Op.{eq_op, leq_op, lt_op}
use Rattle.day_rows.specs.Row.{row_of}
use Rattle.day_rows.specs.declared.row.Row.{Row}
use Rattle.plan_check.specs.Plan.{slot_of, omitted, count_in}
use Rattle.plan_check.specs.Rows.{op_holds, slots_differ, offset_kept, keeps_row, keeps_rows}
use Rattle.plan_check.proofs.RowLaws.{op_eq, op_leq, op_lt, keeps_in_slot, keeps-not_in_slot, keeps-same-slot, keeps-not-same-slot, keeps-offset-row, keeps_limited_size, keeps_no_other}
use Rattle.search_candidates.specs.Allow.{undecided, decision_of, is_undecided, ends_keep, pair_allows, room_for, room_allows, row_allows, each_allows, limit_holds, limits_hold, rows_allow}
use Rattle.search_candidates.proofs.CaseLaws.{keep_same, keep_differ, keep-offset, pair-left_open, pair-right_open, room_eq, room_leq, room_lt, room-other, room-elsewhere, room_tried, limit-none, limit-six, allows_in_slot, allows-not_in_slot, allows-pair, allows_limited_size}

-- the numbers allow the place exactly if each one's row does, and the whole exactly if the limits hold too
-- where they are asked
module _ (rows numbers decisions : List ℕ) (sizes : ℕ → ℕ) (choice place : ℕ) where
  pub each-allows : (each_allows rows numbers decisions sizes choice place ≡ true)
      ↔ ((k : ℕ) → k < length numbers → row_allows decisions sizes choice place (row_of (get_or rows (get_or numbers k 0) 0)) ≡ true)
  unfolding each_allows
  each-allows = (
    all_of-each (λ number. row_allows decisions sizes choice place (row_of (get_or rows number 0))) numbers 0,
    each-all_of (λ number. row_allows decisions sizes choice place (row_of (get_or rows number 0))) numbers 0,
  )

  pub rows-allow : (last : Bool)
      → (rows_allow rows numbers decisions sizes last choice place ≡ true)
      ↔ ((each_allows rows numbers decisions sizes choice place ≡ true) × (last ≡ true → limits_hold rows sizes place ≡ true))
  unfolding rows_allow
  rows-allow true =
      let e = each_allows rows numbers decisions sizes choice place in
      let l = limits_hold rows sizes place in
      ((λ h. (and_left e l h, λ t. and_right e l h)), λ h. and_both e l h.0 (h.1 refl))
  rows-allow false =
      let e = each_allows rows numbers decisions sizes choice place in
      ((λ h. (and_left e true h, λ t. absurd (false≢true t))), λ h. and_both e true h.0 refl)

-- a row of kind 3, 4 or 5 asks of a plan what it asks of the two places
module _ (plan : List ℕ) (row : Row) where
  pub differ_ends : (left right : ℕ) → slots_differ plan left right ≡ slots_differ (slot_of plan left ∷ slot_of plan right ∷ []) 0 1
  unfolding slots_differ omitted slot_of
  differ_ends left right = refl

  pub offset-ends : (left right extra : ℕ) → offset_kept plan left right extra ≡ offset_kept (slot_of plan left ∷ slot_of plan right ∷ []) 0 1 extra
  unfolding offset_kept omitted slot_of
  offset-ends left right extra = refl

  pub keeps-ends : 3 ≤ row.kind → row.kind ≤ 5 → keeps_row plan row ≡ ends_keep row (slot_of plan row.left) (slot_of plan row.right)
  keeps-ends from to =
      elim (ℕ_discrete row.kind 3) [
        | yes k ↦ keeps-same-slot plan row k ∙ sym (keep_same row (slot_of plan row.left) (slot_of plan row.right) k)
        | no a ↦ elim (ℕ_discrete row.kind 4) [
          | yes k ↦ keeps-not-same-slot plan row k ∙ differ_ends row.left row.right ∙ sym (keep_differ row (slot_of plan row.left) (slot_of plan row.right) k)
          | no b ↦
              let k : row.kind ≡ 5 = omega (arith, a, b) in
              keeps-offset-row plan row k ∙ offset-ends row.left row.right row.extra ∙ sym (keep-offset row (slot_of plan row.left) (slot_of plan row.right) k)
        ]
      ]

-- the two ends kept, from either end
module _ (decisions : List ℕ) (choice place : ℕ) (row : Row) where
  pub pair-right-kept : row.left ≡ choice → ends_keep row place (decision_of decisions row.right) ≡ true → pair_allows decisions choice place row ≡ true
  unfolding pair_allows
  pair-right-kept e k = rw (eq-eqb _ _ e, k) (or-true (is_undecided decisions row.right))

  pub pair-left-kept : (row.left ≡ choice → ⊥) → ends_keep row (decision_of decisions row.left) place ≡ true → pair_allows decisions choice place row ≡ true
  unfolding pair_allows
  pair-left-kept n k = rw (ne_eqb _ _ n, k) (or-true (is_undecided decisions row.left))

-- what a plan keeps, it is allowed to do
module _ (plan decisions : List ℕ) (sizes : ℕ → ℕ) (choice place : ℕ) (row : Row) (kept : keeps_row plan row ≡ true) where
  pub one_true : row.kind ≡ 1 → row.left ≡ choice → place ≡ slot_of plan choice → row_allows decisions sizes choice place row ≡ true
  one_true k e p =
      let same = ap (slot_of plan) e in
      allows_in_slot decisions sizes choice place row k ∙ rw (p, sym same) (sym (keeps_in_slot plan row k) ∙ kept)

  pub two_true : row.kind ≡ 2 → row.left ≡ choice → place ≡ slot_of plan choice → row_allows decisions sizes choice place row ≡ true
  two_true k e p =
      let same = ap (slot_of plan) e in
      allows-not_in_slot decisions sizes choice place row k ∙ rw (p, sym same) (sym (keeps-not_in_slot plan row k) ∙ kept)

  -- each end of the row that is decided stands where the plan has it
  pub pair_true : 3 ≤ row.kind → row.kind ≤ 5 → place ≡ slot_of plan choice → (choice ≡ row.left) ⊎ (choice ≡ row.right)
      → (decision_of decisions row.left ≡ undecided) ⊎ (decision_of decisions row.left ≡ slot_of plan row.left)
      → (decision_of decisions row.right ≡ undecided) ⊎ (decision_of decisions row.right ≡ slot_of plan row.right)
      → row_allows decisions sizes choice place row ≡ true
  pair_true from to p end left right = allows-pair decisions sizes choice place row from to ∙ go (ℕ_discrete row.left choice)
    where
      ends : ends_keep row (slot_of plan row.left) (slot_of plan row.right) ≡ true
      ends = sym (keeps-ends plan row from to) ∙ kept

      on-right : (row.left ≡ choice → ⊥) → choice ≡ row.right
      on-right n = ⊎_elim (λ e. absurd (n (sym e))) (λ e. e) end

      go : Dec (row.left ≡ choice) → pair_allows decisions choice place row ≡ true
      go (yes e) =
          ⊎_elim (pair-right_open decisions choice place row e)
          (λ (s : decision_of decisions row.right ≡ slot_of plan row.right). pair-right-kept decisions choice place row e (rw (p, s, sym e) ends))
          right
      go (no n) =
          ⊎_elim (pair-left_open decisions choice place row n)
          (λ (s : decision_of decisions row.left ≡ slot_of plan row.left). pair-left-kept decisions choice place row n (rw (p, s, on-right n) ends))
          left

-- what an op asks of the whole count leaves room for one more below it
pub room-left : (op count total limit : ℕ) → op_holds op total limit ≡ true → count + 1 ≤ total → room_for op count limit ≡ true
room-left op count total limit h up =
    elim (ℕ_discrete op eq_op) [
      | yes e ↦
          let same = eqb-true total limit (sym (op_eq op total limit e) ∙ h) in
          room_eq op count limit e ∙ lt-ltb count limit (omega arith)
      | no a ↦ elim (ℕ_discrete op leq_op) [
        | yes e ↦
            let most = leb-true total limit (sym (op_leq op total limit e) ∙ h) in
            room_leq op count limit e ∙ lt-ltb count limit (omega arith)
        | no b ↦ elim (ℕ_discrete op lt_op) [
          | yes e ↦
              let less = ltb-true total limit (sym (op_lt op total limit e) ∙ h) in
              room_lt op count limit e ∙ lt-ltb (count + 1) limit (omega arith)
          | no c ↦ room-other op count limit a b c
        ]
      ]
    ]

module _ (plan decisions : List ℕ) (sizes : ℕ → ℕ) (choice place : ℕ) (row : Row) (kept : keeps_row plan row ≡ true) where
  -- where the slot is tried, the plan has more choices in it than are decided
  pub room_true : row.kind ≡ 6 → (place ≡ row.left → sizes row.left + 1 ≤ count_in plan row.left) → row_allows decisions sizes choice place row ≡ true
  room_true k more = allows_limited_size decisions sizes choice place row k ∙ go (ℕ_discrete place row.left)
    where
      go : Dec (place ≡ row.left) → room_allows sizes place row ≡ true
      go (yes e) =
          room_tried sizes place row e
          ∙ room-left row.extra (sizes row.left) (count_in plan row.left) row.right (sym (keeps_limited_size plan row k) ∙ kept) (more e)
      go (no n) = room-elsewhere sizes place row n

  -- any row that the plan keeps, where what is decided stands as in the plan: kinds 1 to 5 name the choice,
  -- kind 6 has room for it
  pub row_true : place ≡ slot_of plan choice → (row.kind ≤ 2 → row.left ≡ choice) → (3 ≤ row.kind → row.kind ≤ 5 → (choice ≡ row.left) ⊎ (choice ≡ row.right))
      → ((end : ℕ) → (decision_of decisions end ≡ undecided) ⊎ (decision_of decisions end ≡ slot_of plan end))
      → (row.kind ≡ 6 → place ≡ row.left → sizes row.left + 1 ≤ count_in plan row.left)
      → row_allows decisions sizes choice place row ≡ true
  row_true p own end decided more =
      elim (ℕ_discrete row.kind 1) [
        | yes k ↦ one_true plan decisions sizes choice place row kept k (own (omega arith)) p
        | no a ↦ elim (ℕ_discrete row.kind 2) [
          | yes k ↦ two_true plan decisions sizes choice place row kept k (own (omega arith)) p
          | no b ↦ elim (ℕ_discrete row.kind 6) [
            | yes k ↦ room_true k (more k)
            | no f ↦ pairs a b f
          ]
        ]
      ]
    where
      pairs : (row.kind ≡ 1 → ⊥) → (row.kind ≡ 2 → ⊥) → (row.kind ≡ 6 → ⊥) → row_allows decisions sizes choice place row ≡ true
      pairs a b f = go (leb 3 row.kind) refl (leb row.kind 5) refl
        where
          go : (s : Bool) → leb 3 row.kind ≡ s → (t : Bool) → leb row.kind 5 ≡ t → row_allows decisions sizes choice place row ≡ true
          go true from true to =
              let h = leb-true 3 row.kind from in
              let l = leb-true row.kind 5 to in
              pair_true plan decisions sizes choice place row kept h l p (end h l) (decided row.left) (decided row.right)
          go true from false to =
              let l = leb-false row.kind 5 to in
              absurd (false≢true (sym (keeps_no_other plan row a b (λ e. omega arith) (λ e. omega arith) (λ e. omega arith) f) ∙ kept))
          go false from t to =
              let h = leb-false 3 row.kind from in
              absurd (false≢true (sym (keeps_no_other plan row a b (λ e. omega arith) (λ e. omega arith) (λ e. omega arith) f) ∙ kept))

-- the full test is the plan's own where the counts are the plan's
module _ (plan : List ℕ) (sizes : ℕ → ℕ) (place : ℕ) (row : Row) where
  pub limit_is : row.kind ≡ 6 → sizes row.left + one (eqb place row.left) ≡ count_in plan row.left → limit_holds sizes place row ≡ keeps_row plan row
  limit_is k same =
      limit-six sizes place row k ∙ ap (λ (count : ℕ). op_holds row.extra count row.right) same ∙ sym (keeps_limited_size plan row k)

  pub limit_true : keeps_row plan row ≡ true → (row.kind ≡ 6 → sizes row.left + one (eqb place row.left) ≡ count_in plan row.left) → limit_holds sizes place row ≡ true
  limit_true kept same =
      elim (ℕ_discrete row.kind 6) [
        | yes k ↦ limit_is k (same k) ∙ kept
        | no n ↦ limit-none sizes place row n
      ]

module _ (plan rows : List ℕ) (sizes : ℕ → ℕ) (place : ℕ) where
  -- each slot that a row of kind 6 names has, with this choice, as many choices as in the plan
  abbrev pub CountsAs : Type 0
  CountsAs =
      (k : ℕ) → k < length rows → (row_of (get_or rows k 0)).kind ≡ 6
      → sizes (row_of (get_or rows k 0)).left + one (eqb place (row_of (get_or rows k 0)).left) ≡ count_in plan (row_of (get_or rows k 0)).left

  pub limits_true : keeps_rows plan rows ≡ true → CountsAs → limits_hold rows sizes place ≡ true
  unfolding keeps_rows limits_hold
  limits_true kept same =
      each-all_of (λ number. limit_holds sizes place (row_of number)) rows 0
      λ k hk. limit_true plan sizes place (row_of (get_or rows k 0)) (all_of-each (λ number. keeps_row plan (row_of number)) rows 0 kept k hk) (same k hk)

  -- where the full test passes, the plan keeps every row of kind 6
  pub full_test : limits_hold rows sizes place ≡ true → CountsAs → (k : ℕ) → k < length rows → (row_of (get_or rows k 0)).kind ≡ 6 → keeps_row plan (row_of (get_or rows k 0)) ≡ true
  unfolding limits_hold
  full_test holds same k hk six =
      sym (limit_is plan sizes place (row_of (get_or rows k 0)) six (same k hk six)) ∙ all_of-each (λ number. limit_holds sizes place (row_of number)) rows 0 holds k hk
