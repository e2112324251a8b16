-- The rows allow what a good plan does: the own map's rows of the choice, and at the last depth every limit.
use mathlib.Core.Path.{◌≡◌, refl, sym, ◌∙◌}
use mathlib.Core.Bool.{Bool, true, false, ◌||◌, false≢true}
use mathlib.Core.List.{List}
use mathlib.Core.Logic.{◌⊎◌, inl, inr, ⊎_elim}
use Prim.Native.Nat.{ℕ, suc, ◌+◌, ◌≤◌, ◌<◌}
use native.Mathlib.Omega.{arith}
use borrow.Author.Tests.{leb-true, eqb-true, eq-eqb, ne_eqb}
use native.Mathlib.Decide.{ℕ_discrete}
use lib.Dec.{eqb, leb}
use lib.ListN.{length, get_or}
use Rattle.base_lists.specs.Below.{one}
use Rattle.base_lists.proofs.Below.{and_left, and_right}
use Rattle.base_lists.proofs.All.{each-all_of}
use Rattle.base_lists.proofs.Flat.{get_d_list}
use Rattle.base_lists.proofs.Partition.{get_d_in}
use Rattle.day_rows.specs.Row.{row_of}
use Rattle.day_rows.specs.declared.row.Row.{Row}
use Rattle.plan_check.specs.Day.{Day}
use Rattle.plan_check.specs.Plan.{slot_of, count_in, sum_up_to}
use Rattle.plan_check.specs.Rows.{keeps_row, keeps_rows}
use Rattle.plan_check.specs.PlanMeans.{Feasible}
use Rattle.search_map.specs.Map.{names_left, names_right, has_left, has_right, concerns, own_entry}
use Rattle.search_map.proofs.OwnMap.{own-member}
use Rattle.search_candidates.specs.Allow.{each_allows, rows_allow}
use Rattle.search_candidates.proofs.AllowLaws.{each-allows, rows-allow, row_true, limits_true}
use Rattle.search_candidates.specs.Loads.{size_of}
use Rattle.search_rules.specs.Decided.{decided, loads_at}
use Rattle.search_rules.proofs.Along.{Arranged, GoesOn, decided-length, decided_or}
use Rattle.search_rules.proofs.SumsAlong.{adds_own, adds_none, count-in, at_least, last-is}

-- ---- rows that concern a choice

module _ (choice : ℕ) (row : Row) where
  -- a row concerns a choice by kind 6, or with the choice left or right
  pub concerns-ways : concerns choice row ≡ true → (row.kind ≡ 6) ⊎ ((has_left choice row ≡ true) ⊎ (has_right choice row ≡ true))
  unfolding concerns
  concerns-ways h = go (eqb row.kind 6) refl (has_left choice row) refl (has_right choice row) refl h
    where
      go : (six : Bool) → eqb row.kind 6 ≡ six → (left : Bool) → has_left choice row ≡ left → (right : Bool) → has_right choice row ≡ right
          → (six || left || right) ≡ true → (row.kind ≡ 6) ⊎ ((has_left choice row ≡ true) ⊎ (has_right choice row ≡ true))
      go true s left l right r h = inl (eqb-true row.kind 6 s)
      go false s true l right r h = inr (inl l)
      go false s false l true r h = inr (inr r)
      go false s false l false r h = absurd (false≢true h)

  left_is : has_left choice row ≡ true → (1 ≤ row.kind) × (row.kind ≤ 5) × (row.left ≡ choice)
  unfolding has_left names_left
  left_is h =
      let k = and_left (names_left row.kind) (eqb row.left choice) h in (
        leb-true 1 row.kind (and_left (leb 1 row.kind) (leb row.kind 5) k),
        leb-true row.kind 5 (and_right (leb 1 row.kind) (leb row.kind 5) k),
        eqb-true row.left choice (and_right (names_left row.kind) (eqb row.left choice) h),
      )

  right_is : has_right choice row ≡ true → (3 ≤ row.kind) × (row.kind ≤ 5) × (row.right ≡ choice)
  unfolding has_right names_right
  right_is h =
      let k = and_left (names_right row.kind) (eqb row.right choice) h in (
        leb-true 3 row.kind (and_left (leb 3 row.kind) (leb row.kind 5) k),
        leb-true row.kind 5 (and_right (leb 3 row.kind) (leb row.kind 5) k),
        eqb-true row.right choice (and_right (names_right row.kind) (eqb row.right choice) h),
      )

  -- a row of kind 1 or 2 concerns the choice left
  pub concerns-one : concerns choice row ≡ true → row.kind ≤ 2 → row.left ≡ choice
  concerns-one h k =
      ⊎_elim (λ (six : row.kind ≡ 6). absurd (omega arith))
      (λ ends. ⊎_elim (λ l. (left_is l).2) (λ r. let f : 3 ≤ row.kind = (right_is r).0 in absurd (omega arith)) ends)
      (concerns-ways h)

  -- a row of kind 3 to 5 concerns the choice left or right
  pub concerns-pair : concerns choice row ≡ true → 3 ≤ row.kind → row.kind ≤ 5 → (choice ≡ row.left) ⊎ (choice ≡ row.right)
  concerns-pair h from to =
      ⊎_elim (λ (six : row.kind ≡ 6). absurd (omega arith))
      (λ ends. ⊎_elim (λ l. inl (sym (left_is l).2)) (λ r. inr (sym (right_is r).2)) ends)
      (concerns-ways h)

-- ---- a good plan

-- a plan of C bytes that passes the check
pub record GoodPlan (day : Day) (plan : List ℕ) : Type 0 where
  pub long : length plan ≡ day.counts.choices
  pub passes : Feasible day plan

-- rows of kind 6 name slots of the day, as the table asks
abbrev pub LimitsName : Day → Type 0
LimitsName day = (i : ℕ) → i < length day.rows → (row_of (get_or day.rows i 0)).kind ≡ 6 → (row_of (get_or day.rows i 0)).left < day.counts.slots

-- what a slot has so far, as it is listed
pub sizes-at : (mins maxs decisions : List ℕ) (slot : ℕ) → slot < 24 → size_of (loads_at mins maxs decisions) slot ≡ count_in decisions slot
unfolding size_of loads_at
sizes-at mins maxs decisions slot h = get_d_list 24 (count_in decisions) slot 0 h

module _ (day : Day) (order : List ℕ) (arranged : Arranged day.counts.choices order) (few : day.counts.choices ≤ 64) (slots_in : day.counts.slots ≤ 24) (named : LimitsName day)
    (plan : List ℕ) (good : GoodPlan day plan) (places : List ℕ) (goes : GoesOn day.counts.choices order places plan) (on : length places < day.counts.choices) where
  abbrev choice : ℕ
  choice = get_or order (length places) 0

  abbrev sizes : ℕ → ℕ
  sizes = size_of (loads_at day.mins day.maxs (decided order places))

  -- the count of a slot so far
  sizes-is : (slot : ℕ) → slot < day.counts.slots → sizes slot ≡ sum_up_to 64 (λ c. 1) (decided order places) slot
  sizes-is slot h =
      sizes-at day.mins day.maxs (decided order places) slot (omega arith) ∙ count-in (decided order places) slot 64 (decided-length order places)

  plan-is : (slot : ℕ) → count_in plan slot ≡ sum_up_to day.counts.choices (λ c. 1) plan slot
  plan-is slot = count-in plan slot day.counts.choices good.long

  -- where the plan has this choice in a slot, it has more there than are decided
  pub room_for-one : (slot : ℕ) → slot < day.counts.slots → slot_of plan choice ≡ slot → sizes slot + 1 ≤ count_in plan slot
  room_for-one slot h e =
      omega (arith, sizes-is slot h, plan-is slot, at_least day.counts.choices order arranged few plan (λ c. 1) slot (omega arith) places goes on e)

  -- at the last depth the counts with this choice are the plan's
  pub counts-last : suc (length places) ≡ day.counts.choices → (slot : ℕ) → slot < day.counts.slots → sizes slot + one (eqb (slot_of plan choice) slot) ≡ count_in plan slot
  unfolding one
  counts-last l slot h =
      let all = last-is day.counts.choices order arranged few plan (λ c. 1) slot (omega arith) places goes l in
      elim (ℕ_discrete (slot_of plan choice) slot) [
        | yes e ↦
            let b : one (eqb (slot_of plan choice) slot) ≡ 1 = rw (eq-eqb (slot_of plan choice) slot e) in
            omega (arith, sizes-is slot h, plan-is slot, all, b, adds_own (λ c. 1) plan slot choice e (omega arith))
        | no n ↦
            let b : one (eqb (slot_of plan choice) slot) ≡ 0 = rw (ne_eqb (slot_of plan choice) slot n) in
            omega (arith, sizes-is slot h, plan-is slot, all, b, adds_none (λ c. 1) plan slot choice n)
      ]

  -- each of the choice's own rows allows the plan's place
  pub own_allow : each_allows day.rows (own_entry day.rows choice) (decided order places) sizes choice (slot_of plan choice) ≡ true
  own_allow =
      (each-allows day.rows (own_entry day.rows choice) (decided order places) sizes choice (slot_of plan choice)).1
      λ k hk.
      let number = get_or (own_entry day.rows choice) k 0 in
      let row = row_of (get_or day.rows number 0) in
      let m = own-member day.rows choice number (get_d_in (own_entry day.rows choice) k 0 hk) in
      row_true plan (decided order places) sizes choice (slot_of plan choice) row (good.passes.rows number m.0) refl
      (concerns-one choice row m.1) (concerns-pair choice row m.1)
      (decided_or day.counts.choices order arranged few plan places goes)
      (λ six e. room_for-one row.left (named number m.0 six) e)

  -- the plan keeps every row
  keeps-all : keeps_rows plan day.rows ≡ true
  unfolding keeps_rows
  keeps-all = each-all_of (λ number. keeps_row plan (row_of number)) day.rows 0 good.passes.rows

  -- 'Rows allow' the plan's place
  pub plan-allowed : (last : Bool) → (last ≡ true → suc (length places) ≡ day.counts.choices)
      → rows_allow day.rows (own_entry day.rows choice) (decided order places) sizes last choice (slot_of plan choice) ≡ true
  plan-allowed last is_last =
      (rows-allow day.rows (own_entry day.rows choice) (decided order places) sizes choice (slot_of plan choice) last).1 (
        own_allow,
        λ l.
            limits_true plan day.rows sizes (slot_of plan choice) keeps-all
            λ k hk six. counts-last (is_last l) (row_of (get_or day.rows k 0)).left (named k hk six),
      )
