-- The exchange law: two twins exchanged in the places of the later choices turn a plan into a plan.
use mathlib.Core.Path.{◌≡◌, refl, sym, ◌∙◌, ap, ap₂}
use mathlib.Core.Bool.{Bool, true, false, ◌&&◌, ◌||◌, not, cond, false≢true}
use mathlib.Core.List.{List, [], ◌∷◌, ◌++◌, map}
use Prim.Native.Nat.{ℕ, zero, suc, ◌+◌, ◌≤◌, ◌<◌, min}
use native.Mathlib.Decide.{ℕ_discrete}
use native.Mathlib.Nat.{le_of_suc-le-suc, not-suc-le-zero}
use native.Mathlib.Omega.{arith}
use borrow.Author.Tests.{ltb-true, ltb-false, eqb-true, eqb-false, not-true}
use lib.Dec.{eqb, ltb}
use lib.ListN.{length, get_or}
use Rattle.base_lists.specs.Keep.{any_of}
use Rattle.base_lists.proofs.Below.{and_left, and_right}
use Rattle.day_rows.specs.Row.{row_of}
use Rattle.day_rows.specs.declared.row.Row.{Row}
use Rattle.plan_check.specs.Plan.{slot_of, omitted, sum_in}
use Rattle.plan_check.specs.Rows.{op_holds, slots_differ, offset_kept, keeps_row}
use Rattle.plan_check.proofs.RowLaws.{keeps_in_slot, keeps-not_in_slot, keeps-same-slot, keeps-not-same-slot, keeps-offset-row, keeps_limited_size, keeps_no_other}
use Rattle.plan_check.specs.Day.{Day}
use Rattle.plan_check.specs.Feasible.{feasible}
use Rattle.plan_check.specs.steps.Sums.{Sums}
use Rattle.plan_check.specs.PlanMeans.{Placed, Feasible}
use Rattle.plan_check.proofs.Meaning.{feasible_means, feasible-by}
use Rattle.list_twins.specs.steps.Twins.{offset_names, row_names, named, twins, exchanged}
use Rattle.list_twins.proofs.ExchangeLaws.{Moved, moved, exchange_other, exchange_both, exchange_lt, start_le, slot-start, other_length, slot-before, slot-after, slot-moved, slot_same, sum-exchanged, count_same}

-- ---- a list that names no slot

or_false : (a b : Bool) → (a || b) ≡ false → (a ≡ false) × (b ≡ false)
or_false true b h = absurd (false≢true (sym h))
or_false false b h = (refl, h)

-- each row of a list that names no slot names none
pub not_named : (start rows : List ℕ) (slot : ℕ) → named start rows slot ≡ false → (i : ℕ) → i < length rows → row_names start (row_of (get_or rows i 0)) slot ≡ false
unfolding named any_of
not_named start [] slot h i l = absurd (not-suc-le-zero l)
not_named start (number ∷ rows) slot h zero l = (or_false (row_names start (row_of number) slot) (named start rows slot) h).0
not_named start (number ∷ rows) slot h (suc i) l =
    not_named start rows slot (or_false (row_names start (row_of number) slot) (named start rows slot) h).1 i (le_of_suc-le-suc l)

-- ---- what a row that doesn't name a slot says of it

module _ (start : List ℕ) (row : Row) (slot : ℕ) (free : row_names start row slot ≡ false) where
  not_in_slot : row.kind ≡ 1 → row.right ≡ slot → ⊥
  unfolding row_names
  not_in_slot k = eqb-false row.right slot (rw k at free)

  not-out-slot : row.kind ≡ 2 → row.right ≡ slot → ⊥
  unfolding row_names
  not-out-slot k = eqb-false row.right slot (rw k at free)

  not_limited : row.kind ≡ 6 → row.left ≡ slot → ⊥
  unfolding row_names
  not_limited k = eqb-false row.left slot (rw k at free)

  -- kinds 3 and 4: neither of the two stands there
  pair-free : (eqb (slot_of start row.left) slot || eqb (slot_of start row.right) slot) ≡ false
      → (slot_of start row.left ≡ slot → ⊥) × (slot_of start row.right ≡ slot → ⊥)
  pair-free h =
      let e = or_false (eqb (slot_of start row.left) slot) (eqb (slot_of start row.right) slot) h in
      (eqb-false (slot_of start row.left) slot e.0, eqb-false (slot_of start row.right) slot e.1)

  not_beside : row.kind ≡ 3 → (slot_of start row.left ≡ slot → ⊥) × (slot_of start row.right ≡ slot → ⊥)
  unfolding row_names
  not_beside k = pair-free (rw k at free)

  not-apart : row.kind ≡ 4 → (slot_of start row.left ≡ slot → ⊥) × (slot_of start row.right ≡ slot → ⊥)
  unfolding row_names
  not-apart k = pair-free (rw k at free)

  -- kind 5, by who has a place
  not-offset : row.kind ≡ 5 → offset_names start row slot ≡ false
  unfolding row_names offset_names
  not-offset k = rw k at free

  not-right_of : offset_names start row slot ≡ false → ltb row.left (length start) ≡ true → eqb (slot_of start row.left) 255 ≡ false
      → eqb (slot + 32768) (slot_of start row.left + row.extra) ≡ false
  unfolding offset_names omitted
  not-right_of h t e = rw (t, e) at h

  not-left_of : offset_names start row slot ≡ false → ltb row.left (length start) ≡ false → ltb row.right (length start) ≡ true → eqb (slot_of start row.right) 255 ≡ false
      → eqb (slot_of start row.right + 32768) (slot + row.extra) ≡ false
  unfolding offset_names omitted
  not-left_of h t u e = rw (t, u, e) at h

  not_neither : offset_names start row slot ≡ false → ltb row.left (length start) ≡ false → ltb row.right (length start) ≡ false → ⊥
  unfolding offset_names
  not_neither h t u = absurd (false≢true (sym (rw (t, u) at h)))

-- ---- a row that names neither of the two is kept as before

-- a comparison that holds of neither slot holds of a place exactly if it does of the exchanged one
compare_moved : (x y : ℕ) (test : ℕ → Bool) → test x ≡ false → test y ≡ false → (place : ℕ) → test (exchanged x y place) ≡ test place
compare_moved x y test a b place = go (moved x y place)
  where
    go : Moved x y place → test (exchanged x y place) ≡ test place
    go (Moved.from-x e f) = ap test f ∙ b ∙ sym (ap test e ∙ a)
    go (Moved.from_y e f) = ap test f ∙ a ∙ sym (ap test e ∙ b)
    go (Moved.stays n m f) = ap test f

module _ (start rest : List ℕ) (x y : ℕ) (out : exchanged x y 255 ≡ 255) (row : Row) (free_x : row_names start row x ≡ false) (free_y : row_names start row y ≡ false) where
  -- the plan as it is and with the two exchanged, and where choices stand in each
  abbrev plan : List ℕ
  plan = start ++ rest

  abbrev turned : List ℕ
  turned = start ++ map (exchanged x y) rest

  abbrev old : ℕ → ℕ
  old choice = slot_of plan choice

  abbrev new : ℕ → ℕ
  new choice = slot_of turned choice

  -- kind 5 between two that are scheduled
  far_same : row.kind ≡ 5 → eqb (old row.left) 255 ≡ false → eqb (old row.right) 255 ≡ false
      → eqb (new row.right + 32768) (new row.left + row.extra) ≡ eqb (old row.right + 32768) (old row.left + row.extra)
  far_same k e f = go (ltb row.left (length start)) (ltb row.right (length start)) refl refl
    where
      left_at : ltb row.left (length start) ≡ true → old row.left ≡ slot_of start row.left
      left_at t = slot-start start rest row.left (ltb-true row.left (length start) t)

      right-at : ltb row.right (length start) ≡ true → old row.right ≡ slot_of start row.right
      right-at t = slot-start start rest row.right (ltb-true row.right (length start) t)

      -- right has no place yet, and goes with the exchange
      by_left : ltb row.left (length start) ≡ true → (place : ℕ)
          → eqb (exchanged x y place + 32768) (slot_of start row.left + row.extra) ≡ eqb (place + 32768) (slot_of start row.left + row.extra)
      by_left t =
          let n : eqb (slot_of start row.left) 255 ≡ false = ap (λ (p : ℕ). eqb p 255) (sym (left_at t)) ∙ e in
          compare_moved x y (λ place. eqb (place + 32768) (slot_of start row.left + row.extra))
          (not-right_of start row x free_x (not-offset start row x free_x k) t n) (not-right_of start row y free_y (not-offset start row y free_y k) t n)

      -- left has no place yet, and goes with the exchange
      by_right : ltb row.left (length start) ≡ false → ltb row.right (length start) ≡ true → (place : ℕ)
          → eqb (slot_of start row.right + 32768) (exchanged x y place + row.extra) ≡ eqb (slot_of start row.right + 32768) (place + row.extra)
      by_right t u =
          let n : eqb (slot_of start row.right) 255 ≡ false = ap (λ (p : ℕ). eqb p 255) (sym (right-at u)) ∙ f in
          compare_moved x y (λ place. eqb (slot_of start row.right + 32768) (place + row.extra))
          (not-left_of start row x free_x (not-offset start row x free_x k) t u n) (not-left_of start row y free_y (not-offset start row y free_y k) t u n)

      go : (a b : Bool) → ltb row.left (length start) ≡ a → ltb row.right (length start) ≡ b
          → eqb (new row.right + 32768) (new row.left + row.extra) ≡ eqb (old row.right + 32768) (old row.left + row.extra)
      go true true t u =
          ap₂ (λ (p q : ℕ). eqb (q + 32768) (p + row.extra)) (slot-before start rest x y out row.left (ltb-true row.left (length start) t))
          (slot-before start rest x y out row.right (ltb-true row.right (length start) u))
      go true false t u =
          ap₂ (λ (p q : ℕ). eqb (q + 32768) (p + row.extra)) (slot-before start rest x y out row.left (ltb-true row.left (length start) t) ∙ left_at t)
          (slot-after start rest x y out row.right (ltb-false row.right (length start) u))
          ∙ by_left t (old row.right)
          ∙ ap (λ (p : ℕ). eqb (old row.right + 32768) (p + row.extra)) (sym (left_at t))
      go false true t u =
          ap₂ (λ (p q : ℕ). eqb (q + 32768) (p + row.extra)) (slot-after start rest x y out row.left (ltb-false row.left (length start) t))
          (slot-before start rest x y out row.right (ltb-true row.right (length start) u) ∙ right-at u)
          ∙ by_right t u (old row.left)
          ∙ ap (λ (q : ℕ). eqb (q + 32768) (old row.left + row.extra)) (sym (right-at u))
      go false false t u = absurd (not_neither start row x free_x (not-offset start row x free_x k) t u)

  offset-same : row.kind ≡ 5 → offset_kept turned row.left row.right row.extra ≡ offset_kept plan row.left row.right row.extra
  unfolding offset_kept omitted
  offset-same k =
      rw (slot_same start rest x y out row.left 255 out, slot_same start rest x y out row.right 255 out)
      (go (eqb (old row.left) 255) (eqb (old row.right) 255) refl refl)
    where
      go : (a b : Bool) → eqb (old row.left) 255 ≡ a → eqb (old row.right) 255 ≡ b
          → cond a b (not b && eqb (new row.right + 32768) (new row.left + row.extra)) ≡ cond a b (not b && eqb (old row.right + 32768) (old row.left + row.extra))
      go true b e f = refl
      go false true e f = refl
      go false false e f = far_same k e f

  -- kinds 3 and 4: both go with the exchange
  differ_same : row.kind ≡ 4 → slots_differ turned row.left row.right ≡ slots_differ plan row.left row.right
  unfolding slots_differ omitted
  differ_same k =
      ap₂ (λ (a b : Bool). a || not b) (slot_same start rest x y out row.left 255 out)
      (ap₂ (λ (p q : ℕ). eqb p q) (slot-moved start rest x y out row.left (not-apart start row x free_x k).0 (not-apart start row y free_y k).0)
      (slot-moved start rest x y out row.right (not-apart start row x free_x k).1 (not-apart start row y free_y k).1)
      ∙ exchange_both x y (old row.left) (old row.right))

  beside_same : row.kind ≡ 3 → eqb (new row.left) (new row.right) ≡ eqb (old row.left) (old row.right)
  beside_same k =
      ap₂ (λ (p q : ℕ). eqb p q) (slot-moved start rest x y out row.left (not_beside start row x free_x k).0 (not_beside start row y free_y k).0)
      (slot-moved start rest x y out row.right (not_beside start row x free_x k).1 (not_beside start row y free_y k).1)
      ∙ exchange_both x y (old row.left) (old row.right)

  -- a row that names neither of the two is kept as before, by its kind
  pub row_same : keeps_row turned row ≡ keeps_row plan row
  row_same = one (ℕ_discrete row.kind 1)
    where
      six : (row.kind ≡ 1 → ⊥) → (row.kind ≡ 2 → ⊥) → (row.kind ≡ 3 → ⊥) → (row.kind ≡ 4 → ⊥) → (row.kind ≡ 5 → ⊥) → Dec (row.kind ≡ 6) → keeps_row turned row ≡ keeps_row plan row
      six a b c d e (yes k) =
          keeps_limited_size turned row k
          ∙ ap (λ (n : ℕ). op_holds row.extra n row.right) (count_same start rest x y out row.left (exchange_other x y row.left (not_limited start row x free_x k) (not_limited start row y free_y k)))
          ∙ sym (keeps_limited_size plan row k)
      six a b c d e (no n) = keeps_no_other turned row a b c d e n ∙ sym (keeps_no_other plan row a b c d e n)

      five : (row.kind ≡ 1 → ⊥) → (row.kind ≡ 2 → ⊥) → (row.kind ≡ 3 → ⊥) → (row.kind ≡ 4 → ⊥) → Dec (row.kind ≡ 5) → keeps_row turned row ≡ keeps_row plan row
      five a b c d (yes k) = keeps-offset-row turned row k ∙ offset-same k ∙ sym (keeps-offset-row plan row k)
      five a b c d (no n) = six a b c d n (ℕ_discrete row.kind 6)

      four : (row.kind ≡ 1 → ⊥) → (row.kind ≡ 2 → ⊥) → (row.kind ≡ 3 → ⊥) → Dec (row.kind ≡ 4) → keeps_row turned row ≡ keeps_row plan row
      four a b c (yes k) = keeps-not-same-slot turned row k ∙ differ_same k ∙ sym (keeps-not-same-slot plan row k)
      four a b c (no n) = five a b c n (ℕ_discrete row.kind 5)

      three : (row.kind ≡ 1 → ⊥) → (row.kind ≡ 2 → ⊥) → Dec (row.kind ≡ 3) → keeps_row turned row ≡ keeps_row plan row
      three a b (yes k) = keeps-same-slot turned row k ∙ beside_same k ∙ sym (keeps-same-slot plan row k)
      three a b (no n) = four a b n (ℕ_discrete row.kind 4)

      two : (row.kind ≡ 1 → ⊥) → Dec (row.kind ≡ 2) → keeps_row turned row ≡ keeps_row plan row
      two a (yes k) =
          keeps-not_in_slot turned row k
          ∙ ap not (slot_same start rest x y out row.left row.right (exchange_other x y row.right (not-out-slot start row x free_x k) (not-out-slot start row y free_y k)))
          ∙ sym (keeps-not_in_slot plan row k)
      two a (no n) = three a n (ℕ_discrete row.kind 3)

      one : Dec (row.kind ≡ 1) → keeps_row turned row ≡ keeps_row plan row
      one (yes k) =
          keeps_in_slot turned row k
          ∙ slot_same start rest x y out row.left row.right (exchange_other x y row.right (not_in_slot start row x free_x k) (not_in_slot start row y free_y k))
          ∙ sym (keeps_in_slot plan row k)
      one (no n) = two n (ℕ_discrete row.kind 2)

-- ---- the twins' facts

pub record Twins (slots choosers : ℕ) (start rows sums fills : List ℕ) (x y : ℕ) : Type 0 where
  pub one_in : x < slots
  pub other_in : y < slots
  pub one_free : named start rows x ≡ false
  pub other-free : named start rows y ≡ false
  pub same-sums : get_or sums x 0 ≡ get_or sums y 0
  pub same-fills : min (get_or fills x 0) choosers ≡ min (get_or fills y 0) choosers

pub twins_means : (slots choosers : ℕ) (start rows sums fills : List ℕ) (x y : ℕ) → twins slots choosers start rows sums fills x y ≡ true
    → Twins slots choosers start rows sums fills x y
unfolding twins
twins_means slots choosers start rows sums fills x y t =
    let a = ltb x slots in
    let b = ltb y slots in
    let c = not (named start rows x) in
    let d = not (named start rows y) in
    let e = eqb (get_or sums x 0) (get_or sums y 0) in
    let f = eqb (min (get_or fills x 0) choosers) (min (get_or fills y 0) choosers) in
    let t5 = and_left (a && b && c && d && e) f t in
    let t4 = and_left (a && b && c && d) e t5 in
    let t3 = and_left (a && b && c) d t4 in
    let t2 = and_left (a && b) c t3 in
    record {
      one_in = ltb-true x slots (and_left a b t2);
      other_in = ltb-true y slots (and_right a b t2);
      one_free = not-true (named start rows x) (and_right (a && b) c t3);
      other-free = not-true (named start rows y) (and_right (a && b && c) d t4);
      same-sums = eqb-true (get_or sums x 0) (get_or sums y 0) (and_right (a && b && c && d) e t5);
      same-fills = eqb-true (min (get_or fills x 0) choosers) (min (get_or fills y 0) choosers) (and_right (a && b && c && d && e) f t);
    }

-- ---- the law

pub twin-feasible : (day : Day) (start rest sums fills : List ℕ) (x y : ℕ) → day.counts.slots ≤ 24 → Sums day.mins start sums → Sums day.maxs start fills
    → twins day.counts.slots day.counts.choosers start day.rows sums fills x y ≡ true
    → length (start ++ rest) ≡ day.counts.choices → feasible day (start ++ rest) ≡ true → feasible day (start ++ map (exchanged x y) rest) ≡ true
unfolding Sums
twin-feasible day start rest sums fills x y few mins maxs alike size f =
    feasible-by day turned
    record {
      places = λ choice h. placed choice (whole.places choice (rw (other_length start rest x y out) at h));
      minimums = λ slot h. least slot h (both slot);
      maximums = λ slot h. most slot h (both slot);
      rows = λ i h. row_same start rest x y out (row_of (get_or day.rows i 0)) (not_named start day.rows x t.one_free i h) (not_named start day.rows y t.other-free i h) ∙ whole.rows i h;
    }
  where
    slots : ℕ
    slots = day.counts.slots

    turned : List ℕ
    turned = start ++ map (exchanged x y) rest

    t : Twins slots day.counts.choosers start day.rows sums fills x y
    t = twins_means slots day.counts.choosers start day.rows sums fills x y alike

    whole : Feasible day (start ++ rest)
    whole = feasible_means day (start ++ rest) f

    out : exchanged x y 255 ≡ 255
    out = exchange_other x y 255 (λ e. absurd (omega (arith, e, few, t.one_in))) (λ e. absurd (omega (arith, e, few, t.other_in)))

    placed : (choice : ℕ) → Placed slots day.optional (start ++ rest) choice → Placed slots day.optional turned choice
    placed choice p = go (ltb choice (length start)) refl p
      where
        go : (b : Bool) → ltb choice (length start) ≡ b → Placed slots day.optional (start ++ rest) choice → Placed slots day.optional turned choice
        go true u (Placed.scheduled h) = Placed.scheduled (rw (slot-before start rest x y out choice (ltb-true choice (length start) u)) h)
        go true u (Placed.left_out e o) = Placed.left_out (slot-before start rest x y out choice (ltb-true choice (length start) u) ∙ e) o
        go false u (Placed.scheduled h) =
            Placed.scheduled (rw (slot-after start rest x y out choice (ltb-false choice (length start) u)) (exchange_lt x y slots (slot_of (start ++ rest) choice) t.one_in t.other_in h))
        go false u (Placed.left_out e o) = Placed.left_out (slot-after start rest x y out choice (ltb-false choice (length start) u) ∙ ap (exchanged x y) e ∙ out) o

    -- the first choices' sums of a slot and of the exchanged one
    both : (slot : ℕ) → (sum_in day.mins start slot ≡ sum_in day.mins start (exchanged x y slot))
        × (min (sum_in day.maxs start slot) day.counts.choosers ≡ min (sum_in day.maxs start (exchanged x y slot)) day.counts.choosers)
    both slot = go (moved x y slot)
      where
        a : sum_in day.mins start x ≡ sum_in day.mins start y
        a = sym (mins x) ∙ t.same-sums ∙ mins y

        b : min (sum_in day.maxs start x) day.counts.choosers ≡ min (sum_in day.maxs start y) day.counts.choosers
        b = ap (λ (n : ℕ). min n day.counts.choosers) (sym (maxs x)) ∙ t.same-fills ∙ ap (λ (n : ℕ). min n day.counts.choosers) (maxs y)

        go : Moved x y slot → (sum_in day.mins start slot ≡ sum_in day.mins start (exchanged x y slot))
            × (min (sum_in day.maxs start slot) day.counts.choosers ≡ min (sum_in day.maxs start (exchanged x y slot)) day.counts.choosers)
        go (Moved.from-x e g) = rw (g, e) (a, b)
        go (Moved.from_y e g) = rw (g, e) (sym a, sym b)
        go (Moved.stays n m g) = rw g (refl, refl)

    least : (slot : ℕ) → slot < slots → (sum_in day.mins start slot ≡ sum_in day.mins start (exchanged x y slot))
        × (min (sum_in day.maxs start slot) day.counts.choosers ≡ min (sum_in day.maxs start (exchanged x y slot)) day.counts.choosers)
        → sum_in day.mins turned slot ≤ day.counts.choosers
    least slot h s =
        omega (arith, s.0, sum-exchanged start rest x y out day.mins slot, whole.minimums (exchanged x y slot) (exchange_lt x y slots slot t.one_in t.other_in h))

    most : (slot : ℕ) → slot < slots → (sum_in day.mins start slot ≡ sum_in day.mins start (exchanged x y slot))
        × (min (sum_in day.maxs start slot) day.counts.choosers ≡ min (sum_in day.maxs start (exchanged x y slot)) day.counts.choosers)
        → day.counts.choosers ≤ sum_in day.maxs turned slot
    most slot h s =
        omega (arith, s.1, sum-exchanged start rest x y out day.maxs slot, start_le start (map (exchanged x y) rest) day.maxs slot, whole.maximums (exchanged x y slot) (exchange_lt x y slots slot t.one_in t.other_in h))
