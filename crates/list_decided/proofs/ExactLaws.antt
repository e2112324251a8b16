-- What is decided with a choice: a row told by the start alone stays so, and what rows leave of a choice's
-- places is what the plan check's sentences say.
use mathlib.Core.Path.{◌≡◌, refl, sym, ◌∙◌, ap, ap₂}
use mathlib.Core.Bool.{Bool, true, false, ◌&&◌, ◌||◌, not, cond, and-true, and-false, and_assoc}
use mathlib.Core.List.{List, [], ◌∷◌, ◌++◌}
use mathlib.Core.Logic.{◌⊎◌, inl, inr}
use Prim.Native.Nat.{ℕ, zero, suc, ◌+◌, ◌-◌, ◌≤◌, ◌<◌, max}
use native.Mathlib.Decide.{ℕ_discrete}
use native.Mathlib.Omega.{arith}
use borrow.Author.Tests.{lt-ltb, le-ltb, eq-eqb, ne_eqb, ltb-true, ltb-false, leb-true, leb-false, eqb-true, eqb-false}
use lib.Dec.{eqb, ltb, leb}
use lib.ListN.{length, get_or, take, drop, length-append, take-append-drop, get_or-append}
use lib.Seq.{get_or-append_seam, get_or-take}
use Rattle.base_lists.specs.All.{all_of}
use Rattle.base_lists.proofs.All.{all_append}
use Rattle.day_rows.specs.Row.{row_of}
use Rattle.day_rows.specs.declared.row.Row.{Row}
use Rattle.day_rows.proofs.RowLaws.{row_fits}
use Rattle.plan_check.specs.Plan.{slot_of, omitted}
use Rattle.plan_check.specs.Rows.{slots_differ, offset_kept, keeps_row, keeps_rows}
use Rattle.plan_check.proofs.RowLaws.{keeps_in_slot, keeps-not_in_slot, keeps-same-slot, keeps-not-same-slot, keeps-offset-row}
use Rattle.base_choice_sets.specs.Sets.{has}
use Rattle.base_choice_sets.proofs.SetLaws.{same_test, has-past}
use Rattle.list_domains.specs.steps.Domains.{kept_places}
use Rattle.list_domains.proofs.DomainLaws.{number_in, number-out, kept-has}
use Rattle.list_nodes.specs.steps.Walk.{place_of}
use Rattle.list_decided.specs.steps.Decided.{with_slot, later_choice, last_of, front_of}
use Rattle.list_decided.specs.steps.Leaves.{other_place, beside_place, apart_from, facing, by_offset, row_leaves, rows_leave}
use Rattle.list_decided.proofs.LeavesLaws.{other-right, other-left, apart-omitted, apart-slot, facing-below, facing-past, facing-at, offset-omitted, offset-left, offset-right, leaves_in_slot, leaves-not_in_slot, leaves-same-slot, leaves-not-same-slot, leaves-offset}

-- ---- which rows are decided

-- one of two choices is the last, and the other comes before it
pub data Ends (left right last : ℕ) : Type 0 where
  left-last : left ≡ last → right < last → Ends left right last
  right-last : right ≡ last → left < last → Ends left right last

-- a row that is decided with a choice, by its kind
pub data DecidedWith (slots : ℕ) (row : Row) (last : ℕ) : Type 0 where
  in_slot : row.kind ≡ 1 → row.right < slots → row.left ≡ last → DecidedWith slots row last
  not_in_slot : row.kind ≡ 2 → row.right < slots → row.left ≡ last → DecidedWith slots row last
  same-slot : row.kind ≡ 3 → Ends row.left row.right last → DecidedWith slots row last
  not-same-slot : row.kind ≡ 4 → Ends row.left row.right last → DecidedWith slots row last
  offset : row.kind ≡ 5 → Ends row.left row.right last → DecidedWith slots row last

-- kinds 1 and 2: a choice that is the last names a slot of the day
slot-decided : (slots choice slot last : ℕ) → with_slot slots choice slot ≡ last → last < 65536 → (slot < slots) × (choice ≡ last)
unfolding with_slot
slot-decided slots choice slot last e h = go (ltb slot slots) refl e
  where
    go : (b : Bool) → ltb slot slots ≡ b → cond b choice 65536 ≡ last → (slot < slots) × (choice ≡ last)
    go true t e = (ltb-true slot slots t, e)
    go false t e = absurd (omega (arith, e, h))

-- kinds 3 to 5: one of the two is the last
pair-decided : (left right last : ℕ) → later_choice left right ≡ last → last < 65536 → Ends left right last
unfolding later_choice
pair-decided left right last e h = go (eqb left right) refl e
  where
    by : (b : Bool) → ltb left right ≡ b → (left ≡ right → ⊥) → max left right ≡ last → Ends left right last
    by true t n e =
        let l : left < right = ltb-true left right t in
        Ends.right-last (omega (arith, l, e)) (omega (arith, l, e))
    by false t n e =
        let l : right ≤ left = ltb-false left right t in
        Ends.left-last (omega (arith, l, e)) (elim (ℕ_discrete left right) [ yes f ↦ absurd (n f) | no m ↦ omega (arith, l, e, m) ])

    go : (b : Bool) → eqb left right ≡ b → cond b 65536 (max left right) ≡ last → Ends left right last
    go true t e = absurd (omega (arith, e, h))
    go false t e = by (ltb left right) refl (eqb-false left right t) e

module _ (slots : ℕ) (row : Row) where
  last_in_slot : row.kind ≡ 1 → last_of slots row ≡ with_slot slots row.left row.right
  unfolding last_of
  last_in_slot e = rw e

  last-not_in_slot : row.kind ≡ 2 → last_of slots row ≡ with_slot slots row.left row.right
  unfolding last_of
  last-not_in_slot e = rw e

  last-same-slot : row.kind ≡ 3 → last_of slots row ≡ later_choice row.left row.right
  unfolding last_of
  last-same-slot e = rw e

  last-not-same-slot : row.kind ≡ 4 → last_of slots row ≡ later_choice row.left row.right
  unfolding last_of
  last-not-same-slot e = rw e

  last-offset : row.kind ≡ 5 → last_of slots row ≡ later_choice row.left row.right
  unfolding last_of
  last-offset e = rw e

  last-never : (row.kind ≡ 1 → ⊥) → (row.kind ≡ 2 → ⊥) → (row.kind ≡ 3 → ⊥) → (row.kind ≡ 4 → ⊥) → (row.kind ≡ 5 → ⊥) → last_of slots row ≡ 65536
  unfolding last_of
  last-never a b c d e = rw (ne_eqb row.kind 1 a, ne_eqb row.kind 2 b, ne_eqb row.kind 3 c, ne_eqb row.kind 4 d, ne_eqb row.kind 5 e)

  pub decided : (last : ℕ) → last_of slots row ≡ last → last < 65536 → DecidedWith slots row last
  decided last e h = one (ℕ_discrete row.kind 1)
    where
      five : (row.kind ≡ 1 → ⊥) → (row.kind ≡ 2 → ⊥) → (row.kind ≡ 3 → ⊥) → (row.kind ≡ 4 → ⊥) → Dec (row.kind ≡ 5) → DecidedWith slots row last
      five n o p q (yes k) = DecidedWith.offset k (pair-decided row.left row.right last (sym (last-offset k) ∙ e) h)
      five n o p q (no m) = let f : last_of slots row ≡ 65536 = last-never n o p q m in absurd (omega (arith, e, f, h))

      four : (row.kind ≡ 1 → ⊥) → (row.kind ≡ 2 → ⊥) → (row.kind ≡ 3 → ⊥) → Dec (row.kind ≡ 4) → DecidedWith slots row last
      four n o p (yes k) = DecidedWith.not-same-slot k (pair-decided row.left row.right last (sym (last-not-same-slot k) ∙ e) h)
      four n o p (no m) = five n o p m (ℕ_discrete row.kind 5)

      three : (row.kind ≡ 1 → ⊥) → (row.kind ≡ 2 → ⊥) → Dec (row.kind ≡ 3) → DecidedWith slots row last
      three n o (yes k) = DecidedWith.same-slot k (pair-decided row.left row.right last (sym (last-same-slot k) ∙ e) h)
      three n o (no m) = four n o m (ℕ_discrete row.kind 4)

      two : (row.kind ≡ 1 → ⊥) → Dec (row.kind ≡ 2) → DecidedWith slots row last
      two n (yes k) =
          let d = slot-decided slots row.left row.right last (sym (last-not_in_slot k) ∙ e) h in
          DecidedWith.not_in_slot k d.0 d.1
      two n (no m) = three n m (ℕ_discrete row.kind 3)

      one : Dec (row.kind ≡ 1) → DecidedWith slots row last
      one (yes k) =
          let d = slot-decided slots row.left row.right last (sym (last_in_slot k) ∙ e) h in
          DecidedWith.in_slot k d.0 d.1
      one (no m) = two m (ℕ_discrete row.kind 2)

-- ---- a decided row stays as it is

-- sentences on two choices depend on where these two stand
abbrev differ_of : ℕ → ℕ → Bool
differ_of left right = eqb left 255 || not (eqb left right)

abbrev offset_of : ℕ → ℕ → ℕ → Bool
offset_of left right extra = cond (eqb left 255) (eqb right 255) (not (eqb right 255) && eqb (right + 32768) (left + extra))

differ_by : (plan : List ℕ) (left right a b : ℕ) → slot_of plan left ≡ a → slot_of plan right ≡ b → slots_differ plan left right ≡ differ_of a b
unfolding slots_differ omitted
differ_by plan left right a b e f = rw (e, f)

offset-by : (plan : List ℕ) (left right extra a b : ℕ) → slot_of plan left ≡ a → slot_of plan right ≡ b → offset_kept plan left right extra ≡ offset_of a b extra
unfolding offset_kept omitted
offset-by plan left right extra a b e f = rw (e, f)

-- a choice before the end of the start stands where it stood
slot-before : (start rest : List ℕ) (choice : ℕ) → choice < length start → slot_of (start ++ rest) choice ≡ slot_of start choice
unfolding slot_of
slot-before start rest choice h = get_or-append start rest 255 choice h

-- the next choice stands where it was put
slot_next : (start : List ℕ) (place : ℕ) → slot_of (start ++ (place ∷ [])) (length start) ≡ place
unfolding slot_of
slot_next start place = get_or-append_seam start place [] 255

ends-below : (left right last n : ℕ) → Ends left right last → last < n → (left < n) × (right < n)
ends-below left right last n (Ends.left-last e h) l = (omega (arith, e, l), omega (arith, h, l))
ends-below left right last n (Ends.right-last e h) l = (omega (arith, h, l), omega (arith, e, l))

pub row_stays : (slots : ℕ) (start rest : List ℕ) (row : Row) → length start ≤ 65536 → last_of slots row < length start
    → keeps_row (start ++ rest) row ≡ keeps_row start row
row_stays slots start rest row n h = go (decided slots row (last_of slots row) refl (omega arith))
  where
    stays : (choice : ℕ) → choice < length start → slot_of (start ++ rest) choice ≡ slot_of start choice
    stays = slot-before start rest

    go : DecidedWith slots row (last_of slots row) → keeps_row (start ++ rest) row ≡ keeps_row start row
    go (DecidedWith.in_slot k s l) =
        keeps_in_slot (start ++ rest) row k
        ∙ ap (λ (x : ℕ). eqb x row.right) (stays row.left (omega (arith, l, h)))
        ∙ sym (keeps_in_slot start row k)
    go (DecidedWith.not_in_slot k s l) =
        keeps-not_in_slot (start ++ rest) row k
        ∙ ap (λ (x : ℕ). not (eqb x row.right)) (stays row.left (omega (arith, l, h)))
        ∙ sym (keeps-not_in_slot start row k)
    go (DecidedWith.same-slot k e) =
        let b = ends-below row.left row.right (last_of slots row) (length start) e h in
        keeps-same-slot (start ++ rest) row k
        ∙ ap₂ (λ (x y : ℕ). eqb x y) (stays row.left b.0) (stays row.right b.1)
        ∙ sym (keeps-same-slot start row k)
    go (DecidedWith.not-same-slot k e) =
        let b = ends-below row.left row.right (last_of slots row) (length start) e h in
        keeps-not-same-slot (start ++ rest) row k
        ∙ differ_by (start ++ rest) row.left row.right (slot_of start row.left) (slot_of start row.right) (stays row.left b.0) (stays row.right b.1)
        ∙ sym (differ_by start row.left row.right (slot_of start row.left) (slot_of start row.right) refl refl)
        ∙ sym (keeps-not-same-slot start row k)
    go (DecidedWith.offset k e) =
        let b = ends-below row.left row.right (last_of slots row) (length start) e h in
        keeps-offset-row (start ++ rest) row k
        ∙ offset-by (start ++ rest) row.left row.right row.extra (slot_of start row.left) (slot_of start row.right) (stays row.left b.0) (stays row.right b.1)
        ∙ sym (offset-by start row.left row.right row.extra (slot_of start row.left) (slot_of start row.right) refl refl)
        ∙ sym (keeps-offset-row start row k)

-- ---- places and their numbers

pick_true : (b : Bool) → cond b true false ≡ b
pick_true true = refl
pick_true false = refl

pick_false : (b : Bool) → cond b false true ≡ not b
pick_false true = refl
pick_false false = refl

eqb_flip : (a b : ℕ) → eqb a b ≡ eqb b a
eqb_flip a b = same_test (eqb a b) (eqb b a) (λ t. eq-eqb b a (sym (eqb-true a b t))) (λ t. eq-eqb a b (sym (eqb-true b a t)))

-- no place is in the empty set
has-nothing : (at : ℕ) → has 0 at ≡ false
has-nothing at = has-past 0 0 at (omega arith) (omega arith)

module _ (slots at : ℕ) (few : slots ≤ 24) (within : at ≤ slots) where
  place_in : at < slots → place_of slots at ≡ at
  unfolding place_of
  place_in h = rw (lt-ltb at slots h)

  place_out : slots ≤ at → place_of slots at ≡ 255
  unfolding place_of
  place_out h = rw (le-ltb at slots h)

  -- a position's place is a slot, or omission
  by_place : (P : ℕ → Type 0) → (at < slots → P at) → (at ≡ slots → P 255) → P (place_of slots at)
  by_place P f g = go (ltb at slots) refl
    where
      go : (b : Bool) → ltb at slots ≡ b → P (place_of slots at)
      go true t = let h : at < slots = ltb-true at slots t in rw (place_in h) (f h)
      go false t = let h : slots ≤ at = ltb-false at slots t in rw (place_out h) (g (omega arith))

  -- kinds 1 and 2: whether the choice stands in a slot
  place-slot : (slot : ℕ) → slot < slots → eqb (place_of slots at) slot ≡ eqb at slot
  place-slot slot l =
      by_place (λ place. eqb place slot ≡ eqb at slot) (λ h. refl)
      (λ e. ne_eqb 255 slot (λ f. absurd (omega (arith, f, l, few))) ∙ sym (ne_eqb at slot (λ f. absurd (omega (arith, e, f, l)))))

  place-omitted : eqb (place_of slots at) 255 ≡ eqb at slots
  place-omitted =
      by_place (λ place. eqb place 255 ≡ eqb at slots)
      (λ h. ne_eqb at 255 (λ f. absurd (omega (arith, f, h, few))) ∙ sym (ne_eqb at slots (λ f. absurd (omega (arith, f, h)))))
      (λ e. sym (eq-eqb at slots e))

  -- the places of a set that the domain keeps
  kept_at : (domain slot : ℕ) (stands leaves : Bool) → has (kept_places domain slot stands leaves) at ≡ (has domain at && cond (eqb at slot) stands leaves)
  kept_at domain slot stands leaves = kept-has domain slot stands leaves at (omega arith)

  module _ (domain : ℕ) where
    slot-alone : (slot : ℕ) → slot < slots → has (kept_places domain slot true false) at ≡ (has domain at && eqb (place_of slots at) slot)
    slot-alone slot l = kept_at domain slot true false ∙ ap (λ (b : Bool). has domain at && b) (pick_true (eqb at slot) ∙ sym (place-slot slot l))

    slot-never : (slot : ℕ) → slot < slots → has (kept_places domain slot false true) at ≡ (has domain at && not (eqb (place_of slots at) slot))
    slot-never slot l = kept_at domain slot false true ∙ ap (λ (b : Bool). has domain at && b) (pick_false (eqb at slot) ∙ ap not (sym (place-slot slot l)))

    omission_alone : has (kept_places domain slots true false) at ≡ (has domain at && eqb (place_of slots at) 255)
    omission_alone = kept_at domain slots true false ∙ ap (λ (b : Bool). has domain at && b) (pick_true (eqb at slots) ∙ sym place-omitted)

    -- what a row of kind 3 leaves, by either of its choices
    beside_left : (place : ℕ) → (place < slots) ⊎ (place ≡ 255) → has (beside_place slots place domain) at ≡ (has domain at && eqb (place_of slots at) place)
    unfolding beside_place
    beside_left place (inl l) = rw (number_in slots place l) (slot-alone place l)
    beside_left place (inr e) = rw (number-out slots place (omega (arith, e, few)), e) omission_alone

    beside_right : (place : ℕ) → (place < slots) ⊎ (place ≡ 255) → has (beside_place slots place domain) at ≡ (has domain at && eqb place (place_of slots at))
    beside_right place p = beside_left place p ∙ ap (λ (b : Bool). has domain at && b) (eqb_flip (place_of slots at) place)

    -- what a row of kind 4 leaves, by either of its choices
    apart-left : (place : ℕ) → (place < slots) ⊎ (place ≡ 255) → has (apart_from slots place domain) at ≡ (has domain at && differ_of (place_of slots at) place)
    apart-left place (inl l) =
        ap (λ (d : ℕ). has d at) (sym (apart-slot slots place domain l))
        ∙ slot-never place l
        ∙ ap (λ (b : Bool). has domain at && b)
        (by_place (λ here. not (eqb here place) ≡ differ_of here place)
        (λ h. rw (ne_eqb at 255 (λ f. absurd (omega (arith, f, h, few)))))
        (λ e. rw (ne_eqb 255 place (λ f. absurd (omega (arith, f, l, few))))))
    apart-left place (inr e) =
        ap (λ (d : ℕ). has d at) (sym (apart-omitted slots place domain (omega (arith, e, few))))
        ∙ sym (and-true (has domain at))
        ∙ ap (λ (b : Bool). has domain at && b) (rw e (sym (either (eqb (place_of slots at) 255))))
      where
        either : (b : Bool) → (b || not b) ≡ true
        either true = refl
        either false = refl

    apart-right : (place : ℕ) → (place < slots) ⊎ (place ≡ 255) → has (apart_from slots place domain) at ≡ (has domain at && differ_of place (place_of slots at))
    apart-right place (inl l) =
        ap (λ (d : ℕ). has d at) (sym (apart-slot slots place domain l))
        ∙ slot-never place l
        ∙ ap (λ (b : Bool). has domain at && b) (rw (ne_eqb place 255 (λ f. absurd (omega (arith, f, l, few)))) (ap not (eqb_flip (place_of slots at) place)))
    apart-right place (inr e) =
        ap (λ (d : ℕ). has d at) (sym (apart-omitted slots place domain (omega (arith, e, few))))
        ∙ sym (and-true (has domain at))
        ∙ ap (λ (b : Bool). has domain at && b) (rw e)

    -- what a row of kind 5 leaves: the slot with the number up less down
    facing-is : (up down : ℕ) → has (facing slots up down domain) at ≡ (has domain at && (ltb at slots && eqb (at + down) up))
    facing-is up down = go (leb down up) refl (ltb (up - down) slots) refl
      where
        nothing : 0 ≡ facing slots up down domain → (at < slots → at + down ≡ up → ⊥) → has (facing slots up down domain) at ≡ (has domain at && (ltb at slots && eqb (at + down) up))
        nothing z n =
            ap (λ (d : ℕ). has d at) (sym z) ∙ has-nothing at ∙ sym (and-false (has domain at))
            ∙ ap (λ (b : Bool). has domain at && b) (here (ltb at slots) refl)
          where
            here : (b : Bool) → ltb at slots ≡ b → false ≡ (b && eqb (at + down) up)
            here true t = sym (ne_eqb (at + down) up (n (ltb-true at slots t)))
            here false t = refl

        go : (a : Bool) → leb down up ≡ a → (b : Bool) → ltb (up - down) slots ≡ b → has (facing slots up down domain) at ≡ (has domain at && (ltb at slots && eqb (at + down) up))
        go false t b u =
            let h : up < down = leb-false down up t in
            nothing (facing-below slots up down domain h) (λ l e. absurd (omega (arith, h, e)))
        go true t false u =
            let h : down ≤ up = leb-true down up t in
            let k : slots ≤ up - down = ltb-false (up - down) slots u in
            nothing (facing-past slots up down domain h k) (λ l e. absurd (omega (arith, h, k, l, e)))
        go true t true u =
            let h : down ≤ up = leb-true down up t in
            let k : up - down < slots = ltb-true (up - down) slots u in
            ap (λ (d : ℕ). has d at) (sym (facing-at slots up down domain h k))
            ∙ kept_at domain (up - down) true false
            ∙ ap (λ (b : Bool). has domain at && b)
            (pick_true (eqb at (up - down)) ∙ there k h (ltb at slots) refl)
          where
            there : up - down < slots → down ≤ up → (b : Bool) → ltb at slots ≡ b → eqb at (up - down) ≡ (b && eqb (at + down) up)
            there k h true t =
                same_test (eqb at (up - down)) (eqb (at + down) up)
                (λ t. let e : at ≡ up - down = eqb-true at (up - down) t in eq-eqb (at + down) up (omega arith))
                (λ t. let e : at + down ≡ up = eqb-true (at + down) up t in eq-eqb at (up - down) (omega arith))
            there k h false t = let l : slots ≤ at = ltb-false at slots t in ne_eqb at (up - down) (λ e. absurd (omega (arith, e, l, k)))

    offset_this_left : (place extra : ℕ) → (place < slots) ⊎ (place ≡ 255)
        → has (by_offset slots true place extra domain) at ≡ (has domain at && offset_of (place_of slots at) place extra)
    offset_this_left place extra (inl l) =
        ap (λ (d : ℕ). has d at) (sym (offset-left slots true place extra domain place refl extra refl l refl))
        ∙ facing-is (place + 32768) extra
        ∙ ap (λ (b : Bool). has domain at && b)
        (by_place (λ here. (ltb at slots && eqb (at + extra) (place + 32768)) ≡ offset_of here place extra)
        (λ h. rw (lt-ltb at slots h, ne_eqb at 255 (λ f. absurd (omega (arith, f, h, few))), ne_eqb place 255 (λ f. absurd (omega (arith, f, l, few)))) (eqb_flip (at + extra) (place + 32768)))
        (λ e. rw (le-ltb at slots (omega (arith, e)), ne_eqb place 255 (λ f. absurd (omega (arith, f, l, few))))))
    offset_this_left place extra (inr e) =
        ap (λ (d : ℕ). has d at) (sym (offset-omitted slots true place extra domain place refl (omega (arith, e, few))))
        ∙ omission_alone
        ∙ ap (λ (b : Bool). has domain at && b) (rw e (sym (pick_true (eqb (place_of slots at) 255))))

    offset_this_right : (place extra : ℕ) → (place < slots) ⊎ (place ≡ 255)
        → has (by_offset slots false place extra domain) at ≡ (has domain at && offset_of place (place_of slots at) extra)
    offset_this_right place extra (inl l) =
        ap (λ (d : ℕ). has d at) (sym (offset-right slots false place extra domain place refl extra refl l refl))
        ∙ facing-is (place + extra) 32768
        ∙ ap (λ (b : Bool). has domain at && b)
        (by_place (λ here. (ltb at slots && eqb (at + 32768) (place + extra)) ≡ offset_of place here extra)
        (λ h. rw (lt-ltb at slots h, ne_eqb at 255 (λ f. absurd (omega (arith, f, h, few))), ne_eqb place 255 (λ f. absurd (omega (arith, f, l, few)))))
        (λ e. rw (le-ltb at slots (omega (arith, e)), ne_eqb place 255 (λ f. absurd (omega (arith, f, l, few))))))
    offset_this_right place extra (inr e) =
        ap (λ (d : ℕ). has d at) (sym (offset-omitted slots false place extra domain place refl (omega (arith, e, few))))
        ∙ omission_alone
        ∙ ap (λ (b : Bool). has domain at && b) (rw e)

-- ---- what a row leaves is what the plan check's sentence says

pub row_exact : (slots : ℕ) (start : List ℕ) (row : Row) (domain at : ℕ) → slots ≤ 24 → at ≤ slots → length start < 64 → last_of slots row ≡ length start
    → ((i : ℕ) → i < length start → (slot_of start i < slots) ⊎ (slot_of start i ≡ 255))
    → has (row_leaves slots (length start) start row domain) at ≡ (has domain at && keeps_row (start ++ (place_of slots at ∷ [])) row)
row_exact slots start row domain at few within short last placed = go (decided slots row (length start) last (omega arith))
  where
    next : List ℕ
    next = start ++ (place_of slots at ∷ [])

    here : (choice : ℕ) → choice ≡ length start → slot_of next choice ≡ place_of slots at
    here choice e = ap (slot_of next) e ∙ slot_next start (place_of slots at)

    before : (choice : ℕ) → choice < length start → slot_of next choice ≡ slot_of start choice
    before = slot-before start (place_of slots at ∷ [])

    by : (leaves : ℕ) (test : Bool) → leaves ≡ row_leaves slots (length start) start row domain → has leaves at ≡ (has domain at && test) → keeps_row next row ≡ test
        → has (row_leaves slots (length start) start row domain) at ≡ (has domain at && keeps_row next row)
    by leaves test e f g = ap (λ (d : ℕ). has d at) (sym e) ∙ f ∙ ap (λ (b : Bool). has domain at && b) (sym g)

    right-other : row.left ≡ length start → slot_of start row.right ≡ other_place (length start) start row
    right-other e = other-right (length start) start row row.left row.right refl refl e

    left_other : row.left < length start → slot_of start row.left ≡ other_place (length start) start row
    left_other h = other-left (length start) start row row.left refl (λ e. absurd (omega (arith, e, h)))

    go : DecidedWith slots row (length start) → has (row_leaves slots (length start) start row domain) at ≡ (has domain at && keeps_row next row)
    go (DecidedWith.in_slot k s l) =
        by (kept_places domain row.right true false) (eqb (place_of slots at) row.right)
        (leaves_in_slot slots (length start) start row domain row.right refl k)
        (slot-alone slots at few within domain row.right s)
        (keeps_in_slot next row k ∙ ap (λ (x : ℕ). eqb x row.right) (here row.left l))
    go (DecidedWith.not_in_slot k s l) =
        by (kept_places domain row.right false true) (not (eqb (place_of slots at) row.right))
        (leaves-not_in_slot slots (length start) start row domain row.right refl k)
        (slot-never slots at few within domain row.right s)
        (keeps-not_in_slot next row k ∙ ap (λ (x : ℕ). not (eqb x row.right)) (here row.left l))
    go (DecidedWith.same-slot k (Ends.left-last e h)) =
        by (beside_place slots (slot_of start row.right) domain) (eqb (place_of slots at) (slot_of start row.right))
        (leaves-same-slot slots (length start) start row domain (slot_of start row.right) (right-other e) k)
        (beside_left slots at few within domain (slot_of start row.right) (placed row.right h))
        (keeps-same-slot next row k ∙ ap₂ (λ (x y : ℕ). eqb x y) (here row.left e) (before row.right h))
    go (DecidedWith.same-slot k (Ends.right-last e h)) =
        by (beside_place slots (slot_of start row.left) domain) (eqb (slot_of start row.left) (place_of slots at))
        (leaves-same-slot slots (length start) start row domain (slot_of start row.left) (left_other h) k)
        (beside_right slots at few within domain (slot_of start row.left) (placed row.left h))
        (keeps-same-slot next row k ∙ ap₂ (λ (x y : ℕ). eqb x y) (before row.left h) (here row.right e))
    go (DecidedWith.not-same-slot k (Ends.left-last e h)) =
        by (apart_from slots (slot_of start row.right) domain) (differ_of (place_of slots at) (slot_of start row.right))
        (leaves-not-same-slot slots (length start) start row domain (slot_of start row.right) (right-other e) k)
        (apart-left slots at few within domain (slot_of start row.right) (placed row.right h))
        (keeps-not-same-slot next row k ∙ differ_by next row.left row.right (place_of slots at) (slot_of start row.right) (here row.left e) (before row.right h))
    go (DecidedWith.not-same-slot k (Ends.right-last e h)) =
        by (apart_from slots (slot_of start row.left) domain) (differ_of (slot_of start row.left) (place_of slots at))
        (leaves-not-same-slot slots (length start) start row domain (slot_of start row.left) (left_other h) k)
        (apart-right slots at few within domain (slot_of start row.left) (placed row.left h))
        (keeps-not-same-slot next row k ∙ differ_by next row.left row.right (slot_of start row.left) (place_of slots at) (before row.left h) (here row.right e))
    go (DecidedWith.offset k (Ends.left-last e h)) =
        by (by_offset slots true (slot_of start row.right) row.extra domain) (offset_of (place_of slots at) (slot_of start row.right) row.extra)
        (ap (λ (b : Bool). by_offset slots b (slot_of start row.right) row.extra domain) (sym (eq-eqb row.left (length start) e))
        ∙ leaves-offset slots (length start) start row domain row.left (slot_of start row.right) row.extra refl (right-other e) refl k)
        (offset_this_left slots at few within domain (slot_of start row.right) row.extra (placed row.right h))
        (keeps-offset-row next row k ∙ offset-by next row.left row.right row.extra (place_of slots at) (slot_of start row.right) (here row.left e) (before row.right h))
    go (DecidedWith.offset k (Ends.right-last e h)) =
        by (by_offset slots false (slot_of start row.left) row.extra domain) (offset_of (slot_of start row.left) (place_of slots at) row.extra)
        (ap (λ (b : Bool). by_offset slots b (slot_of start row.left) row.extra domain) (sym (ne_eqb row.left (length start) (λ f. absurd (omega (arith, f, h)))))
        ∙ leaves-offset slots (length start) start row domain row.left (slot_of start row.left) row.extra refl (left_other h) refl k)
        (offset_this_right slots at few within domain (slot_of start row.left) row.extra (placed row.left h))
        (keeps-offset-row next row k ∙ offset-by next row.left row.right row.extra (slot_of start row.left) (place_of slots at) (before row.left h) (here row.right e))

-- ---- the front of a list

-- every row of a list is decided with the choice
unfoldable pub AllWith : ℕ → ℕ → List ℕ → Type 0
AllWith slots choice [] = Unit
AllWith slots choice (number ∷ rows) = (last_of slots (row_of number) ≡ choice) × AllWith slots choice rows

module _ (slots choice number : ℕ) (rows : List ℕ) where
  front-more : last_of slots (row_of number) ≡ choice → front_of slots choice (number ∷ rows) ≡ suc (front_of slots choice rows)
  unfolding front_of
  front-more e = rw (eq-eqb (last_of slots (row_of number)) choice e)

  front_ends : (last_of slots (row_of number) ≡ choice → ⊥) → front_of slots choice (number ∷ rows) ≡ 0
  unfolding front_of
  front_ends n = rw (ne_eqb (last_of slots (row_of number)) choice n)

pub front-all : (slots choice : ℕ) (rows : List ℕ) → AllWith slots choice (take (front_of slots choice rows) rows)
unfolding AllWith front_of
front-all slots choice [] = tt
front-all slots choice (number ∷ rows) = go (ℕ_discrete (last_of slots (row_of number)) choice) (front-all slots choice rows)
  where
    go : Dec (last_of slots (row_of number) ≡ choice) → AllWith slots choice (take (front_of slots choice rows) rows)
        → AllWith slots choice (take (front_of slots choice (number ∷ rows)) (number ∷ rows))
    go (yes e) more = rw (front-more slots choice number rows e) (e, more)
    go (no n) more = rw (front_ends slots choice number rows n) tt

pub front-last : (slots choice : ℕ) (rows : List ℕ) (i : ℕ) → i < front_of slots choice rows → last_of slots (row_of (get_or rows i 0)) ≡ choice
unfolding front_of
front-last slots choice [] i h = absurd (omega arith)
front-last slots choice (number ∷ rows) i h = go (ℕ_discrete (last_of slots (row_of number)) choice) i h (front-last slots choice rows)
  where
    go : Dec (last_of slots (row_of number) ≡ choice) → (i : ℕ) → i < front_of slots choice (number ∷ rows)
        → ((k : ℕ) → k < front_of slots choice rows → last_of slots (row_of (get_or rows k 0)) ≡ choice) → last_of slots (row_of (get_or (number ∷ rows) i 0)) ≡ choice
    go (yes e) zero h more = e
    go (yes e) (suc k) h more = let f = front-more slots choice number rows e in more k (omega (arith, f, h))
    go (no n) i h more = let f = front_ends slots choice number rows n in absurd (omega (arith, f, h))

-- the front of a list is no longer than the list
pub front_le : (slots choice : ℕ) (rows : List ℕ) → front_of slots choice rows ≤ length rows
unfolding front_of
front_le slots choice [] = omega arith
front_le slots choice (number ∷ rows) = go (ℕ_discrete (last_of slots (row_of number)) choice) (front_le slots choice rows)
  where
    go : Dec (last_of slots (row_of number) ≡ choice) → front_of slots choice rows ≤ length rows → front_of slots choice (number ∷ rows) ≤ suc (length rows)
    go (yes e) h = rw (front-more slots choice number rows e) (omega arith)
    go (no n) h = rw (front_ends slots choice number rows n) (omega arith)

-- what rows that are all decided with the next choice leave of its places
pub all_exact : (slots : ℕ) (start : List ℕ) (rows : List ℕ) (domain at : ℕ) → slots ≤ 24 → at ≤ slots → length start < 64 → AllWith slots (length start) rows
    → ((i : ℕ) → i < length start → (slot_of start i < slots) ⊎ (slot_of start i ≡ 255))
    → has (rows_leave slots (length start) start rows domain) at ≡ (has domain at && keeps_rows (start ++ (place_of slots at ∷ [])) rows)
unfolding AllWith rows_leave keeps_rows all_of
all_exact slots start [] domain at few within short decided placed = sym (and-true (has domain at))
all_exact slots start (number ∷ rows) domain at few within short decided placed =
    all_exact slots start rows (row_leaves slots (length start) start (row_of number) domain) at few within short decided.1 placed
    ∙ ap (λ (b : Bool). b && keeps_rows (start ++ (place_of slots at ∷ [])) rows) (row_exact slots start (row_of number) domain at few within short decided.0 placed)
    ∙ and_assoc (has domain at) (keeps_row (start ++ (place_of slots at ∷ [])) (row_of number)) (keeps_rows (start ++ (place_of slots at ∷ [])) rows)

pub rows_exact : (slots : ℕ) (start : List ℕ) (rows : List ℕ) (domain at : ℕ) → slots ≤ 24 → at ≤ slots → length start < 64
    → ((i : ℕ) → i < length start → (slot_of start i < slots) ⊎ (slot_of start i ≡ 255))
    → has (rows_leave slots (length start) start (take (front_of slots (length start) rows) rows) domain) at
    ≡ (has domain at && keeps_rows (start ++ (place_of slots at ∷ [])) (take (front_of slots (length start) rows) rows))
rows_exact slots start rows domain at few within short placed =
    all_exact slots start (take (front_of slots (length start) rows) rows) domain at few within short (front-all slots (length start) rows) placed

-- rows that are all decided with the choice stay as they are once it has its place
pub all_stay : (slots : ℕ) (start : List ℕ) (place : ℕ) (rest rows : List ℕ) → length start < 64 → AllWith slots (length start) rows
    → keeps_rows ((start ++ (place ∷ [])) ++ rest) rows ≡ keeps_rows (start ++ (place ∷ [])) rows
unfolding AllWith keeps_rows all_of
all_stay slots start place rest [] short decided = refl
all_stay slots start place rest (number ∷ rows) short decided =
    let n : length (start ++ (place ∷ [])) ≡ length start + 1 = length-append start (place ∷ []) in
    ap₂ (λ (a b : Bool). a && b)
    (row_stays slots (start ++ (place ∷ [])) rest (row_of number) (omega (arith, n, short)) (omega (arith, n, decided.0)))
    (all_stay slots start place rest rows short decided.1)

pub front-stays : (slots : ℕ) (start : List ℕ) (place : ℕ) (rest rows : List ℕ) → length start < 64
    → keeps_rows ((start ++ (place ∷ [])) ++ rest) (take (front_of slots (length start) rows) rows)
    ≡ keeps_rows (start ++ (place ∷ [])) (take (front_of slots (length start) rows) rows)
front-stays slots start place rest rows short =
    all_stay slots start place rest (take (front_of slots (length start) rows) rows) short (front-all slots (length start) rows)

-- the rows of a list are those at its front and those after them
pub rows_split : (plan : List ℕ) (n : ℕ) (rows : List ℕ) → keeps_rows plan rows ≡ (keeps_rows plan (take n rows) && keeps_rows plan (drop n rows))
unfolding keeps_rows
rows_split plan n rows =
    ap (all_of (λ number. keeps_row plan (row_of number))) (sym (take-append-drop n rows))
    ∙ all_append (λ number. keeps_row plan (row_of number)) (take n rows) (drop n rows)

-- ---- the plan matters only before the choice

-- the other choice of a pair comes before the last; of one and the same choice, it is below 65,536
other-start : (choice : ℕ) (plan : List ℕ) (row : Row) → row.left < 65536 → later_choice row.left row.right ≡ choice
    → other_place choice (take choice plan) row ≡ other_place choice plan row
unfolding other_place slot_of later_choice
other-start choice plan row fits e = go (eqb row.left choice) refl
  where
    right-below : row.left ≡ choice → (b : Bool) → eqb row.left row.right ≡ b → cond b 65536 (max row.left row.right) ≡ choice → row.right < choice
    right-below f true t e = absurd (omega (arith, f, fits, e))
    right-below f false t e =
        elim (ℕ_discrete row.left row.right) [ yes g ↦ absurd (eqb-false row.left row.right t g) | no m ↦ omega (arith, f, e, m) ]

    left_below : (row.left ≡ choice → ⊥) → (b : Bool) → cond b 65536 (max row.left row.right) ≡ choice → row.left < choice
    left_below n true e = omega (arith, fits, e)
    left_below n false e = omega (arith, n, e)

    go : (b : Bool) → eqb row.left choice ≡ b → get_or (take choice plan) (cond b row.right row.left) 255 ≡ get_or plan (cond b row.right row.left) 255
    go true t = get_or-take choice plan row.right 255 (right-below (eqb-true row.left choice t) (eqb row.left row.right) refl e)
    go false t = get_or-take choice plan row.left 255 (left_below (eqb-false row.left choice t) (eqb row.left row.right) e)

row-start : (slots choice : ℕ) (plan : List ℕ) (row : Row) (domain : ℕ) → row.left < 65536 → last_of slots row ≡ choice
    → row_leaves slots choice (take choice plan) row domain ≡ row_leaves slots choice plan row domain
unfolding row_leaves
row-start slots choice plan row domain fits last = go
    (eqb row.kind 3) refl (eqb row.kind 4) refl (eqb row.kind 5) refl
  where
    go : (b : Bool) → eqb row.kind 3 ≡ b → (c : Bool) → eqb row.kind 4 ≡ c → (d : Bool) → eqb row.kind 5 ≡ d
        → cond (eqb row.kind 1) (kept_places domain row.right true false) (cond (eqb row.kind 2) (kept_places domain row.right false true)
        (cond b (beside_place slots (other_place choice (take choice plan) row) domain) (cond c (apart_from slots (other_place choice (take choice plan) row) domain)
        (cond d (by_offset slots (eqb row.left choice) (other_place choice (take choice plan) row) row.extra domain) domain))))
        ≡ cond (eqb row.kind 1) (kept_places domain row.right true false) (cond (eqb row.kind 2) (kept_places domain row.right false true)
        (cond b (beside_place slots (other_place choice plan row) domain) (cond c (apart_from slots (other_place choice plan row) domain)
        (cond d (by_offset slots (eqb row.left choice) (other_place choice plan row) row.extra domain) domain))))
    go true t c u d v = rw (other-start choice plan row fits (sym (last-same-slot slots row (eqb-true row.kind 3 t)) ∙ last))
    go false t true u d v = rw (other-start choice plan row fits (sym (last-not-same-slot slots row (eqb-true row.kind 4 u)) ∙ last))
    go false t false u true v = rw (other-start choice plan row fits (sym (last-offset slots row (eqb-true row.kind 5 v)) ∙ last))
    go false t false u false v = refl

pub all_start : (slots choice : ℕ) (plan rows : List ℕ) (domain : ℕ) → AllWith slots choice rows
    → rows_leave slots choice (take choice plan) rows domain ≡ rows_leave slots choice plan rows domain
unfolding AllWith rows_leave
all_start slots choice plan [] domain decided = refl
all_start slots choice plan (number ∷ rows) domain decided =
    ap (rows_leave slots choice (take choice plan) rows) (row-start slots choice plan (row_of number) domain (row_fits number).left decided.0)
    ∙ all_start slots choice plan rows (row_leaves slots choice plan (row_of number) domain) decided.1

pub rows_leave-start : (slots choice : ℕ) (plan rows : List ℕ) (domain : ℕ)
    → rows_leave slots choice (take choice plan) (take (front_of slots choice rows) rows) domain ≡ rows_leave slots choice plan (take (front_of slots choice rows) rows) domain
rows_leave-start slots choice plan rows domain = all_start slots choice plan (take (front_of slots choice rows) rows) domain (front-all slots choice rows)
