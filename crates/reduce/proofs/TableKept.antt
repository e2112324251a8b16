-- Every row of a reduction keeps the table as the search or the roster takes it, so that no caller judges it
-- again.
use mathlib.Core.Path.{◌≡◌, refl, sym, ◌∙◌, subst}
use mathlib.Core.Bool.{Bool, true, false, cond, ◌&&◌, ◌||◌}
use mathlib.Core.List.Memᴰ
use mathlib.Core.List.{List, [], ◌∷◌, map, flat_map, Memᴰ}
use mathlib.Core.Logic.{◌⊎◌, inl, inr, ⊎_elim}
use Prim.Native.Nat.{ℕ, zero, suc, ◌^◌, ◌≤◌, ◌<◌}
use native.Mathlib.Decide.{dec_lt}
use native.Mathlib.Omega.{arith}
use borrow.Author.Tests.{lt-ltb, le-leb, ltb-true, leb-true, eqb-true, eqb-false}
use lib.Dec.{eqb, leb}
use Rattle.base_lists.specs.Group.{class_of}
use Rattle.base_lists.specs.Keep.{any_of}
use Rattle.base_lists.proofs.Below.{and_left, and_right}
use Rattle.base_lists.proofs.Members.{member-each, member-part, member_if, member-unless}
use Rattle.base_lists.proofs.Partition.{kept as kept-below, class_is}
use Rattle.day_rows.specs.Told.{good}
use Rattle.day_rows.specs.Check.{column_holds, row_keeps, rows_judged, counts_in_range}
use Rattle.day_rows.specs.Kinds.{columns_of, kinds}
use Rattle.day_rows.specs.Row.{row_of, row_number, plain_row}
use Rattle.day_rows.specs.declared.check.Counts.{Counts}
use Rattle.day_rows.specs.declared.check.Takes.{Takes}
use Rattle.day_rows.specs.declared.check.Takes.TheVariants as takes
use Rattle.day_rows.proofs.CountLaws.{within}
use Rattle.day_rows.proofs.KeptLaws.{Kept, kept, keeps, good-each}
use Rattle.day_rows.proofs.KindLaws.{takes_given, takes_scheduling, takes_assignment}
use Rattle.day_rows.proofs.RowLaws.{Fits, row_of-number, row_fits}
use Rattle.reduce_union_find.specs.State.{join_all, root_of}
use Rattle.reduce_turn.specs.Turn.{kind_of, left_of, right_of, turned_row, turned_one, turned_rows}
use Rattle.reduce_added.specs.Groups.{same_choosers, joins}
use Rattle.reduce_added.specs.Pairs.{pair_row, pairs_of, group_pairs, mandatory_one, mandatory, mandatory_pairs}
use Rattle.reduce_added.specs.Copies.{copy_to, copies_in, is_copied, copies_of, copies_all}
use Rattle.reduce.specs.Reduction.{reduced_rows}
use Rattle.reduce.proofs.Result.{Source, turned, of_group, of_chooser, copied, result_member}

-- a row of the search's list, or of the roster's
unfoldable pub Taken : Counts → ℕ → Type 0
Taken counts number = (row_keeps counts takes.Scheduling number ≡ true) ⊎ (row_keeps counts takes.Assignment number ≡ true)

module _ (counts : Counts) where
  -- a row that is made of its columns
  made-keeps : (takes : Takes) (kind left right : ℕ) → left < 2 ^ 16 → right < 2 ^ 16 → Kept counts takes (plain_row kind left right)
      → row_keeps counts takes (row_number (plain_row kind left right)) ≡ true
  made-keeps takes kind left right l r k =
      keeps counts takes (row_number (plain_row kind left right))
      (subst (Kept counts takes) (sym (row_of-number (plain_row kind left right) (record { left = l; right = r; extra = omega arith }))) k)

  -- the columns of a kept row, its kind known
  module _ {takes : Takes} (number : ℕ) (k : Kept counts takes (row_of number)) {kind : ℕ} (e : kind_of number ≡ kind) where
    left-holds : column_holds counts (columns_of kind).1 (left_of number) ≡ true
    left-holds = subst (λ (n : ℕ). column_holds counts (columns_of n).1 (left_of number) ≡ true) e k.left

    right-holds : column_holds counts (columns_of kind).2 (right_of number) ≡ true
    right-holds = subst (λ (n : ℕ). column_holds counts (columns_of n).2 (right_of number) ≡ true) e k.right

  -- a kind that is turned
  module _ (number : ℕ) (k : Kept counts takes.Given (row_of number)) where
    abbrev f : Fits (row_of number)
    f = row_fits number

    turned-slot : (old new : ℕ) → kind_of number ≡ old → (new ≡ 1) ⊎ (new ≡ 2) → (old ≡ 7) ⊎ (old ≡ 8) → row_keeps counts takes.Scheduling (row_number (plain_row new (right_of number) (left_of number))) ≡ true
    unfolding columns_of kinds
    turned-slot old new e n o =
        let l : column_holds counts (columns_of 7).1 (left_of number) ≡ true =
        ⊎_elim (λ q. left-holds number k (e ∙ q)) (λ q. left-holds number k (e ∙ q)) o in
        let r : column_holds counts (columns_of 7).2 (right_of number) ≡ true =
        ⊎_elim (λ q. right-holds number k (e ∙ q)) (λ q. right-holds number k (e ∙ q)) o in
        ⊎_elim
        (λ q. rw q (made-keeps takes.Scheduling 1 (right_of number) (left_of number) f.right f.left (record { kind = refl; left = r; right = l; extra = refl })))
        (λ q. rw q (made-keeps takes.Scheduling 2 (right_of number) (left_of number) f.right f.left (record { kind = refl; left = r; right = l; extra = refl })))
        n

    turned-chooser : (old new : ℕ) → kind_of number ≡ old → (new ≡ 11) ⊎ (new ≡ 12) → (old ≡ 14) ⊎ (old ≡ 15) → row_keeps counts takes.Assignment (row_number (plain_row new (right_of number) (left_of number))) ≡ true
    unfolding columns_of kinds
    turned-chooser old new e n o =
        let l : column_holds counts (columns_of 14).1 (left_of number) ≡ true =
        ⊎_elim (λ q. left-holds number k (e ∙ q)) (λ q. left-holds number k (e ∙ q)) o in
        let r : column_holds counts (columns_of 14).2 (right_of number) ≡ true =
        ⊎_elim (λ q. right-holds number k (e ∙ q)) (λ q. right-holds number k (e ∙ q)) o in
        ⊎_elim
        (λ q. rw q (made-keeps takes.Assignment 11 (right_of number) (left_of number) f.right f.left (record { kind = refl; left = r; right = l; extra = refl })))
        (λ q. rw q (made-keeps takes.Assignment 12 (right_of number) (left_of number) f.right f.left (record { kind = refl; left = r; right = l; extra = refl })))
        n

    -- every other kind but 9 is the search's or the roster's
    stays : (kind_of number ≡ 7 → ⊥) → (kind_of number ≡ 8 → ⊥) → (kind_of number ≡ 9 → ⊥) → (kind_of number ≡ 14 → ⊥) → (kind_of number ≡ 15 → ⊥) → Taken counts number
    unfolding Taken
    stays a b c d e =
        let t : (leb 1 (kind_of number) && leb (kind_of number) 15) ≡ true = sym (takes_given (kind_of number)) ∙ k.kind in
        let low : 1 ≤ kind_of number = leb-true 1 (kind_of number) (and_left _ _ t) in
        let high : kind_of number ≤ 15 = leb-true (kind_of number) 15 (and_right (leb 1 (kind_of number)) _ t) in
        elim (dec_lt (kind_of number) 7) [
          | yes h ↦
              inl (keeps counts takes.Scheduling number
              (record {
                kind = takes_scheduling (kind_of number) ∙ rw (le-leb 1 (kind_of number) low, le-leb (kind_of number) 6 (omega arith));
                left = k.left;
                right = k.right;
                extra = k.extra;
              }))
          | no h ↦
              inr (keeps counts takes.Assignment number
              (record {
                kind = takes_assignment (kind_of number) ∙ rw (le-leb 10 (kind_of number) (omega arith), le-leb (kind_of number) 13 (omega arith));
                left = k.left;
                right = k.right;
                extra = k.extra;
              }))
        ]

    pub turned_taken : (kind_of number ≡ 9 → ⊥) → Taken counts (turned_row number)
    unfolding turned_row Taken
    turned_taken n = go (eqb (kind_of number) 7) (eqb (kind_of number) 8) (eqb (kind_of number) 14) (eqb (kind_of number) 15) refl refl refl refl
      where
        go : (a b c d : Bool) → eqb (kind_of number) 7 ≡ a → eqb (kind_of number) 8 ≡ b → eqb (kind_of number) 14 ≡ c → eqb (kind_of number) 15 ≡ d
            → Taken counts (cond a (row_number (plain_row 1 (right_of number) (left_of number))) (cond b (row_number (plain_row 2 (right_of number) (left_of number))) (cond c (row_number (plain_row 11 (right_of number) (left_of number))) (cond d (row_number (plain_row 12 (right_of number) (left_of number))) number))))
        go true b c d p q r s = inl (turned-slot 7 1 (eqb-true (kind_of number) 7 p) (inl refl) (inl refl))
        go false true c d p q r s = inl (turned-slot 8 2 (eqb-true (kind_of number) 8 q) (inr refl) (inr refl))
        go false false true d p q r s = inr (turned-chooser 14 11 (eqb-true (kind_of number) 14 r) (inl refl) (inl refl))
        go false false false true p q r s = inr (turned-chooser 15 12 (eqb-true (kind_of number) 15 s) (inr refl) (inr refl))
        go false false false false p q r s =
            stays (eqb-false (kind_of number) 7 p) (eqb-false (kind_of number) 8 q) n (eqb-false (kind_of number) 14 r) (eqb-false (kind_of number) 15 s)

  -- rows that all keep the table, and counts in their ranges
  module _ (rows : List ℕ) (c : counts_in_range counts takes.Given ≡ true) (taken : rows_judged counts takes.Given rows ≡ good) where
    pub rows_taken : {number : ℕ} → Memᴰ number (turned_rows rows) → Taken counts number
    unfolding turned_one
    rows_taken {number} m =
        let p = member-part turned_one rows m in
        let g = member-each (λ n. row_keeps counts takes.Given n ≡ true) rows 0 (good-each counts takes.Given rows taken) p.1 in
        let u = member-unless (eqb (kind_of p.0) 9) (turned_row p.0 ∷ []) p.2 in
        subst (Taken counts) (sym (Memᴰ.eq_of_singleton u.1)) (turned_taken p.0 (kept counts takes.Given p.0 g) (eqb-false (kind_of p.0) 9 u.0))

    -- the columns of a taken row of kind 11 or 12
    module _ (number : ℕ) (t : Taken counts number) where
      chooser_of : (kind_of number ≡ 11) ⊎ (kind_of number ≡ 12) → left_of number < counts.choosers
      unfolding Taken columns_of kinds
      chooser_of e =
          ⊎_elim (λ k. ltb-true (left_of number) counts.choosers (⊎_elim (λ q. left-holds number (kept counts takes.Scheduling number k) q) (λ q. left-holds number (kept counts takes.Scheduling number k) q) e))
          (λ k. ltb-true (left_of number) counts.choosers (⊎_elim (λ q. left-holds number (kept counts takes.Assignment number k) q) (λ q. left-holds number (kept counts takes.Assignment number k) q) e))
          t

      choice_of : (kind_of number ≡ 11) ⊎ (kind_of number ≡ 12) → right_of number < counts.choices
      unfolding Taken columns_of kinds
      choice_of e =
          ⊎_elim (λ k. ltb-true (right_of number) counts.choices (⊎_elim (λ q. right-holds number (kept counts takes.Scheduling number k) q) (λ q. right-holds number (kept counts takes.Scheduling number k) q) e))
          (λ k. ltb-true (right_of number) counts.choices (⊎_elim (λ q. right-holds number (kept counts takes.Assignment number k) q) (λ q. right-holds number (kept counts takes.Assignment number k) q) e))
          t

    -- the pairs of choices are taken
    pair-taken : (left right : ℕ) → left < counts.choices → right < counts.choices → Taken counts (pair_row left right)
    unfolding Taken pair_row columns_of kinds
    pair-taken left right l r =
        let w = (within counts takes.Given c).choices in
        inl (made-keeps takes.Scheduling 4 left right (omega arith) (omega arith) (record { kind = refl; left = lt-ltb left counts.choices l; right = lt-ltb right counts.choices r; extra = refl }))

    pairs-taken : (list : List ℕ) → ((x : ℕ) → Memᴰ x list → x < counts.choices) → {number : ℕ} → Memᴰ number (pairs_of list) → Taken counts number
    unfolding pairs_of
    pairs-taken [] h m = absurd (Memᴰ.not-nil m)
    pairs-taken (x ∷ list) h m =
        ⊎_elim
        (λ k. let q = Memᴰ.of_map (pair_row x) list k in
        subst (Taken counts) q.2 (pair-taken x q.0 (h x (Memᴰ.head refl)) (h q.0 (Memᴰ.tail q.1))))
        (λ k. pairs-taken list (λ y n. h y (Memᴰ.tail n)) k)
        (Memᴰ.append_cases (map (pair_row x) list) m)

    -- the members of a group are choices of the day
    group_below : {group : List ℕ} → Memᴰ group (same_choosers counts.choices (turned_rows rows)) → (x : ℕ) → Memᴰ x group → x < counts.choices
    unfolding same_choosers class_of
    group_below {group} m x k =
        let root = root_of (join_all counts.choices (joins (turned_rows rows))) in
        let g = class_is counts.choices root m in
        (kept-below counts.choices (λ i. eqb (root i) g.0) x (subst (Memᴰ x) g.2 k)).0

    groups-taken : {number : ℕ} → Memᴰ number (group_pairs (same_choosers counts.choices (turned_rows rows))) → Taken counts number
    groups-taken m =
        let p = member-part pairs_of (same_choosers counts.choices (turned_rows rows)) m in
        pairs-taken p.0 (group_below p.1) p.2

    -- the choices of a chooser's list are choices of the day
    listed_below : (chooser x : ℕ) → Memᴰ x (mandatory (turned_rows rows) chooser) → x < counts.choices
    unfolding mandatory_one
    listed_below chooser x m =
        let p = member-part (mandatory_one chooser) (turned_rows rows) m in
        let q = member_if (eqb (kind_of p.0) 11 && eqb (left_of p.0) chooser) (right_of p.0 ∷ []) p.2 in
        let e : kind_of p.0 ≡ 11 = eqb-true (kind_of p.0) 11 (and_left _ _ q.0) in
        subst (λ (n : ℕ). n < counts.choices) (sym (Memᴰ.eq_of_singleton q.1)) (choice_of p.0 (rows_taken p.1) (inl e))

    choosers-taken : (choosers : ℕ) {number : ℕ} → Memᴰ number (mandatory_pairs (turned_rows rows) choosers) → Taken counts number
    unfolding mandatory_pairs
    choosers-taken zero m = absurd (Memᴰ.not-nil m)
    choosers-taken (suc choosers) m =
        ⊎_elim (λ k. choosers-taken choosers k) (λ k. pairs-taken (mandatory (turned_rows rows) choosers) (listed_below choosers) k)
        (Memᴰ.append_cases (mandatory_pairs (turned_rows rows) choosers) m)

    -- the copied rows are taken
    copy_taken : (kind left member : ℕ) → (kind ≡ 11) ⊎ (kind ≡ 12) → left < counts.choosers → member < counts.choices → Taken counts (row_number (plain_row kind left member))
    unfolding Taken columns_of kinds
    copy_taken kind left member e l h =
        let w = (within counts takes.Given c).choices in
        let v = (within counts takes.Given c).choosers in
        let a = lt-ltb left counts.choosers l in
        let b = lt-ltb member counts.choices h in
        inr (⊎_elim
        (λ q. rw q (made-keeps takes.Assignment 11 left member (omega arith) (omega arith) (record { kind = refl; left = a; right = b; extra = refl })))
        (λ q. rw q (made-keeps takes.Assignment 12 left member (omega arith) (omega arith) (record { kind = refl; left = a; right = b; extra = refl })))
        e)

    either : (kind : ℕ) → is_copied kind ≡ true → (kind ≡ 11) ⊎ (kind ≡ 12)
    unfolding is_copied
    either kind h = by (eqb kind 11) refl h
      where
        by : (b : Bool) → eqb kind 11 ≡ b → (b || eqb kind 12) ≡ true → (kind ≡ 11) ⊎ (kind ≡ 12)
        by true e h = inl (eqb-true kind 11 e)
        by false e h = inr (eqb-true kind 12 h)

    copies_taken : {number : ℕ} → Memᴰ number (copies_all (same_choosers counts.choices (turned_rows rows)) (turned_rows rows)) → Taken counts number
    unfolding copies_of copies_in copy_to
    copies_taken {number} m =
        let groups = same_choosers counts.choices (turned_rows rows) in
        let p = member-part (copies_of groups) (turned_rows rows) m in
        let r = row_of p.0 in
        let q = member_if (is_copied r.kind) (flat_map (copies_in r) groups) p.2 in
        let g = member-part (copies_in r) groups q.1 in
        let u = member-part (copy_to r) g.0 (member_if (any_of (eqb r.right) g.0) (flat_map (copy_to r) g.0) g.2).1 in
        let v = member-unless (eqb u.0 r.right) (row_number (plain_row r.kind r.left u.0) ∷ []) u.2 in
        subst (Taken counts) (sym (Memᴰ.eq_of_singleton v.1))
        (copy_taken r.kind r.left u.0 (either r.kind q.0) (chooser_of p.0 (rows_taken p.1) (either r.kind q.0)) (group_below g.1 u.0 u.1))

    -- every row of the reduction is taken
    pub result_taken : {number : ℕ} → Memᴰ number (reduced_rows counts rows) → Taken counts number
    result_taken m = go (result_member counts rows m)
      where
        go : {number : ℕ} → Source counts rows number → Taken counts number
        go (turned k) = rows_taken k
        go (of_group k) = groups-taken k
        go (of_chooser k) = choosers-taken counts.choosers k
        go (copied k) = copies_taken k
