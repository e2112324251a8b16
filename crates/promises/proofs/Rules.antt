-- Rules: what each kind asks of a plan, and what the reduction makes of the rules as given.
use mathlib.Core.Path.{◌≡◌, refl, sym, ◌∙◌, ap, subst}
use mathlib.Core.Bool.{Bool, true, false, ◌&&◌, ◌||◌, not, cond}
use mathlib.Core.List.Memᴰ
use mathlib.Core.List.{List, [], ◌∷◌, map, flat_map, Memᴰ}
use mathlib.Core.Logic.{◌↔◌, ◌⊎◌, inl, inr, ⊎_elim}
use Prim.Native.Nat.{ℕ, zero, suc, ◌^◌, ◌≤◌, ◌<◌}
use native.Mathlib.Decide.{ℕ_discrete}
use native.Mathlib.Omega.{arith}
use borrow.Author.Tests.{lt-ltb, le-leb, ltb-true, leb-true, eq-eqb, ne_eqb, eqb-true, eqb-false, not-true}
use lib.Dec.{eqb, leb}
use lib.ListN.{length, get_or}
use Rattle.base_lists.specs.Group.{class_of}
use Rattle.base_lists.specs.Keep.{any_of}
use Rattle.base_lists.proofs.Below.{and_both, and_left, and_right}
use Rattle.base_lists.proofs.Keep.{in_map, map_in, flat_map_in, in_kept}
use Rattle.base_lists.proofs.Members.{member-each, member-part, member_if, member-unless}
use Rattle.base_lists.proofs.Partition.{get_d_in, keeps}
use Rattle.base_lists.proofs.Sorted.{rises-at}
use Rattle.day_rows.specs.Check.{counts_in_range, column_holds, row_keeps, rows_judged}
use Rattle.day_rows.specs.Kinds.{columns_of, kinds}
use Rattle.day_rows.specs.Op.{signed_of}
use Rattle.day_rows.specs.Row.{row_of, row_number, plain_row, signed_columns, earlier}
use Rattle.day_rows.specs.Told.{good}
use Rattle.day_rows.specs.declared.check.Counts.{Counts}
use Rattle.day_rows.specs.declared.check.Takes.TheVariants as takes
use Rattle.day_rows.specs.declared.row.Row.{Row}
use Rattle.day_rows.proofs.CountLaws.{within}
use Rattle.day_rows.proofs.KindLaws.{takes_given}
use Rattle.day_rows.proofs.KeptLaws.{kept, good-each}
use Rattle.day_rows.proofs.RowLaws.{number_of-row, row_of-number, row_fits, order}
use Rattle.reduce_union_find.specs.State.{join_all, root_of}
use Rattle.reduce_union_find.proofs.Joins as joins
use Rattle.reduce_union_find.proofs.Made.{never-refused}
use Rattle.reduce_union_find.proofs.Partition.{group_there, one_group}
use Rattle.reduce_turn.specs.Turn.{kind_of, left_of, right_of, turned_row, turned_one, turned_rows, clashes_at, clash_of}
use Rattle.reduce_added.specs.Groups.{join_one, same_choosers}
use Rattle.reduce_added.specs.Groups as groups
use Rattle.reduce_added.specs.Pairs.{pair_row, pairs_of, mandatory, mandatory_pairs}
use Rattle.reduce_added.specs.Copies.{copy_to, copies_in, is_copied, copies_of}
use Rattle.reduce.specs.Reduction.{reduced_rows, search_list}
use Rattle.reduce.proofs.Result.{Source, result_rises, result_member, result_has}
use Rattle.reduce.proofs.Result as source
use Rattle.plan_check.proofs.Meaning.{Apart, both_out, both_in, kind_1, kind_2, kind_3, kind_4, kind_5, kind_6_eq, kind_6_neq, kind_6_gt, kind_6_lt, kind_6_geq, kind_6_leq}
use Rattle.plan_check.specs.Plan.{slot_of}
use Rattle.promises.specs.Words.{Keeps, OffsetBy, RuleAsks, Clashes, Linked, by-rule, same, back, on, MadeOf, turned, of_group, of_trainee, copied}
use Rattle.promises.proofs.Lists.{place-of, any_some, some_any}

-- ---- what each kind asks

pub rule_asks : (plan : List ℕ) (rule : Row) → RuleAsks plan rule
rule_asks plan rule =
    record {
      in_block = kind_1 plan rule;
      not_in_block = kind_2 plan rule;
      together = kind_3 plan rule;
      apart = kind_4 plan rule;
      offset = λ k. let a = kind_5 plan rule k in (λ h. split (a.0 h), λ s. a.1 (joined s));
      equal = kind_6_eq plan rule;
      unequal = kind_6_neq plan rule;
      over = kind_6_gt plan rule;
      under = kind_6_lt plan rule;
      at_least = kind_6_geq plan rule;
      at_most = kind_6_leq plan rule;
    }
  where
    split : Apart plan rule.left rule.right rule.extra → OffsetBy (slot_of plan rule.left) (slot_of plan rule.right) (signed_of rule.extra)
    split (both_out l r) = inl (l, r)
    split (both_in l r e) = inr (l, r, e)

    joined : OffsetBy (slot_of plan rule.left) (slot_of plan rule.right) (signed_of rule.extra) → Apart plan rule.left rule.right rule.extra
    joined s = ⊎_elim (λ p. both_out p.0 p.1) (λ p. both_in p.0 p.1 p.2) s

-- ---- a clash

pub clash-is : (rules : List ℕ) → (clash_of rules ≡ true) ↔ Clashes rules
unfolding clashes_at
clash-is rules = (
  λ h. let r = any_some clashes_at rules h in (
    r.0,
    r.1,
    eqb-true _ _ (and_left (eqb (kind_of r.0) 9) _ r.2),
    eqb-false _ _ (not-true _ (and_right (eqb (kind_of r.0) 9) _ r.2)),
  ),
  λ c. some_any clashes_at rules c.1 (and_both (eqb (kind_of c.0) 9) _ (eq-eqb _ _ c.2) (ap not (ne_eqb _ _ c.3))),
)

-- ---- where the rules of a reduction come from

-- pairs of positions
pairs-at : (list : List ℕ) {rule : ℕ} → Memᴰ rule (pairs_of list) → (i : ℕ) × (j : ℕ) × (i < j) × (j < length list) × (rule ≡ pair_row (get_or list i 0) (get_or list j 0))
unfolding pairs_of
pairs-at [] m = absurd (Memᴰ.not-nil m)
pairs-at (x ∷ list) {rule} m =
    ⊎_elim
    (λ k. let q = in_map (pair_row x) list rule k in
    let p = place-of list q.1 in
    (0, suc p.0, omega arith, omega (arith, p.1), q.2 ∙ ap (pair_row x) p.2))
    (λ k. let r = pairs-at list k in
    (suc r.0, suc r.1, omega (arith, r.2), omega (arith, r.3), r.4))
    (Memᴰ.append_cases (map (pair_row x) list) m)

at-pairs : (list : List ℕ) (i j : ℕ) → i < j → j < length list → Memᴰ (pair_row (get_or list i 0) (get_or list j 0)) (pairs_of list)
unfolding pairs_of
at-pairs [] i j a b = absurd (omega arith)
at-pairs (x ∷ list) i zero a b = absurd (omega arith)
at-pairs (x ∷ list) zero (suc j) a b = Memᴰ.append_left (pairs_of list) (map_in (pair_row x) list (get_or list j 0) (get_d_in list j 0 (omega arith)))
at-pairs (x ∷ list) (suc i) (suc j) a b = Memᴰ.append_right (map (pair_row x) list) (at-pairs list i j (omega arith) (omega arith))

-- pairs of each chooser's list
trainee_of : (rows : List ℕ) (choosers : ℕ) {rule : ℕ} → Memᴰ rule (mandatory_pairs rows choosers) → (trainee : ℕ) × (trainee < choosers) × Memᴰ rule (pairs_of (mandatory rows trainee))
unfolding mandatory_pairs
trainee_of rows zero m = absurd (Memᴰ.not-nil m)
trainee_of rows (suc choosers) m =
    ⊎_elim (λ k. let r = trainee_of rows choosers k in (r.0, omega (arith, r.1), r.2)) (λ k. (choosers, omega arith, k))
    (Memᴰ.append_cases (mandatory_pairs rows choosers) m)

of_one : (rows : List ℕ) (choosers trainee : ℕ) {rule : ℕ} → trainee < choosers → Memᴰ rule (pairs_of (mandatory rows trainee)) → Memᴰ rule (mandatory_pairs rows choosers)
unfolding mandatory_pairs
of_one rows zero trainee h m = absurd (omega arith)
of_one rows (suc choosers) trainee {rule} h m =
    elim (ℕ_discrete trainee choosers) [
      | yes e ↦ Memᴰ.append_right (mandatory_pairs rows choosers) (subst (λ (t : ℕ). Memᴰ rule (pairs_of (mandatory rows t))) e m)
      | no n ↦ Memᴰ.append_left (pairs_of (mandatory rows choosers)) (of_one rows choosers trainee (omega (arith, h, n)) m)
    ]

-- kinds that are copied
copied-kind : (kind : ℕ) → is_copied kind ≡ true → (kind ≡ 11) ⊎ (kind ≡ 12)
unfolding is_copied
copied-kind kind h = go (eqb kind 11) refl h
  where
    go : (b : Bool) → eqb kind 11 ≡ b → (b || eqb kind 12) ≡ true → (kind ≡ 11) ⊎ (kind ≡ 12)
    go true e h = inl (eqb-true kind 11 e)
    go false e h = inr (eqb-true kind 12 h)

kind-copied : (kind : ℕ) → (kind ≡ 11) ⊎ (kind ≡ 12) → is_copied kind ≡ true
unfolding is_copied
kind-copied kind w = ⊎_elim (λ e. rw e) (λ e. rw e) w

-- a kind of the search's
abbrev Searched : ℕ → Type 0
Searched kind = (leb 1 kind && leb kind 6) ≡ true

module _ (counts : Counts) (given : List ℕ) where
  abbrev parts : List (List ℕ)
  parts = same_choosers counts.choices (turned_rows given)

  turned_of : {rule : ℕ} → Memᴰ rule (turned_rows given) → (row : ℕ) × Memᴰ row given × (kind_of row ≡ 9 → ⊥) × (rule ≡ turned_row row)
  unfolding turned_one
  turned_of m =
      let p = member-part turned_one given m in
      let u = member-unless (eqb (kind_of p.0) 9) (turned_row p.0 ∷ []) p.2 in
      (p.0, p.1, eqb-false (kind_of p.0) 9 u.0, Memᴰ.eq_of_singleton u.1)

  of_turned : {rule : ℕ} (row : ℕ) → Memᴰ row given → (kind_of row ≡ 9 → ⊥) → rule ≡ turned_row row → Memᴰ rule (turned_rows given)
  unfolding turned_one
  of_turned {rule} row m n e = flat_map_in turned_one given row rule m (rw (ne_eqb (kind_of row) 9 n) (Memᴰ.head e))

  -- a rule's source in the page's words
  made : {rule : ℕ} → Source counts given rule → MadeOf counts given rule
  unfolding copies_of copies_in copy_to
  made (source.turned m) = let p = turned_of m in turned p.0 p.1 p.2 p.3
  made (source.of_group m) =
      let p = member-part pairs_of parts m in
      let q = pairs-at p.0 p.2 in
      of_group p.0 q.0 q.1 p.1 q.2 q.3 q.4
  made (source.of_chooser m) =
      let p = trainee_of (turned_rows given) counts.choosers m in
      let q = pairs-at (mandatory (turned_rows given) p.0) p.2 in
      of_trainee p.0 q.0 q.1 p.1 q.2 q.3 q.4
  made (source.copied m) =
      let p = member-part (copies_of parts) (turned_rows given) m in
      let r = row_of p.0 in
      let q = member_if (is_copied r.kind) (flat_map (copies_in r) parts) p.2 in
      let g = member-part (copies_in r) parts q.1 in
      let t = member_if (any_of (eqb r.right) g.0) (flat_map (copy_to r) g.0) g.2 in
      let u = member-part (copy_to r) g.0 t.1 in
      let v = member-unless (eqb u.0 r.right) (row_number (plain_row r.kind r.left u.0) ∷ []) u.2 in
      let s = any_some (eqb r.right) g.0 t.0 in
      copied p.0 g.0 u.0 p.1 (copied-kind r.kind q.0) g.1 (Memᴰ.cast (eqb-true _ _ s.2) s.1) u.1
      (eqb-false _ _ v.0) (Memᴰ.eq_of_singleton v.1)

  unmade : {rule : ℕ} → MadeOf counts given rule → Source counts given rule
  unfolding copies_of copies_in copy_to
  unmade (turned row m n e) = source.turned (of_turned row m n e)
  unmade {rule} (of_group group i j m a b e) = source.of_group (flat_map_in pairs_of parts group rule m (Memᴰ.cast e (at-pairs group i j a b)))
  unmade (of_trainee trainee i j h a b e) =
      source.of_chooser (of_one (turned_rows given) counts.choosers trainee h (Memᴰ.cast e (at-pairs (mandatory (turned_rows given) trainee) i j a b)))
  unmade {rule} (copied row group other m k g r o n e) =
      let own = row_of row in
      source.copied
      (flat_map_in (copies_of parts) (turned_rows given) row rule m
      (rw (kind-copied (kind_of row) k)
      (flat_map_in (copies_in own) parts group rule g
      (rw (some_any (eqb own.right) group r (eq-eqb own.right own.right refl))
      (flat_map_in (copy_to own) group other rule o (rw (ne_eqb other own.right n) (Memᴰ.head e)))))))

  -- the reduction's rows are these and no other
  pub rules-made : (rule : ℕ) → Memᴰ rule (reduced_rows counts given) ↔ MadeOf counts given rule
  rules-made rule = (λ m. made (result_member counts given m), λ s. result_has counts given (unmade s))

  -- they rise by their columns
  pub rules-rise : (i j : ℕ) → i < j → j < length (reduced_rows counts given)
      → earlier (signed_columns (row_of (get_or (reduced_rows counts given) i 0))) (signed_columns (row_of (get_or (reduced_rows counts given) j 0))) ≡ true
  rules-rise i j a b =
      let x = get_or (reduced_rows counts given) i 0 in
      let y = get_or (reduced_rows counts given) j 0 in
      let h : x < y = rises-at (reduced_rows counts given) i j (result_rises counts given) a b in
      sym (order (row_of x) (row_of y) (row_fits x) (row_fits y)) ∙ rw (number_of-row x, number_of-row y) (lt-ltb x y h)

  -- ---- the groups

  -- a turned rule of kind 10 is a given one
  stays : (row : ℕ) → kind_of row ≡ 10 → turned_row row ≡ row
  unfolding turned_row
  stays row k = rw k

  made-kind : (kind left right : ℕ) → left < 2 ^ 16 → right < 2 ^ 16 → kind_of (row_number (plain_row kind left right)) ≡ kind
  made-kind kind left right l r = ap (λ (row : Row). row.kind) (row_of-number (plain_row kind left right) (record { left = l; right = r; extra = omega arith }))

  exchanged-kind : (row kind : ℕ) → kind_of (row_number (plain_row kind (right_of row) (left_of row))) ≡ kind
  exchanged-kind row kind = made-kind kind (right_of row) (left_of row) (row_fits row).right (row_fits row).left

  was_ten : (row : ℕ) → kind_of (turned_row row) ≡ 10 → kind_of row ≡ 10
  unfolding turned_row
  was_ten row h = go (eqb (kind_of row) 7) (eqb (kind_of row) 8) (eqb (kind_of row) 14) (eqb (kind_of row) 15) h
    where
      go : (a b c d : Bool)
          → kind_of (cond a (row_number (plain_row 1 (right_of row) (left_of row))) (cond b (row_number (plain_row 2 (right_of row) (left_of row))) (cond c (row_number (plain_row 11 (right_of row) (left_of row))) (cond d (row_number (plain_row 12 (right_of row) (left_of row))) row)))) ≡ 10
          → kind_of row ≡ 10
      go true b c d h = absurd (omega (arith, h, exchanged-kind row 1))
      go false true c d h = absurd (omega (arith, h, exchanged-kind row 2))
      go false false true d h = absurd (omega (arith, h, exchanged-kind row 11))
      go false false false true h = absurd (omega (arith, h, exchanged-kind row 12))
      go false false false false h = h

  -- ---- the given rules that a plan keeps

  -- a turned rule of kinds 1 to 8 is the search's
  searched-kind : (row : ℕ) → 1 ≤ kind_of row → kind_of row ≤ 8 → Searched (kind_of (turned_row row))
  unfolding turned_row
  searched-kind row low high = go (eqb (kind_of row) 7) (eqb (kind_of row) 8) (eqb (kind_of row) 14) (eqb (kind_of row) 15) refl refl refl refl
    where
      go : (a b c d : Bool) → eqb (kind_of row) 7 ≡ a → eqb (kind_of row) 8 ≡ b → eqb (kind_of row) 14 ≡ c → eqb (kind_of row) 15 ≡ d
          → Searched (kind_of (cond a (row_number (plain_row 1 (right_of row) (left_of row))) (cond b (row_number (plain_row 2 (right_of row) (left_of row))) (cond c (row_number (plain_row 11 (right_of row) (left_of row))) (cond d (row_number (plain_row 12 (right_of row) (left_of row))) row)))))
      go true b c d p q r s = subst Searched (sym (exchanged-kind row 1)) refl
      go false true c d p q r s = subst Searched (sym (exchanged-kind row 2)) refl
      go false false true d p q r s = absurd (let e = eqb-true (kind_of row) 14 r in omega (arith, e, high))
      go false false false true p q r s = absurd (let e = eqb-true (kind_of row) 15 s in omega (arith, e, high))
      go false false false false p q r s =
          let n = eqb-false (kind_of row) 7 p in
          let m = eqb-false (kind_of row) 8 q in
          and_both (leb 1 (kind_of row)) (leb (kind_of row) 6) (le-leb 1 (kind_of row) low) (le-leb (kind_of row) 6 (omega (arith, n, m, high)))

  -- the search's list has each of them, so that a plan that keeps it keeps them
  pub given-kept : rows_judged counts takes.Given given ≡ good → (plan : List ℕ)
      → ((i : ℕ) → i < length (search_list (reduced_rows counts given)) → Keeps plan (row_of (get_or (search_list (reduced_rows counts given)) i 0)))
      → (rule : ℕ) → Memᴰ rule given → kind_of rule ≤ 8 → Keeps plan (row_of (turned_row rule))
  unfolding search_list
  given-kept is-good plan all rule m high =
      let rules = reduced_rows counts given in
      let p : ℕ → Bool = λ number. leb 1 (kind_of number) && leb (kind_of number) 6 in
      let g = kept counts takes.Given rule (member-each (λ n. row_keeps counts takes.Given n ≡ true) given 0 (good-each counts takes.Given given is-good) m) in
      let t : (leb 1 (kind_of rule) && leb (kind_of rule) 15) ≡ true = sym (takes_given (kind_of rule)) ∙ g.kind in
      let low : 1 ≤ kind_of rule = leb-true 1 (kind_of rule) (and_left _ _ t) in
      let here = result_has counts given (source.turned (of_turned rule m (λ n. omega (arith, n, high)) refl)) in
      member-each (λ number. Keeps plan (row_of number)) (search_list rules) 0 all (in_kept p rules (turned_row rule) here (searched-kind rule low high))

  abbrev pairs : List (ℕ × ℕ)
  pairs = groups.joins (turned_rows given)

  module _ (range : counts_in_range counts takes.Given ≡ true) (is-good : rows_judged counts takes.Given given ≡ good) where
    few : counts.choices ≤ 64
    few = (within counts takes.Given range).choices

    -- a given rule of kind 10 names two stations
    names : {row : ℕ} → Memᴰ row given → kind_of row ≡ 10 → (left_of row < counts.choices) × (right_of row < counts.choices)
    unfolding columns_of kinds
    names {row} m k =
        let g = kept counts takes.Given row (member-each (λ n. row_keeps counts takes.Given n ≡ true) given 0 (good-each counts takes.Given given is-good) m) in (
          ltb-true (left_of row) counts.choices (subst (λ (kind : ℕ). column_holds counts (columns_of kind).1 (left_of row) ≡ true) k g.left),
          ltb-true (right_of row) counts.choices (subst (λ (kind : ℕ). column_holds counts (columns_of kind).2 (right_of row) ≡ true) k g.right),
        )

    -- the pairs that are joined are the ends of such rules
    rule_of : {a b : ℕ} → Memᴰ (a, b) pairs → (row : ℕ) × Memᴰ row given × (kind_of row ≡ 10) × ◌≡◌ {A = ℕ × ℕ} (a, b) (left_of row, right_of row)
    unfolding join_one
    rule_of m =
        let p = member-part join_one (turned_rows given) m in
        let q = member_if (eqb (kind_of p.0) 10) ((left_of p.0, right_of p.0) ∷ []) p.2 in
        let ten : kind_of p.0 ≡ 10 = eqb-true (kind_of p.0) 10 q.0 in
        let t = turned_of p.1 in
        let e : p.0 ≡ t.0 = t.3 ∙ stays t.0 (was_ten t.0 (ap kind_of (sym t.3) ∙ ten)) in
        (p.0, Memᴰ.cast e t.1, ten, Memᴰ.eq_of_singleton q.1)

    of_rule : {row : ℕ} → Memᴰ row given → kind_of row ≡ 10 → Memᴰ (left_of row, right_of row) pairs
    unfolding join_one
    of_rule {row} m k =
        flat_map_in join_one (turned_rows given) row (left_of row, right_of row) (of_turned row m (λ n. omega (arith, k, n)) (sym (stays row k)))
        (rw k (Memᴰ.head refl))

    -- what they link
    linked-out : {a b : ℕ} → joins.Linked counts.choices pairs a b → Linked given a b
    linked-out (joins.pair m l r) =
        let p = rule_of m in
        on (same (ap (λ (z : ℕ × ℕ). z.0) p.3)) (on (by-rule p.0 p.1 p.2) (same (sym (ap (λ (z : ℕ × ℕ). z.1) p.3))))
    linked-out (joins.same e) = same e
    linked-out (joins.turn w) = back (linked-out w)
    linked-out (joins.chain v w) = on (linked-out v) (linked-out w)

    linked_in : {a b : ℕ} → Linked given a b → joins.Linked counts.choices pairs a b
    linked_in (by-rule row m k) = joins.pair (of_rule m k) (names m k).0 (names m k).1
    linked_in (same e) = joins.same e
    linked_in (back w) = joins.turn (linked_in w)
    linked_in (on v w) = joins.chain (linked_in v) (linked_in w)

    -- two stations are in one group exactly if rules of kind 10 link them
    pub grouped : (one other : ℕ) → one < counts.choices → other < counts.choices
        → ((group : List ℕ) × Memᴰ group parts × Memᴰ one group × Memᴰ other group) ↔ Linked given one other
    unfolding same_choosers class_of
    grouped one other h k =
        let c = counts.choices in
        let uf = join_all c pairs in
        let t = never-refused c few pairs in (
          λ p. linked-out ((joins.joined-exactly c few pairs one other h k).0 ((one_group c uf t p.1 other one p.3).0 p.2).1),
          λ w. let e = (joins.joined-exactly c few pairs one other h k).1 (linked_in w) in (
            class_of c (root_of uf) (root_of uf one),
            group_there c uf t one h,
            keeps c (λ i. eqb (root_of uf i) (root_of uf one)) one h (eq-eqb (root_of uf one) (root_of uf one) refl),
            keeps c (λ i. eqb (root_of uf i) (root_of uf one)) other k (eq-eqb (root_of uf other) (root_of uf one) (sym e)),
          ),
        )
