-- What the bounds say of every feasible plan within the domains, and that such a
-- plan stays within what they leave.
use mathlib.Core.Path.{◌≡◌, refl, sym, ◌∙◌, ap}
use mathlib.Core.Bool.{Bool, true, false, ◌&&◌, not, cond, false≢true}
use mathlib.Core.List.{List, [], ◌∷◌}
use Prim.Native.Nat.{ℕ, zero, suc, ◌+◌, ◌-◌, ◌≤◌, ◌<◌}
use native.Mathlib.Decide.{ℕ_discrete}
use native.Mathlib.Omega.{arith}
use borrow.Author.Tests.{lt-ltb, le-ltb, ltb-true, ltb-false, le-leb, leb-true, eq-eqb, ne_eqb, eqb-true, eqb-false, not-true}
use lib.Dec.{eqb, ltb, leb}
use lib.ListN.{length, get_or, set, replicate, length-replicate, get_or-replicate, length-set}
use lib.Seq.{get_or-set_same, get_or-set_other}
use Rattle.base_lists.specs.Below.{all_below, sum_below}
use Rattle.base_lists.proofs.Below.{and_left, and_right, each_all}
use Rattle.base_lists.proofs.CountBelow.{count_le}
use Rattle.base_lists.proofs.SumBelow.{sum_ext}
use Rattle.base_lists.proofs.Sums.{count-sum}
use Rattle.day_rows.specs.Op.{eq_op, gt_op, geq_op, neq_op, leq_op, lt_op}
use Rattle.day_rows.specs.Row.{row_of}
use Rattle.day_rows.specs.declared.row.Row.{Row}
use Rattle.day_rows.specs.declared.check.Counts.{Counts}
use Rattle.base_choice_sets.specs.Sets.{has, set_of, size_of}
use Rattle.base_choice_sets.proofs.SetLaws.{has-set, size-set}
use Rattle.plan_check.specs.Day.{Day}
use Rattle.plan_check.specs.Plan.{slot_of, stands_in, count_in}
use Rattle.plan_check.specs.Rows.{op_holds, keeps_row}
use Rattle.plan_check.specs.Feasible.{feasible}
use Rattle.plan_check.specs.PlanMeans.{Placed}
use Rattle.plan_check.proofs.Meaning.{feasible_means}
use Rattle.plan_check.proofs.PlanLaws.{stands-omitted}
use Rattle.plan_check.proofs.RowLaws.{op_eq, op_neq, op_gt, op_geq, op_leq, op_lt, keeps_limited_size}
use Rattle.list_tables.specs.steps.Weights.{least_of, sum_from}
use Rattle.list_tables.specs.steps.Tables.{tables_fit, TablesFilled, entry_at, weight_at, written}
use Rattle.list_tables.proofs.WeightLaws.{sum_join, from_ext, from_le, below_le, below-add, below-zeros, least_weighs, slots_weigh}
use Rattle.list_tables.proofs.TableLaws.{written-length, entry_in, entry-lack}
use Rattle.list_tables.proofs.StartLaws.{stands_only}
use Rattle.list_domains.specs.steps.Domains.{place_number, Within, settled, kept_places, both_places, each_below}
use Rattle.list_domains.proofs.DomainLaws.{number_in, number_le, number-stands, settled-one, kept-stays, both-stays, each-length, each_within, within-at}
use Rattle.list_rule_tables.specs.steps.Figures.{free_of, first_in, settled_in, lack_of, lacks_of, free_in}
use Rattle.list_rule_tables.proofs.FillLaws.{one_out}
use Rattle.list_rule_tables.proofs.FigureLaws.{first_le, first-none}
use Rattle.list_rule_tables.proofs.WithinLaws.{lack-fills, lacks-at, fit-choices}
use Rattle.list_rule_counts.specs.steps.CountRule.{raised_by, lowered_by, limit_changes, limits_change, settled_count, count_of, least_counts, under_counts, bounds_fit, beyond_settled, wants_of, rooms_of, broken, room_rule, slot_rule, rooms_below, count_leaves, want_rule, counts_rule}
use Rattle.list_rule_counts.proofs.LimitLaws.{raised_eq, raised_geq, raised_gt, raised_neq, raised_not, lowered_eq, lowered_leq, lowered_lt, lowered_not}
use Rattle.list_rule_counts.proofs.StepLaws.{figure_at}

-- ---- the limits

-- a count that keeps a limit is no less than what the limit raises a lower count to
raised_le : (op limit count n : ℕ) → count ≤ n → op_holds op n limit ≡ true → raised_by op limit count ≤ n
raised_le op limit count n h t = go (ℕ_discrete op eq_op) (ℕ_discrete op geq_op) (ℕ_discrete op gt_op) (ℕ_discrete op neq_op)
  where
    other : (b : Bool) → eqb count limit ≡ b → (n ≡ limit → ⊥) → cond b (suc count) count ≤ n
    other true e q = let k : count ≡ limit = eqb-true count limit e in omega (arith, k, h, q)
    other false e q = h

    go : Dec (op ≡ eq_op) → Dec (op ≡ geq_op) → Dec (op ≡ gt_op) → Dec (op ≡ neq_op) → raised_by op limit count ≤ n
    go (yes e) b c d = rw (sym (raised_eq op limit count e)) (omega (arith, eqb-true n limit (sym (op_eq op n limit e) ∙ t), h))
    go (no a) (yes e) c d = rw (sym (raised_geq op limit count e)) (omega (arith, leb-true limit n (sym (op_geq op n limit e) ∙ t), h))
    go (no a) (no b) (yes e) d = rw (sym (raised_gt op limit count (limit + 1) refl e)) (omega (arith, ltb-true limit n (sym (op_gt op n limit e) ∙ t), h))
    go (no a) (no b) (no c) (yes e) =
        rw (sym (raised_neq op limit count e)) (other (eqb count limit) refl (eqb-false n limit (not-true (eqb n limit) (sym (op_neq op n limit e) ∙ t))))
    go (no a) (no b) (no c) (no d) = rw (sym (raised_not op limit count a b c d)) h

-- a count that keeps a limit is less than what the limit lowers a larger count to
lowered_over : (op limit under n : ℕ) → n < under → op_holds op n limit ≡ true → n < lowered_by op limit under
lowered_over op limit under n h t = go (ℕ_discrete op eq_op) (ℕ_discrete op leq_op) (ℕ_discrete op lt_op)
  where
    go : Dec (op ≡ eq_op) → Dec (op ≡ leq_op) → Dec (op ≡ lt_op) → n < lowered_by op limit under
    go (yes e) b c = rw (sym (lowered_eq op limit under (limit + 1) refl e)) (omega (arith, eqb-true n limit (sym (op_eq op n limit e) ∙ t), h))
    go (no a) (yes e) c = rw (sym (lowered_leq op limit under (limit + 1) refl e)) (omega (arith, leb-true n limit (sym (op_leq op n limit e) ∙ t), h))
    go (no a) (no b) (yes e) = rw (sym (lowered_lt op limit under e)) (omega (arith, ltb-true n limit (sym (op_lt op n limit e) ∙ t), h))
    go (no a) (no b) (no c) = rw (sym (lowered_not op limit under a b c)) h

-- no row adds a figure
row-length : (by : ℕ → ℕ → ℕ → ℕ) (row : Row) (figures : List ℕ) → length (limit_changes by row figures) ≡ length figures
unfolding limit_changes
row-length by row figures = go (eqb row.kind 6 && ltb row.left 24)
  where
    go : (b : Bool) → length (cond b (set figures row.left (by row.extra row.right (get_or figures row.left 0))) figures) ≡ length figures
    go true = length-set figures row.left (by row.extra row.right (get_or figures row.left 0))
    go false = refl

-- figures that stand so to the plan's counts stand so when rows that it keeps have changed them
module _ (by : ℕ → ℕ → ℕ → ℕ) (Stands : ℕ → ℕ → Type 0) (kept : (op limit figure n : ℕ) → Stands figure n → op_holds op n limit ≡ true → Stands (by op limit figure) n)
    (plan : List ℕ) (slots : ℕ) where
  row_keeps : (row : Row) (figures : List ℕ) → length figures ≡ 24 → keeps_row plan row ≡ true → ((slot : ℕ) → slot < slots → Stands (get_or figures slot 0) (count_in plan slot))
      → (slot : ℕ) → slot < slots → Stands (get_or (limit_changes by row figures) slot 0) (count_in plan slot)
  unfolding limit_changes
  row_keeps row figures size keeps stand slot hs = go (eqb row.kind 6 && ltb row.left 24) refl
    where
      value : ℕ
      value = by row.extra row.right (get_or figures row.left 0)

      go : (b : Bool) → (eqb row.kind 6 && ltb row.left 24) ≡ b → Stands (get_or (cond b (set figures row.left value) figures) slot 0) (count_in plan slot)
      go false t = stand slot hs
      go true t =
          let k : row.kind ≡ 6 = eqb-true row.kind 6 (and_left (eqb row.kind 6) (ltb row.left 24) t) in
          let l : row.left < 24 = ltb-true row.left 24 (and_right (eqb row.kind 6) (ltb row.left 24) t) in
          elim (ℕ_discrete slot row.left) [
            | yes e ↦
                let o : op_holds row.extra (count_in plan row.left) row.right ≡ true = sym (keeps_limited_size plan row k) ∙ keeps in
                let g : get_or (set figures row.left value) row.left 0 ≡ value = get_or-set_same figures row.left value 0 (omega (arith, size, l)) in
                let r : Stands value (count_in plan row.left) =
                kept row.extra row.right (get_or figures row.left 0) (count_in plan row.left) (stand row.left (omega (arith, e, hs))) o in
                rw (e, g) r
            | no q ↦ rw (get_or-set_other figures row.left slot value 0 q) (stand slot hs)
          ]

  rows-keep : (rows : List ℕ) → ((i : ℕ) → i < length rows → keeps_row plan (row_of (get_or rows i 0)) ≡ true) → (figures : List ℕ) → length figures ≡ 24
      → ((slot : ℕ) → slot < slots → Stands (get_or figures slot 0) (count_in plan slot)) → (slot : ℕ) → slot < slots
      → Stands (get_or (limits_change by rows figures) slot 0) (count_in plan slot)
  unfolding limits_change
  rows-keep [] keeps figures size stand = stand
  rows-keep (number ∷ rows) keeps figures size stand =
      rows-keep rows (λ i h. keeps (suc i) (omega arith)) (limit_changes by (row_of number) figures) (row-length by (row_of number) figures ∙ size)
      (row_keeps (row_of number) figures size (keeps 0 (omega arith)) stand)

-- no domain is added or lost by what the slots have room for
below_length : (entry : ℕ → ℕ → ℕ → ℕ) (choices : ℕ) (maxs : List ℕ) (free from : ℕ) (lacks rooms : List ℕ) (n : ℕ) (domains : List ℕ)
    → length (rooms_below entry choices maxs free from lacks rooms n domains) ≡ length domains
unfolding rooms_below slot_rule
below_length entry choices maxs free from lacks rooms zero domains = refl
below_length entry choices maxs free from lacks rooms (suc n) domains = go (ltb 64 (get_or rooms n 0)) (below_length entry choices maxs free from lacks rooms n domains)
  where
    rest : List ℕ
    rest = rooms_below entry choices maxs free from lacks rooms n domains

    go : (b : Bool) → length rest ≡ length domains → length (cond b rest (each_below choices (room_rule entry maxs free from lacks rooms n) rest)) ≡ length domains
    go true ih = ih
    go false ih = each-length choices (room_rule entry maxs free from lacks rooms n) rest ∙ ih

-- ---- the counts

-- a choice that stands in the slot is settled there, or free
part-is : (s f d : Bool) → (s ≡ true → d ≡ true) → (f ≡ false → d ≡ true → s ≡ true) → cond s 1 0 ≡ cond (not f && d) 1 0 + cond s (cond f 1 0) 0
part-is true true d h k = refl
part-is true false d h k = rw (h refl)
part-is false true d h k = refl
part-is false false true h k = absurd (false≢true (k refl refl))
part-is false false false h k = refl

-- a free choice that stands in the slot is one of its choices
both_is : (f s : Bool) → ◌≡◌ {A = ℕ} (cond (f && s) 1 0) (cond s (cond f 1 0) 0)
both_is true true = refl
both_is true false = refl
both_is false true = refl
both_is false false = refl

-- a weight of at most 1 is no more than the choice itself
weigh_le : (f s : Bool) (w : ℕ) → w ≤ 1 → cond (f && s) w 0 ≤ cond s (cond f 1 0) 0
weigh_le true true w h = h
weigh_le true false w h = omega arith
weigh_le false true w h = omega arith
weigh_le false false w h = omega arith

-- a weight of at most 1 is no more than the choice itself, with one choice left out
less_le : (e f s : Bool) (w : ℕ) → w ≤ 1 → cond (not e && (f && s)) w 0 ≤ cond e 0 (cond s (cond f 1 0) 0)
less_le true f s w h = omega arith
less_le false f s w h = weigh_le f s w h

left_out : (e p : Bool) (x : ℕ) → cond e 0 (cond p x 0) ≡ cond (not e && p) x 0
left_out true p x = refl
left_out false p x = refl

none-stands : (s : Bool) → ◌≡◌ {A = ℕ} (cond s 0 0) 0
none-stands true = refl
none-stands false = refl

module _ (day : Day) (plan : List ℕ) (feasibly : feasible day plan ≡ true) (len : length plan ≡ day.counts.choices)
    (free from : ℕ) (domains : List ℕ) (within : Within day.counts.slots plan domains)
    (before : (choice : ℕ) → choice < from → has free choice ≡ false) (inside : from ≤ day.counts.choices) where
  -- how many free choices stand in a slot, from the first on
  abbrev standing : ℕ → ℕ
  standing slot = sum_from from (day.counts.choices - from) λ choice. cond (stands_in plan choice slot) (cond (has free choice) 1 0) 0

  -- a sum of what no choice before the first one has
  since : (f : ℕ → ℕ) → ((choice : ℕ) → choice < from → f choice ≡ 0) → sum_below day.counts.choices f ≡ sum_from from (day.counts.choices - from) f
  since f none =
      let count : ℕ = day.counts.choices - from in
      let e : from + count ≡ day.counts.choices = omega arith in
      let j : sum_below day.counts.choices f ≡ sum_below from f + sum_from from count f = ap (λ (x : ℕ). sum_below x f) (sym e) ∙ sum_join from count f in
      let z : sum_below from f ≡ 0 = sum_ext from f (λ k. 0) none ∙ below-zeros from in
      omega (arith, j, z)

  standing-is : (slot : ℕ) → free_in day.counts.choices free plan slot ≡ standing slot
  unfolding free_in
  standing-is slot =
      sum_ext day.counts.choices (λ choice. cond (has free choice && stands_in plan choice slot) 1 0) (λ choice. cond (stands_in plan choice slot) (cond (has free choice) 1 0) 0)
      (λ k hk. both_is (has free k) (stands_in plan k slot))
      ∙ since (λ choice. cond (stands_in plan choice slot) (cond (has free choice) 1 0) 0) (λ k hk. rw (before k hk) (none-stands (stands_in plan k slot)))

  -- the free choices in a slot are no fewer than fill its lack, by whatever weights of at most 1
  module _ (weight : ℕ → ℕ → ℕ) (one : (choice : ℕ) → weight 0 choice ≤ 1) (slot : ℕ) (hs : slot < day.counts.slots) where
    abbrev lack : ℕ
    lack = lack_of day.counts.choices day.counts.choosers day.maxs free domains slot

    lack-counts : least_of weight day.counts day.maxs 0 from lack ≤ free_in day.counts.choices free plan slot
    unfolding least_of
    lack-counts =
        let count : ℕ = day.counts.choices - from in
        let w : ℕ → ℕ = weight 0 in
        let a = least_weighs w (λ choice. get_or day.maxs choice 0) (λ choice. has free choice && stands_in plan choice slot) from count lack
        (lack-fills day plan feasibly len free from domains within before inside slot hs) in
        let b = from_le from count (λ choice. cond (has free choice && stands_in plan choice slot) (w choice) 0)
        (λ choice. cond (stands_in plan choice slot) (cond (has free choice) 1 0) 0)
        (λ k lo hi. weigh_le (has free k) (stands_in plan k slot) (w k) (one k)) in
        omega (arith, a, b, standing-is slot)

    -- the free choices in a slot beside one of them are no fewer than fill the rest of its lack
    others-count : (i : ℕ) → i < day.counts.choices → has free i ≡ true → stands_in plan i slot ≡ true
        → suc (least_of weight day.counts day.maxs 0 from (lack - get_or day.maxs i 0)) ≤ free_in day.counts.choices free plan slot
    unfolding least_of
    others-count i hi t u =
        let count : ℕ = day.counts.choices - from in
        let lo : from ≤ i = at_least (ltb i from) refl in
        let w : ℕ → ℕ = weight 0 in
        let others : ℕ → Bool = λ choice. not (eqb choice i) && (has free choice && stands_in plan choice slot) in
        let m : ℕ → ℕ = λ choice. cond (has free choice && stands_in plan choice slot) (get_or day.maxs choice 0) 0 in
        let g : ℕ → ℕ = λ choice. cond (stands_in plan choice slot) (cond (has free choice) 1 0) 0 in
        let f : lack ≤ sum_from from count m = lack-fills day plan feasibly len free from domains within before inside slot hs in
        let s : sum_from from count m ≡ m i + sum_from from count (λ choice. cond (eqb choice i) 0 (m choice)) = one_out from count i m lo (omega arith) in
        let x : sum_from from count (λ choice. cond (eqb choice i) 0 (m choice)) ≡ sum_from from count (λ choice. cond (others choice) (get_or day.maxs choice 0) 0) =
        from_ext from count (λ choice. cond (eqb choice i) 0 (m choice)) (λ choice. cond (others choice) (get_or day.maxs choice 0) 0)
        (λ k a b. left_out (eqb k i) (has free k && stands_in plan k slot) (get_or day.maxs k 0)) in
        let mi : m i ≡ get_or day.maxs i 0 = rw (t, u) in
        let a = least_weighs w (λ choice. get_or day.maxs choice 0) others from count (lack - get_or day.maxs i 0) (omega (arith, f, s, x, mi)) in
        let b = from_le from count (λ choice. cond (others choice) (w choice) 0) (λ choice. cond (eqb choice i) 0 (g choice))
        (λ k lo hi. less_le (eqb k i) (has free k) (stands_in plan k slot) (w k) (one k)) in
        let r : sum_from from count g ≡ g i + sum_from from count (λ choice. cond (eqb choice i) 0 (g choice)) = one_out from count i g lo (omega arith) in
        let gi : g i ≡ 1 = rw (u, t) in
        omega (arith, a, b, r, gi, standing-is slot)
      where
        at_least : (b : Bool) → ltb i from ≡ b → from ≤ i
        at_least true e = absurd (false≢true (sym (before i (ltb-true i from e)) ∙ t))
        at_least false e = ltb-false i from e

  -- ---- the bounds

  module _ (settles : (choice : ℕ) → choice < day.counts.choices → has free choice ≡ false → settled (get_or domains choice 0) ≡ true) (few : day.counts.slots ≤ 24) where
    -- a choice that stands in a slot has it in its domain, and a settled one that has it stands there
    stands-has : (choice slot : ℕ) → choice < day.counts.choices → slot < day.counts.slots → stands_in plan choice slot ≡ true → has (get_or domains choice 0) slot ≡ true
    stands-has choice slot hc hs t =
        let p : place_number day.counts.slots (slot_of plan choice) ≡ slot = eqb-true _ _ (number-stands day.counts.slots plan choice slot (omega arith) hs ∙ t) in
        ap (λ (x : ℕ). has (get_or domains choice 0) x) (sym p) ∙ within-at day.counts.slots plan domains within choice (omega (arith, len))

    has-stands : (choice slot : ℕ) → choice < day.counts.choices → slot < day.counts.slots → has free choice ≡ false → has (get_or domains choice 0) slot ≡ true
        → stands_in plan choice slot ≡ true
    has-stands choice slot hc hs f t =
        let p : place_number day.counts.slots (slot_of plan choice) ≡ slot =
        settled-one (get_or domains choice 0) (place_number day.counts.slots (slot_of plan choice)) slot (settles choice hc f)
        (omega (arith, number_le day.counts.slots (slot_of plan choice))) (omega arith)
        (within-at day.counts.slots plan domains within choice (omega (arith, len))) t in
        sym (number-stands day.counts.slots plan choice slot (omega arith) hs) ∙ eq-eqb _ _ p

    -- a slot's choices: the settled ones and the free ones
    count-is : (slot : ℕ) → slot < day.counts.slots
        → count_in plan slot ≡ settled_count day.counts.choices free domains slot + free_in day.counts.choices free plan slot
    unfolding count_in settled_count settled_in
    count-is slot hs =
        let n : ℕ = day.counts.choices in
        let all : ℕ → ℕ = λ choice. cond (stands_in plan choice slot) 1 0 in
        let a : ℕ → ℕ = λ choice. cond (not (has free choice) && has (get_or domains choice 0) slot) 1 0 in
        let b : ℕ → ℕ = λ choice. cond (stands_in plan choice slot) (cond (has free choice) 1 0) 0 in
        let h : count_in plan slot ≡ sum_below n all = count-sum (length plan) (λ choice. stands_in plan choice slot) ∙ ap (λ (x : ℕ). sum_below x all) len in
        let p : sum_below n all ≡ sum_below n (λ choice. a choice + b choice) =
        sum_ext n all (λ choice. a choice + b choice)
        λ k hk. part-is (stands_in plan k slot) (has free k) (has (get_or domains k 0) slot) (stands-has k slot hk hs) (has-stands k slot hk hs) in
        let q : sum_below n (λ choice. a choice + b choice) ≡ sum_below n a + sum_below n b = below-add n a b in
        let s : settled_count n free domains slot ≡ sum_below n a = count-sum n (λ choice. not (has free choice) && has (get_or domains choice 0) slot) in
        let j : sum_below n b ≡ sum_from from (n - from) b = since b (λ k hk. rw (before k hk) (none-stands (stands_in plan k slot))) in
        omega (arith, h, p, q, s, j, standing-is slot)

    -- a slot has at least the least count, by entries that are no more than the least weights
    module _ (entry : ℕ → ℕ → ℕ → ℕ) (weight : ℕ → ℕ → ℕ) (one : (choice : ℕ) → weight 0 choice ≤ 1) (lacks : List ℕ)
        (entry-le : (lack : ℕ) → lack ≤ day.counts.choosers → entry 0 from lack ≤ least_of weight day.counts day.maxs 0 from lack)
        (lacks-are : (slot : ℕ) → slot < day.counts.slots → get_or lacks slot 0 ≡ lack_of day.counts.choices day.counts.choosers day.maxs free domains slot) where
      sums-under : (slot : ℕ) → slot < day.counts.slots → count_of entry day.counts.choices free from lacks domains slot ≤ count_in plan slot
      unfolding count_of lack_of
      sums-under slot hs =
          let h : get_or lacks slot 0 ≤ day.counts.choosers = rw (lacks-are slot hs) (omega arith) in
          let e = entry-le (get_or lacks slot 0) h in
          let f : least_of weight day.counts day.maxs 0 from (get_or lacks slot 0)
          ≡ least_of weight day.counts day.maxs 0 from (lack_of day.counts.choices day.counts.choosers day.maxs free domains slot) =
          ap (λ (x : ℕ). least_of weight day.counts day.maxs 0 from x) (lacks-are slot hs) in
          omega (arith, e, f, lack-counts weight one slot hs, count-is slot hs)

      least_under : (free ≡ free_of day.counts.choices domains) → (slot : ℕ) → slot < day.counts.slots
          → get_or (least_counts entry day.counts day.rows from lacks domains) slot 0 ≤ count_in plan slot
      unfolding least_counts
      least_under same =
          let f : ℕ → ℕ = count_of entry day.counts.choices (free_of day.counts.choices domains) from lacks domains in
          let n : length (replicate {A = ℕ} 24 0) ≡ 24 = length-replicate {A = ℕ} 24 0 in
          rows-keep raised_by (λ figure count. figure ≤ count) raised_le plan day.counts.slots day.rows (feasible_means day plan feasibly).rows
          (written day.counts.slots 0 f (replicate 24 0)) (written-length 0 f (replicate 24 0) day.counts.slots ∙ n)
          λ slot hs.
          let e : get_or (written day.counts.slots 0 f (replicate 24 0)) slot 0 ≡ f slot = figure_at day.counts.slots f few slot hs in
          let g : f slot ≡ count_of entry day.counts.choices free from lacks domains slot =
          ap (λ (x : ℕ). count_of entry day.counts.choices x from lacks domains slot) (sym same) in
          omega (arith, e, g, sums-under slot hs)

  -- ---- what the slots have room for

  module _ (few : day.counts.slots ≤ 24) (entry : ℕ → ℕ → ℕ → ℕ) (weight : ℕ → ℕ → ℕ) (one : (choice : ℕ) → weight 0 choice ≤ 1) (lacks rooms : List ℕ)
      (entry-le : (lack : ℕ) → lack ≤ day.counts.choosers → entry 0 from lack ≤ least_of weight day.counts day.maxs 0 from lack)
      (lacks-are : (slot : ℕ) → slot < day.counts.slots → get_or lacks slot 0 ≡ lack_of day.counts.choices day.counts.choosers day.maxs free domains slot)
      (roomy : (slot : ℕ) → slot < day.counts.slots → free_in day.counts.choices free plan slot < get_or rooms slot 0) where
    -- a slot that has no room for a choice isn't the plan's place of it
    room-keeps : (slot i domain : ℕ) → slot < day.counts.slots → i < day.counts.choices → has domain (place_number day.counts.slots (slot_of plan i)) ≡ true
        → has (room_rule entry day.maxs free from lacks rooms slot i domain) (place_number day.counts.slots (slot_of plan i)) ≡ true
    unfolding room_rule lack_of
    room-keeps slot i domain hs hi d = go (has free i && leb (get_or rooms slot 0) (suc (entry 0 from (get_or lacks slot 0 - get_or day.maxs i 0)))) refl
      where
        out : has free i ≡ true → get_or rooms slot 0 ≤ suc (entry 0 from (get_or lacks slot 0 - get_or day.maxs i 0))
            → place_number day.counts.slots (slot_of plan i) ≡ slot → false ≡ true
        out t l p =
            let u : stands_in plan i slot ≡ true = sym (number-stands day.counts.slots plan i slot (omega (arith, few)) hs) ∙ eq-eqb _ _ p in
            let h : get_or lacks slot 0 - get_or day.maxs i 0 ≤ day.counts.choosers = rw (lacks-are slot hs) (omega arith) in
            let e = entry-le (get_or lacks slot 0 - get_or day.maxs i 0) h in
            let f : least_of weight day.counts day.maxs 0 from (get_or lacks slot 0 - get_or day.maxs i 0)
            ≡ least_of weight day.counts day.maxs 0 from (lack_of day.counts.choices day.counts.choosers day.maxs free domains slot - get_or day.maxs i 0) =
            ap (λ (x : ℕ). least_of weight day.counts day.maxs 0 from (x - get_or day.maxs i 0)) (lacks-are slot hs) in
            absurd (omega (arith, e, f, l, others-count weight one slot hs i hi t u, roomy slot hs))

        go : (b : Bool) → (has free i && leb (get_or rooms slot 0) (suc (entry 0 from (get_or lacks slot 0 - get_or day.maxs i 0)))) ≡ b
            → has (cond b (kept_places domain slot false true) domain) (place_number day.counts.slots (slot_of plan i)) ≡ true
        go false b = d
        go true b =
            kept-stays domain slot false true (place_number day.counts.slots (slot_of plan i)) (omega (arith, number_le day.counts.slots (slot_of plan i), few)) d
            (out (and_left (has free i) (leb (get_or rooms slot 0) (suc (entry 0 from (get_or lacks slot 0 - get_or day.maxs i 0)))) b)
            (leb-true _ _ (and_right (has free i) (leb (get_or rooms slot 0) (suc (entry 0 from (get_or lacks slot 0 - get_or day.maxs i 0)))) b)))
            (λ q. refl)

    slot-within : (slot : ℕ) (now : List ℕ) → slot < day.counts.slots → day.counts.choices ≤ length now → Within day.counts.slots plan now
        → Within day.counts.slots plan (slot_rule entry day.counts.choices day.maxs free from lacks rooms slot now)
    unfolding slot_rule
    slot-within slot now hs full w = go (ltb 64 (get_or rooms slot 0))
      where
        go : (b : Bool) → Within day.counts.slots plan (cond b now (each_below day.counts.choices (room_rule entry day.maxs free from lacks rooms slot) now))
        go true = w
        go false =
            each_within day.counts.slots plan now w day.counts.choices (room_rule entry day.maxs free from lacks rooms slot) full
            λ i hi hp d. room-keeps slot i (get_or now i 0) hs hi d

    rooms_within : (n : ℕ) (now : List ℕ) → n ≤ day.counts.slots → day.counts.choices ≤ length now → Within day.counts.slots plan now
        → Within day.counts.slots plan (rooms_below entry day.counts.choices day.maxs free from lacks rooms n now)
    unfolding rooms_below
    rooms_within zero now h full w = w
    rooms_within (suc n) now h full w =
        slot-within n (rooms_below entry day.counts.choices day.maxs free from lacks rooms n now) (omega arith)
        (omega (arith, full, below_length entry day.counts.choices day.maxs free from lacks rooms n now)) (rooms_within n now (omega arith) full w)

  -- ---- what the slots want

  module _ (few : day.counts.slots ≤ 24) (whole : sum_below day.counts.choices (λ choice. cond (has free choice) 1 0) ≡ size_of free) (wants : List ℕ)
      (wanted : (slot : ℕ) → slot < day.counts.slots → get_or wants slot 0 ≤ free_in day.counts.choices free plan slot) where
    abbrev need : ℕ
    need = sum_below day.counts.slots (λ slot. get_or wants slot 0)

    -- the free choices from the first on are all of them
    free-is : sum_from from (day.counts.choices - from) (λ choice. cond (has free choice) 1 0) ≡ size_of free
    free-is = sym (since (λ choice. cond (has free choice) 1 0) (λ k hk. rw (before k hk))) ∙ whole

    want_le : (slot : ℕ) → slot < day.counts.slots → get_or wants slot 0 ≤ standing slot
    want_le slot hs = omega (arith, wanted slot hs, standing-is slot)

    need-fits : need ≤ size_of free
    need-fits =
        let a : need ≤ sum_below day.counts.slots standing = below_le day.counts.slots (λ slot. get_or wants slot 0) standing want_le in
        let b = slots_weigh (λ choice. cond (has free choice) 1 0) (stands_in plan) (slot_of plan) (stands_only plan) day.counts.slots from (day.counts.choices - from) in
        omega (arith, a, b, free-is)

    -- a free choice that stands in no slot that wants some is one more than are wanted
    choice_spared : (i : ℕ) → i < day.counts.choices → has free i ≡ true
        → ((slot : ℕ) → slot < day.counts.slots → stands_in plan i slot ≡ true → get_or wants slot 0 ≡ 0) → need < size_of free
    choice_spared i hi t none =
        let count : ℕ = day.counts.choices - from in
        let lo : from ≤ i = at_least (ltb i from) refl in
        let g : ℕ → ℕ = λ choice. cond (has free choice) 1 0 in
        let w : ℕ → ℕ = λ choice. cond (eqb choice i) 0 (cond (has free choice) 1 0) in
        let s : sum_from from count g ≡ g i + sum_from from count w = one_out from count i g lo (omega arith) in
        let gi : g i ≡ 1 = rw t in
        let other : ℕ → ℕ = λ slot. sum_from from count λ choice. cond (stands_in plan choice slot) (w choice) 0 in
        let a : need ≤ sum_below day.counts.slots other =
        below_le day.counts.slots (λ slot. get_or wants slot 0) other λ slot hs. each slot hs (stands_in plan i slot) refl in
        let b : sum_below day.counts.slots other ≤ sum_from from count w = slots_weigh w (stands_in plan) (slot_of plan) (stands_only plan) day.counts.slots from count in
        omega (arith, a, b, s, gi, free-is)
      where
        at_least : (b : Bool) → ltb i from ≡ b → from ≤ i
        at_least true e = absurd (false≢true (sym (before i (ltb-true i from e)) ∙ t))
        at_least false e = ltb-false i from e

        each : (slot : ℕ) → slot < day.counts.slots → (b : Bool) → stands_in plan i slot ≡ b
            → get_or wants slot 0 ≤ sum_from from (day.counts.choices - from) λ choice. cond (stands_in plan choice slot) (cond (eqb choice i) 0 (cond (has free choice) 1 0)) 0
        each slot hs true e = omega (arith, none slot hs e)
        each slot hs false e =
            let same = from_ext from (day.counts.choices - from) (λ choice. cond (stands_in plan choice slot) (cond (has free choice) 1 0) 0)
            (λ choice. cond (stands_in plan choice slot) (cond (eqb choice i) 0 (cond (has free choice) 1 0)) 0) (λ k a b. term k (ℕ_discrete k i)) in
            omega (arith, want_le slot hs, same)
          where
            term : (k : ℕ) → Dec (k ≡ i)
                → ◌≡◌ {A = ℕ} (cond (stands_in plan k slot) (cond (has free k) 1 0) 0) (cond (stands_in plan k slot) (cond (eqb k i) 0 (cond (has free k) 1 0)) 0)
            term k (yes q) = let f : stands_in plan k slot ≡ false = ap (λ (x : ℕ). stands_in plan x slot) q ∙ e in rw f
            term k (no q) = rw (ne_eqb k i q)

    -- the plan's place stays within what the wants leave
    leaves-keep : (i domain : ℕ) → i < day.counts.choices → has free i ≡ true → has domain (place_number day.counts.slots (slot_of plan i)) ≡ true
        → has (count_leaves day.counts.slots wants free domain) (place_number day.counts.slots (slot_of plan i)) ≡ true
    unfolding count_leaves
    leaves-keep i domain hi t d = rw (le-ltb (size_of free) need need-fits) (go (eqb need (size_of free)) refl)
      where
        needy : ℕ
        needy = set_of day.counts.slots λ slot. ltb 0 (get_or wants slot 0)

        kept : need ≡ size_of free → Placed day.counts.slots day.optional plan i → has needy (place_number day.counts.slots (slot_of plan i)) ≡ true
        kept e (Placed.left_out o x) =
            absurd (omega (arith, e, choice_spared i hi t (λ slot hs s. absurd (false≢true (sym (stands-omitted plan i slot o) ∙ s)))))
        kept e (Placed.scheduled h) =
            rw (number_in day.counts.slots (slot_of plan i) h)
            (has-set day.counts.slots (λ slot. ltb 0 (get_or wants slot 0)) (slot_of plan i) h ∙ some (ltb 0 (get_or wants (slot_of plan i) 0)) refl)
          where
            some : (b : Bool) → ltb 0 (get_or wants (slot_of plan i) 0) ≡ b → b ≡ true
            some true u = refl
            some false u =
                let z : get_or wants (slot_of plan i) 0 ≡ 0 = omega (arith, ltb-false 0 (get_or wants (slot_of plan i) 0) u) in
                absurd (omega (arith, e, choice_spared i hi t (λ slot hs s. ap (λ (x : ℕ). get_or wants x 0) (sym (stands_only plan i slot s)) ∙ z)))

        go : (b : Bool) → eqb need (size_of free) ≡ b → has (cond b (both_places domain needy) domain) (place_number day.counts.slots (slot_of plan i)) ≡ true
        go false u = d
        go true u =
            both-stays domain needy (place_number day.counts.slots (slot_of plan i)) (omega (arith, number_le day.counts.slots (slot_of plan i), few)) d
            (kept (eqb-true _ _ u) ((feasible_means day plan feasibly).places i (omega (arith, len))))

    wants-within : (now : List ℕ) → day.counts.choices ≤ length now → Within day.counts.slots plan now
        → Within day.counts.slots plan (each_below day.counts.choices (want_rule day.counts.slots wants free) now)
    unfolding want_rule
    wants-within now full w =
        each_within day.counts.slots plan now w day.counts.choices (want_rule day.counts.slots wants free) full λ i hi hp d. go i hi d (has free i) refl
      where
        go : (i : ℕ) → i < day.counts.choices → has (get_or now i 0) (place_number day.counts.slots (slot_of plan i)) ≡ true → (b : Bool) → has free i ≡ b
            → has (cond b (count_leaves day.counts.slots wants free (get_or now i 0)) (get_or now i 0)) (place_number day.counts.slots (slot_of plan i)) ≡ true
        go i hi d true u = leaves-keep i (get_or now i 0) hi u d
        go i hi d false u = d

-- ---- the figures

-- a choice that isn't free is settled
free-settles : (choices : ℕ) (domains : List ℕ) (choice : ℕ) → choice < choices → has (free_of choices domains) choice ≡ false → settled (get_or domains choice 0) ≡ true
unfolding free_of
free-settles choices domains choice h f =
    go (settled (get_or domains choice 0)) (sym (has-set choices (λ c. not (settled (get_or domains c 0))) choice h) ∙ f)
  where
    go : (b : Bool) → not b ≡ false → b ≡ true
    go true e = refl
    go false e = absurd (false≢true (sym e))

-- the free choices, counted one by one
free-size : (choices : ℕ) (domains : List ℕ) → choices ≤ 64 → sum_below choices (λ choice. cond (has (free_of choices domains) choice) 1 0) ≡ size_of (free_of choices domains)
unfolding free_of
free-size choices domains h =
    let p : ℕ → Bool = λ c. not (settled (get_or domains c 0)) in
    sum_ext choices (λ choice. cond (has (set_of choices p) choice) 1 0) (λ choice. cond (p choice) 1 0) (λ k hk. ap (λ (b : Bool). cond b 1 0) (has-set choices p k hk))
    ∙ sym (count-sum choices p) ∙ sym (size-set choices p h)

-- an entry of filled tables as it is read is no more than the least weight
entry-under : (counts : Counts) (maxs tables : List ℕ) → TablesFilled counts maxs tables → (table from lack : ℕ) → table < 4 → from < 65 → from ≤ counts.choices → lack ≤ counts.choosers
    → entry_at tables table from lack ≤ least_of (weight_at tables) counts maxs table from lack
entry-under counts maxs tables filled table from lack t f g h = go (ltb lack 201) refl
  where
    go : (b : Bool) → ltb lack 201 ≡ b → entry_at tables table from lack ≤ least_of (weight_at tables) counts maxs table from lack
    go true u = omega (arith, entry_in tables table from lack t f (ltb-true lack 201 u), filled.entries table from lack t g h)
    go false u = omega (arith, entry-lack tables table from lack t f (ltb-false lack 201 u))

zeros-at : (n i : ℕ) → get_or {A = ℕ} (replicate n 0) i 0 ≡ 0
zeros-at zero i = refl
zeros-at (suc n) zero = refl
zeros-at (suc n) (suc i) = zeros-at n i

-- ---- the bounds of every feasible plan within the domains

module _ (day : Day) (plan tables domains : List ℕ) (feasibly : feasible day plan ≡ true) (len : length plan ≡ day.counts.choices)
    (filled : TablesFilled day.counts day.maxs tables) (within : Within day.counts.slots plan domains) where
  abbrev frees : ℕ
  frees = free_of day.counts.choices domains

  abbrev first : ℕ
  first = first_in day.counts.choices (free_of day.counts.choices domains)

  abbrev lacking : List ℕ
  lacking = lacks_of day.counts.slots day.counts.choices day.counts.choosers day.maxs (free_of day.counts.choices domains) domains

  abbrev least : List ℕ
  least = least_counts (entry_at tables) day.counts day.rows first lacking domains

  abbrev standing-free : ℕ → ℕ
  standing-free slot = free_in day.counts.choices frees plan slot

  module _ (c : day.counts.choices ≤ 64) (few : day.counts.slots ≤ 24) where
    least_le : (slot : ℕ) → slot < day.counts.slots → get_or least slot 0 ≤ count_in plan slot
    least_le =
        least_under day plan feasibly len frees first domains within (first-none day.counts.choices frees) (first_le day.counts.choices frees)
        (free-settles day.counts.choices domains) few (entry_at tables) (weight_at tables) filled.ones lacking
        (λ lack h. entry-under day.counts day.maxs tables filled 0 first lack (omega arith) (omega (arith, first_le day.counts.choices frees, c)) (first_le day.counts.choices frees) h)
        (lacks-at day.counts.slots day.counts.choices day.counts.choosers day.maxs frees domains few) refl

    under-over : (slot : ℕ) → slot < day.counts.slots → count_in plan slot < get_or (under_counts day.rows) slot 0
    unfolding under_counts count_in
    under-over =
        rows-keep lowered_by (λ figure count. count < figure) lowered_over plan day.counts.slots day.rows (feasible_means day plan feasibly).rows
        (replicate 24 65537) (length-replicate {A = ℕ} 24 65537)
        λ slot hs. omega (arith, get_or-replicate {A = ℕ} 24 slot 65537 0 (omega (arith, few)), count_le (length plan) (λ choice. stands_in plan choice slot), len, c)

    parts : (slot : ℕ) → slot < day.counts.slots → count_in plan slot ≡ settled_count day.counts.choices frees domains slot + standing-free slot
    parts =
        count-is day plan feasibly len frees first domains within (first-none day.counts.choices frees) (first_le day.counts.choices frees)
        (free-settles day.counts.choices domains) few

    beyond-at : (figures : List ℕ) (slot : ℕ) → slot < day.counts.slots
        → get_or (written day.counts.slots 0 (beyond_settled day.counts.choices domains figures) (replicate 24 0)) slot 0
        ≡ get_or figures slot 0 - settled_count day.counts.choices frees domains slot
    unfolding beyond_settled
    beyond-at figures slot hs = figure_at day.counts.slots (beyond_settled day.counts.choices domains figures) few slot hs

    fits : bounds_fit day.counts ≡ true
    unfolding bounds_fit
    fits = rw (le-leb _ _ c, le-leb _ _ few)

    -- every slot has fewer free choices than it has room for
    pub rooms_stand : (slot : ℕ) → slot < day.counts.slots
        → free_in day.counts.choices (free_of day.counts.choices domains) plan slot < get_or (rooms_of day.counts day.rows domains) slot 0
    unfolding rooms_of
    rooms_stand slot hs = rw fits (omega (arith, beyond-at (under_counts day.rows) slot hs, under-over slot hs, parts slot hs))

    wants-fit : (slot : ℕ) → slot < day.counts.slots
        → get_or (written day.counts.slots 0 (beyond_settled day.counts.choices domains least) (replicate 24 0)) slot 0 ≤ standing-free slot
    wants-fit slot hs = omega (arith, beyond-at least slot hs, least_le slot hs, parts slot hs)

    apart : all_below day.counts.slots (λ slot. ltb (get_or least slot 0) (get_or (under_counts day.rows) slot 0)) ≡ true
    apart =
        each_all day.counts.slots (λ slot. ltb (get_or least slot 0) (get_or (under_counts day.rows) slot 0))
        λ slot hs. lt-ltb (get_or least slot 0) (get_or (under_counts day.rows) slot 0) (omega (arith, least_le slot hs, under-over slot hs))

  fit-both : bounds_fit day.counts ≡ true → (day.counts.choices ≤ 64) × (day.counts.slots ≤ 24)
  unfolding bounds_fit
  fit-both t =
      (leb-true _ _ (and_left (leb day.counts.choices 64) (leb day.counts.slots 24) t), leb-true _ _ (and_right (leb day.counts.choices 64) (leb day.counts.slots 24) t))

  -- a slot has at least as many free choices as it wants
  pub wants_stand : (slot : ℕ) → slot < day.counts.slots
      → get_or (wants_of (entry_at tables) day.counts day.rows (first_in day.counts.choices (free_of day.counts.choices domains))
      (lacks_of day.counts.slots day.counts.choices day.counts.choosers day.maxs (free_of day.counts.choices domains) domains) domains) slot 0
      ≤ free_in day.counts.choices (free_of day.counts.choices domains) plan slot
  unfolding wants_of
  wants_stand slot hs = go (bounds_fit day.counts) refl
    where
      go : (b : Bool) → bounds_fit day.counts ≡ b
          → get_or (cond b (written day.counts.slots 0 (beyond_settled day.counts.choices domains least) (replicate 24 0)) (replicate 24 0)) slot 0 ≤ standing-free slot
      go true t = wants-fit (fit-both t).0 (fit-both t).1 slot hs
      go false t = omega (arith, zeros-at 24 slot)

  -- where a feasible plan is within the domains nothing is broken
  pub not-broken : broken (entry_at tables) day.counts day.rows (first_in day.counts.choices (free_of day.counts.choices domains))
      (lacks_of day.counts.slots day.counts.choices day.counts.choosers day.maxs (free_of day.counts.choices domains) domains) domains ≡ false
  unfolding broken
  not-broken = go (bounds_fit day.counts) refl
    where
      go : (b : Bool) → bounds_fit day.counts ≡ b
          → (b && not (all_below day.counts.slots (λ slot. ltb (get_or least slot 0) (get_or (under_counts day.rows) slot 0)))) ≡ false
      go true t = ap not (apart (fit-both t).0 (fit-both t).1)
      go false t = refl

-- ---- the rule

-- no domain is added or lost
pub counts-length : (entry : ℕ → ℕ → ℕ → ℕ) (counts : Counts) (maxs : List ℕ) (free : ℕ) (lacks wants rooms domains : List ℕ)
    → length (counts_rule entry counts maxs free lacks wants rooms domains) ≡ length domains
unfolding counts_rule
counts-length entry counts maxs free lacks wants rooms domains = go (tables_fit counts maxs && leb counts.slots 24)
  where
    roomy : List ℕ
    roomy = rooms_below entry counts.choices maxs free (first_in counts.choices free) lacks rooms counts.slots domains

    go : (b : Bool) → length (cond b (each_below counts.choices (want_rule counts.slots wants free) roomy) domains) ≡ length domains
    go true =
        each-length counts.choices (want_rule counts.slots wants free) roomy
        ∙ below_length entry counts.choices maxs free (first_in counts.choices free) lacks rooms counts.slots domains
    go false = refl

-- every feasible plan within the domains stays within what wants and rooms leave of them that it keeps; the
-- figures are those of domains that it is within too
pub counts-within : (day : Day) (plan tables first domains wants rooms : List ℕ) → feasible day plan ≡ true → length plan ≡ day.counts.choices
    → TablesFilled day.counts day.maxs tables → length domains ≡ 64 → Within day.counts.slots plan first → Within day.counts.slots plan domains
    → ((slot : ℕ) → slot < day.counts.slots → get_or wants slot 0 ≤ free_in day.counts.choices (free_of day.counts.choices first) plan slot)
    → (day.counts.choices ≤ 64 → day.counts.slots ≤ 24 → (slot : ℕ) → slot < day.counts.slots
    → free_in day.counts.choices (free_of day.counts.choices first) plan slot < get_or rooms slot 0)
    → Within day.counts.slots plan
    (counts_rule (entry_at tables) day.counts day.maxs (free_of day.counts.choices first)
    (lacks_of day.counts.slots day.counts.choices day.counts.choosers day.maxs (free_of day.counts.choices first) first) wants rooms domains)
unfolding counts_rule
counts-within day plan tables first domains wants rooms f n filled l w v wanted roomy = go (tables_fit day.counts day.maxs && leb day.counts.slots 24) refl
  where
    free : ℕ
    free = free_of day.counts.choices first

    from : ℕ
    from = first_in day.counts.choices free

    lacks : List ℕ
    lacks = lacks_of day.counts.slots day.counts.choices day.counts.choosers day.maxs free first

    left : List ℕ
    left = rooms_below (entry_at tables) day.counts.choices day.maxs free from lacks rooms day.counts.slots domains

    go : (b : Bool) → (tables_fit day.counts day.maxs && leb day.counts.slots 24) ≡ b
        → Within day.counts.slots plan (cond b (each_below day.counts.choices (want_rule day.counts.slots wants free) left) domains)
    go false t = v
    go true t =
        let few : day.counts.slots ≤ 24 = leb-true _ _ (and_right (tables_fit day.counts day.maxs) (leb day.counts.slots 24) t) in
        let c : day.counts.choices ≤ 64 = fit-choices day.counts day.maxs (and_left (tables_fit day.counts day.maxs) (leb day.counts.slots 24) t) in
        let none = first-none day.counts.choices free in
        let inside : from ≤ day.counts.choices = first_le day.counts.choices free in
        wants-within day plan f n free from first w none inside few (free-size day.counts.choices first c) wants wanted left
        (omega (arith, c, l, below_length (entry_at tables) day.counts.choices day.maxs free from lacks rooms day.counts.slots domains))
        (rooms_within day plan f n free from first w none inside few (entry_at tables) (weight_at tables) filled.ones lacks rooms
        (λ lack h. entry-under day.counts day.maxs tables filled 0 from lack (omega arith) (omega (arith, inside, c)) inside h)
        (lacks-at day.counts.slots day.counts.choices day.counts.choosers day.maxs free first few) (roomy c few)
        day.counts.slots domains (omega arith) (omega (arith, c, l)) v)
