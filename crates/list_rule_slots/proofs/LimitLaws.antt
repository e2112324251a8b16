-- What a row of kind 6 leaves: a plan within the domains that keeps the row stays within what is left.
use mathlib.Core.Path.{◌≡◌, refl, sym, ◌∙◌, ap}
use mathlib.Core.Bool.{Bool, true, false, ◌&&◌, not, cond, false≢true}
use mathlib.Core.List.{List}
use Prim.Native.Nat.{ℕ, ◌+◌, ◌≤◌, ◌<◌}
use native.Mathlib.Omega.{arith}
use borrow.Author.Tests.{le-leb, leb-true, lt-ltb, ltb-true, eq-eqb, ne_eqb, eqb-true}
use lib.Dec.{eqb, ltb, leb}
use lib.ListN.{length, get_or}
use Rattle.base_lists.specs.Below.{one, sum_below}
use Rattle.base_lists.proofs.Below.{and_left, and_right, and_both}
use Rattle.base_lists.proofs.Sums.{count-sum}
use Rattle.day_rows.specs.Op.{eq_op, gt_op, geq_op, neq_op, leq_op, lt_op}
use Rattle.day_rows.specs.declared.check.Counts.{Counts}
use Rattle.day_rows.specs.declared.row.Row.{Row}
use Rattle.plan_check.specs.Plan.{slot_of, stands_in, count_in}
use Rattle.plan_check.specs.Rows.{op_holds, keeps_row}
use Rattle.base_choice_sets.specs.Sets.{has}
use Rattle.list_domains.specs.steps.Domains.{place_number, Within, only_place, each_below}
use Rattle.list_domains.proofs.DomainLaws.{number_le, number-stands, kept-stays, each-length, each_within}
use Rattle.list_rule_slots.specs.steps.SlotRules.{must_count, may_count, op_can, limit_leaves, limit_fits, limit_rule}
use Rattle.list_rule_slots.proofs.StandLaws.{sum-in, sum-out, only_stands, stands-has}

-- ---- the op

-- a count from low to high that keeps the limit
pub op-can : (op low n high limit : ℕ) → low ≤ n → n ≤ high → op_holds op n limit ≡ true → op_can op low high limit ≡ true
unfolding op_holds op_can
op-can op low n high limit a b = ways (eqb op eq_op) (eqb op neq_op) (eqb op gt_op) (eqb op lt_op) (eqb op geq_op) (eqb op leq_op)
  where
    within : eqb n limit ≡ true → (leb low limit && leb limit high) ≡ true
    within t =
        let e : n ≡ limit = eqb-true n limit t in
        and_both (leb low limit) (leb limit high) (le-leb low limit (omega arith)) (le-leb limit high (omega arith))

    other : not (eqb n limit) ≡ true → (x y : Bool) → eqb low limit ≡ x → eqb high limit ≡ y → not (x && y) ≡ true
    other t true true p q =
        let e : n ≡ limit = omega (arith, eqb-true low limit p, eqb-true high limit q) in
        absurd (false≢true (ap not (sym (eq-eqb n limit e)) ∙ t))
    other t true false p q = refl
    other t false y p q = refl

    ways : (a b c d e f : Bool)
        → cond a (eqb n limit) (cond b (not (eqb n limit)) (cond c (ltb limit n) (cond d (ltb n limit) (cond e (leb limit n) (cond f (leb n limit) false))))) ≡ true
        → cond a (leb low limit && leb limit high) (cond b (not (eqb low limit && eqb high limit)) (cond c (ltb limit high) (cond d (ltb low limit) (cond e (leb limit high) (cond f (leb low limit) false))))) ≡ true
    ways true b c d e f h = within h
    ways false true c d e f h = other h (eqb low limit) (eqb high limit) refl refl
    ways false false true d e f h = lt-ltb limit high (omega (arith, ltb-true limit n h))
    ways false false false true e f h = lt-ltb low limit (omega (arith, ltb-true n limit h))
    ways false false false false true f h = le-leb limit high (omega (arith, leb-true limit n h))
    ways false false false false false true h = le-leb low limit (omega (arith, leb-true n limit h))
    ways false false false false false false h = h

-- ---- the counts: sums of ones

one_else : (b : Bool) → cond b 0 1 ≡ one (not b)
unfolding one
one_else true = refl
one_else false = refl

one_if : (b : Bool) → cond b 1 0 ≡ one b
unfolding one
one_if true = refl
one_if false = refl

module _ (slots slot : ℕ) (plan domains : List ℕ) (few : slots ≤ 24) (lo : slot < slots) (w : Within slots plan domains)
    (choice : ℕ) (l : choice < length plan) where
  must-sum : must_count (length plan) domains slot ≡ sum_below (length plan) λ i. cond (eqb (get_or domains i 0) (only_place slot)) 1 0
  unfolding must_count
  must-sum = count-sum (length plan) λ i. eqb (get_or domains i 0) (only_place slot)

  may-sum : may_count (length plan) domains slot ≡ sum_below (length plan) λ i. cond (has (get_or domains i 0) slot) 1 0
  unfolding may_count
  may-sum = count-sum (length plan) λ i. has (get_or domains i 0) slot

  in_sum : count_in plan slot ≡ sum_below (length plan) λ i. cond (stands_in plan i slot) 1 0
  unfolding count_in
  in_sum = count-sum (length plan) λ i. stands_in plan i slot

  -- the choice stands in the slot, or elsewhere: the count without it, or beside it
  must_in : stands_in plan choice slot ≡ true → must_count (length plan) domains slot + one (not (eqb (get_or domains choice 0) (only_place slot))) ≤ count_in plan slot
  must_in t =
      rw (must-sum, in_sum, sym (one_else (eqb (get_or domains choice 0) (only_place slot))))
      (sum-in (length plan) (λ i. 1) (λ i. eqb (get_or domains i 0) (only_place slot)) (λ i. stands_in plan i slot)
      (only_stands slots slot plan domains few lo w) choice l t)

  may_in : stands_in plan choice slot ≡ true → count_in plan slot ≤ may_count (length plan) domains slot
  may_in t =
      let h : count_in plan slot + cond (stands_in plan choice slot) 0 1 ≤ may_count (length plan) domains slot =
      rw (may-sum, in_sum)
      (sum-in (length plan) (λ i. 1) (λ i. stands_in plan i slot) (λ i. has (get_or domains i 0) slot)
      (stands-has slots slot plan domains few lo w) choice l (stands-has slots slot plan domains few lo w choice l t))
      in omega arith

  must-out : stands_in plan choice slot ≡ false → must_count (length plan) domains slot ≤ count_in plan slot
  must-out t =
      let h : must_count (length plan) domains slot + cond (stands_in plan choice slot) 1 0 ≤ count_in plan slot =
      rw (must-sum, in_sum)
      (sum-out (length plan) (λ i. 1) (λ i. eqb (get_or domains i 0) (only_place slot)) (λ i. stands_in plan i slot)
      (only_stands slots slot plan domains few lo w) choice l (go (eqb (get_or domains choice 0) (only_place slot)) refl))
      in omega arith
    where
      go : (b : Bool) → eqb (get_or domains choice 0) (only_place slot) ≡ b → b ≡ false
      go true e = sym (only_stands slots slot plan domains few lo w choice l e) ∙ t
      go false e = refl

  may-out : stands_in plan choice slot ≡ false → count_in plan slot + one (has (get_or domains choice 0) slot) ≤ may_count (length plan) domains slot
  may-out t =
      rw (may-sum, in_sum, sym (one_if (has (get_or domains choice 0) slot)))
      (sum-out (length plan) (λ i. 1) (λ i. stands_in plan i slot) (λ i. has (get_or domains i 0) slot)
      (stands-has slots slot plan domains few lo w) choice l t)

-- ---- the row

-- what a row of kind 6 asks
keeps-limit : (plan : List ℕ) (row : Row) → row.kind ≡ 6 → keeps_row plan row ≡ true → op_holds row.extra (count_in plan row.left) row.right ≡ true
unfolding keeps_row
keeps-limit plan row e h = rw e at h

module _ (counts : Counts) (row : Row) (plan domains : List ℕ) (few : counts.slots ≤ 24) (lo : row.left < counts.slots)
    (w : Within counts.slots plan domains) (f : op_holds row.extra (count_in plan row.left) row.right ≡ true) where
  -- the plan's place of a choice is left
  limit-stays : (choice : ℕ) → choice < length plan
      → has (limit_leaves row (must_count (length plan) domains row.left) (may_count (length plan) domains row.left) (get_or domains choice 0))
      (place_number counts.slots (slot_of plan choice)) ≡ true
  unfolding limit_leaves Within
  limit-stays choice l =
      let s : stands_in plan choice row.left ≡ eqb (place_number counts.slots (slot_of plan choice)) row.left = sym (number-stands counts.slots plan choice row.left (omega arith) lo) in
      kept-stays (get_or domains choice 0) row.left _ _ (place_number counts.slots (slot_of plan choice))
      (omega (arith, number_le counts.slots (slot_of plan choice))) (w choice l)
      (λ e. let t = s ∙ eq-eqb _ _ e in
      op-can row.extra _ (count_in plan row.left) _ row.right
      (must_in counts.slots row.left plan domains few lo w choice l t)
      (omega (arith, may_in counts.slots row.left plan domains few lo w choice l t)) f)
      (λ n. let t = s ∙ ne_eqb _ _ n in
      op-can row.extra _ (count_in plan row.left) _ row.right
      (omega (arith, must-out counts.slots row.left plan domains few lo w choice l t))
      (omega (arith, may-out counts.slots row.left plan domains few lo w choice l t)) f)

fits : (counts : Counts) (row : Row) → limit_fits counts row ≡ true → (counts.choices ≤ 64) × (counts.slots ≤ 24) × (row.left < counts.slots)
unfolding limit_fits
fits counts row h =
    let t = and_left (leb counts.choices 64 && leb counts.slots 24) (ltb row.left counts.slots) h in (
      leb-true _ _ (and_left (leb counts.choices 64) (leb counts.slots 24) t),
      leb-true _ _ (and_right (leb counts.choices 64) (leb counts.slots 24) t),
      ltb-true _ _ (and_right (leb counts.choices 64 && leb counts.slots 24) (ltb row.left counts.slots) h),
    )

-- no domain is added or lost
pub limit-length : (counts : Counts) (row : Row) (domains : List ℕ) → length (limit_rule counts row domains) ≡ length domains
unfolding limit_rule
limit-length counts row domains = go (limit_fits counts row)
  where
    rule : ℕ → ℕ → ℕ
    rule = λ choice domain. limit_leaves row (must_count counts.choices domains row.left) (may_count counts.choices domains row.left) domain

    go : (b : Bool) → length (cond b (each_below counts.choices rule domains) domains) ≡ length domains
    go true = each-length counts.choices rule domains
    go false = refl

-- a plan within the domains that keeps the row stays within what the row leaves
pub limit-within : (counts : Counts) (row : Row) (plan domains : List ℕ) → keeps_row plan row ≡ true → row.kind ≡ 6
    → length plan ≡ counts.choices → length domains ≡ 64
    → Within counts.slots plan domains → Within counts.slots plan (limit_rule counts row domains)
unfolding limit_rule
limit-within counts row plan domains h k size n w = go (limit_fits counts row) refl
  where
    rule : ℕ → ℕ → ℕ
    rule = λ choice domain. limit_leaves row (must_count counts.choices domains row.left) (may_count counts.choices domains row.left) domain

    go : (b : Bool) → limit_fits counts row ≡ b → Within counts.slots plan (cond b (each_below counts.choices rule domains) domains)
    go true t =
        let a = fits counts row t in
        each_within counts.slots plan domains w counts.choices rule (omega (arith, a.0))
        λ choice l m t. rw size at (limit-stays counts row plan domains a.1 a.2 w (keeps-limit plan row k h) choice m)
    go false t = w
