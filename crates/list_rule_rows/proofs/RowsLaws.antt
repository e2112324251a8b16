-- Every row in order: the loop's steps, and that a feasible plan stays within what they all leave.
use mathlib.Core.Path.{◌≡◌, refl, sym, ◌∙◌, ap, subst}
use mathlib.Core.Bool.{Bool, true, false, ◌&&◌, cond}
use mathlib.Core.List.{List, [], ◌∷◌}
use Prim.Native.Nat.{ℕ, ◌+◌, ◌≤◌, ◌<◌}
use native.Mathlib.Decide.{ℕ_discrete}
use borrow.Author.Tests.{eq-eqb, ne_eqb}
use lib.Dec.{eqb}
use lib.ListN.{length, get_or, set, drop, length-set, drop_of_length-le}
use Rattle.base_lists.specs.Below.{all_below}
use Rattle.base_lists.proofs.Below.{and_left, and_right}
use Rattle.base_lists.proofs.Keep.{drop-at-place}
use Rattle.day_rows.specs.Row.{row_of}
use Rattle.day_rows.specs.declared.row.Row.{Row}
use Rattle.day_rows.specs.declared.check.Counts.{Counts}
use Rattle.plan_check.specs.Day.{Day}
use Rattle.plan_check.specs.Plan.{slot_of}
use Rattle.plan_check.specs.Rows.{keeps_row, keeps_rows}
use Rattle.plan_check.specs.Feasible.{places_allowed, slot_fits, feasible}
use Rattle.list_domains.specs.steps.Domains.{Within}
use Rattle.list_domains.proofs.DomainLaws.{feasible-place}
use Rattle.list_rule_slots.specs.steps.SlotRules.{limit_rule}
use Rattle.list_rule_slots.proofs.LimitLaws.{limit-length, limit-within}
use Rattle.list_rule_rows.specs.steps.RowRules.{has_domain, slot_leaves, slot_rule, pair_left, pair_right, pair_set, pair_rule, self_leaves, self_rule, between_rule, row_rule}
use Rattle.list_rule_rows.specs.steps.RowsRule.{any_rule, rows_rule}
use Rattle.list_rule_rows.proofs.RowLaws.{Allowed, row_within}

-- ---- one row

module _ (counts : Counts) (row : Row) (domains : List ℕ) where
  pub any_limit : row.kind ≡ 6 → limit_rule counts row domains ≡ any_rule counts row domains
  unfolding any_rule
  any_limit e = ap (λ (b : Bool). cond b (limit_rule counts row domains) (row_rule counts.choices counts.slots row domains)) (sym (eq-eqb row.kind 6 e))

  pub any_row : (row.kind ≡ 6 → ⊥) → row_rule counts.choices counts.slots row domains ≡ any_rule counts row domains
  unfolding any_rule
  any_row n = ap (λ (b : Bool). cond b (limit_rule counts row domains) (row_rule counts.choices counts.slots row domains)) (sym (ne_eqb row.kind 6 n))

-- ---- the loop

module _ (counts : Counts) (rows : List ℕ) where
  -- the next row, then the rest
  pub rows_next : (i : ℕ) (domains : List ℕ) → i < length rows
      → rows_rule counts (drop i rows) domains ≡ rows_rule counts (drop (i + 1) rows) (any_rule counts (row_of (get_or rows i 0)) domains)
  unfolding rows_rule
  rows_next i domains h = ap (λ (l : List ℕ). rows_rule counts l domains) (drop-at-place rows i 0 h) ∙ rows-first (get_or rows i 0) (drop (i + 1) rows) domains
    where
      rows-first : (number : ℕ) (rest domains : List ℕ) → rows_rule counts (number ∷ rest) domains ≡ rows_rule counts rest (any_rule counts (row_of number) domains)
      rows-first number rest domains = refl

  pub rows-done : (i : ℕ) (domains : List ℕ) → length rows ≤ i → rows_rule counts (drop i rows) domains ≡ domains
  unfolding rows_rule
  rows-done i domains h = ap (λ (l : List ℕ). rows_rule counts l domains) (drop_of_length-le rows h)

  -- a turn of the loop
  pub rows-turn : (i : ℕ) (first domains domains' : List ℕ) → i < length rows → rows_rule counts (drop i rows) domains ≡ rows_rule counts rows first
      → domains' ≡ any_rule counts (row_of (get_or rows i 0)) domains → rows_rule counts (drop (i + 1) rows) domains' ≡ rows_rule counts rows first
  rows-turn i first domains domains' h e f =
      ap (rows_rule counts (drop (i + 1) rows)) f ∙ sym (rows_next i domains h) ∙ e

  pub rows_end : (i : ℕ) (first domains : List ℕ) → length rows ≤ i → rows_rule counts (drop i rows) domains ≡ rows_rule counts rows first
      → domains ≡ rows_rule counts rows first
  rows_end i first domains h e = sym (rows-done i domains h) ∙ e

-- ---- no rule changes how many domains there are

either : (b : Bool) (x y : List ℕ) (n : ℕ) → length x ≡ n → length y ≡ n → length (cond b x y) ≡ n
either true x y n h k = h
either false x y n h k = k

module _ (choices slots : ℕ) (row : Row) (domains : List ℕ) where
  slot-length : (stands : Bool) → length (slot_rule choices slots row stands domains) ≡ length domains
  unfolding slot_rule
  slot-length stands =
      either (has_domain choices row.left) (set domains row.left (slot_leaves slots row.right stands (get_or domains row.left 0))) domains (length domains)
      (length-set domains row.left (slot_leaves slots row.right stands (get_or domains row.left 0)))
      refl

  pair-length : length (pair_rule choices slots row domains) ≡ length domains
  unfolding pair_rule pair_set
  pair-length = either (has_domain choices row.left && has_domain choices row.right) both domains (length domains) two refl
    where
      one : ℕ
      one = pair_left slots row (get_or domains row.left 0) (get_or domains row.right 0)

      both : List ℕ
      both = set (set domains row.left one) row.right (pair_right slots row one (get_or domains row.right 0))

      two : length both ≡ length domains
      two =
          length-set (set domains row.left one) row.right (pair_right slots row one (get_or domains row.right 0))
          ∙ length-set domains row.left one

  self_length : length (self_rule choices slots row domains) ≡ length domains
  unfolding self_rule
  self_length =
      either (has_domain choices row.left) (set domains row.left (self_leaves slots row (get_or domains row.left 0))) domains (length domains)
      (length-set domains row.left (self_leaves slots row (get_or domains row.left 0)))
      refl

  between-length : length (between_rule choices slots row domains) ≡ length domains
  unfolding between_rule
  between-length =
      either (eqb row.left row.right) (self_rule choices slots row domains) (pair_rule choices slots row domains) (length domains) self_length pair-length

  pub row-length : length (row_rule choices slots row domains) ≡ length domains
  unfolding row_rule
  row-length =
      let n = length domains in
      let p = between_rule choices slots row domains in
      let e5 = either (eqb row.kind 5) p domains n between-length refl in
      let e4 = either (eqb row.kind 4) p (cond (eqb row.kind 5) p domains) n between-length e5 in
      let e3 = either (eqb row.kind 3) p (cond (eqb row.kind 4) p (cond (eqb row.kind 5) p domains)) n between-length e4 in
      let r3 = cond (eqb row.kind 3) p (cond (eqb row.kind 4) p (cond (eqb row.kind 5) p domains)) in
      let e2 = either (eqb row.kind 2) (slot_rule choices slots row false domains) r3 n (slot-length false) e3 in
      either (eqb row.kind 1) (slot_rule choices slots row true domains) (cond (eqb row.kind 2) (slot_rule choices slots row false domains) r3) n (slot-length true) e2

-- ---- plans stay within

module _ (counts : Counts) (plan : List ℕ) (sized : length plan ≡ counts.choices) (few : counts.slots ≤ 24)
    (places : (choice : ℕ) → choice < length plan → Allowed counts.slots (slot_of plan choice)) where
  any_within : (row : Row) (domains : List ℕ) → keeps_row plan row ≡ true → length domains ≡ 64
      → Within counts.slots plan domains → Within counts.slots plan (any_rule counts row domains)
  any_within row domains kept full w = go (ℕ_discrete row.kind 6)
    where
      go : Dec (row.kind ≡ 6) → Within counts.slots plan (any_rule counts row domains)
      go (yes e) =
          subst (λ (d : List ℕ). Within counts.slots plan d) (any_limit counts row domains e)
          (limit-within counts row plan domains kept e sized full w)
      go (no n) =
          subst (λ (d : List ℕ). Within counts.slots plan d) (any_row counts row domains n)
          (row_within counts.choices counts.slots plan row domains sized full w few kept places)

  any_length : (row : Row) (domains : List ℕ) → length (any_rule counts row domains) ≡ length domains
  unfolding any_rule
  any_length row domains =
      either (eqb row.kind 6) (limit_rule counts row domains) (row_rule counts.choices counts.slots row domains) (length domains)
      (limit-length counts row domains) (row-length counts.choices counts.slots row domains)

  -- a plan that keeps the rows
  pub kept-within : (rows domains : List ℕ) → keeps_rows plan rows ≡ true → length domains ≡ 64
      → Within counts.slots plan domains → Within counts.slots plan (rows_rule counts rows domains)
  unfolding rows_rule keeps_rows Rattle.base_lists.specs.All.all_of
  kept-within [] domains kept full w = w
  kept-within (number ∷ rows) domains kept full w =
      let row = row_of number in
      kept-within rows (any_rule counts row domains) (and_right (keeps_row plan row) (keeps_rows plan rows) kept) (any_length row domains ∙ full)
      (any_within row domains (and_left (keeps_row plan row) (keeps_rows plan rows) kept) full w)

-- a feasible plan stays within what its day's rows leave
pub rows-within : (day : Day) (plan domains : List ℕ) → feasible day plan ≡ true → length plan ≡ day.counts.choices → day.counts.slots ≤ 24 → length domains ≡ 64
    → Within day.counts.slots plan domains → Within day.counts.slots plan (rows_rule day.counts day.rows domains)
unfolding feasible
rows-within day plan domains f sized few full w =
    kept-within day.counts plan sized few (feasible-place day plan f) day.rows domains
    (and_right
    (places_allowed day.counts.slots day.optional plan && all_below day.counts.slots (slot_fits day.counts.choosers day.mins day.maxs plan))
    (keeps_rows plan day.rows) f)
    full w
