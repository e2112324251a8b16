-- How many choices each slot has at least and fewer than how many, and what that leaves of the domains: a
-- slot takes no choice that it has no room for, and the free choices that the slots want are different ones.
use Rattle.std.specs.Prelude.{Bool, true, false, ◌&&◌, not, cond, List, [], ◌∷◌, ℕ, zero, suc, ◌+◌, ◌-◌, max, min, eqb, ltb, leb, get_or, set, replicate}
use Rattle.base_lists.specs.Below.{all_below, count_below, sum_below}
use Rattle.base_lists.specs.Keep.{any_of}
use Rattle.day_rows.specs.Op.{eq_op, gt_op, geq_op, neq_op, leq_op, lt_op}
use Rattle.day_rows.specs.Row.{row_of}
use Rattle.day_rows.specs.declared.check.Counts.{Counts}
use Rattle.day_rows.specs.declared.row.Row.{Row}
use Rattle.base_choice_sets.specs.Sets.{has, set_of, size_of}
use Rattle.list_tables.specs.steps.Tables.{tables_fit, written}
use Rattle.list_domains.specs.steps.Domains.{kept_places, both_places, each_below}
use Rattle.list_rule_tables.specs.steps.Figures.{free_of, first_in, settled_in}

-- ---- the limits

-- '6: count of choices in the slot against the limit': what a limit makes of the least count of its slot
unfoldable pub raised_by : ℕ → ℕ → ℕ → ℕ
raised_by op limit count =
    cond (eqb op eq_op) (max count limit)
    (cond (eqb op geq_op) (max count limit)
    (cond (eqb op gt_op) (max count (suc limit))
    (cond (eqb op neq_op) (cond (eqb count limit) (suc count) count)
    count)))

-- what a limit makes of the first count that its slot can't have
unfoldable pub lowered_by : ℕ → ℕ → ℕ → ℕ
lowered_by op limit under =
    cond (eqb op eq_op) (min under (suc limit))
    (cond (eqb op leq_op) (min under (suc limit))
    (cond (eqb op lt_op) (min under limit)
    under))

-- a row of kind 6 changes the figure of its slot, one of another kind none
unfoldable pub limit_changes : (ℕ → ℕ → ℕ → ℕ) → Row → List ℕ → List ℕ
limit_changes by row figures =
    cond (eqb row.kind 6 && ltb row.left 24)
    (set figures row.left (by row.extra row.right (get_or figures row.left 0)))
    figures

-- the figures changed by the rows in order
unfoldable pub limits_change : (ℕ → ℕ → ℕ → ℕ) → List ℕ → List ℕ → List ℕ
limits_change by [] figures = figures
limits_change by (number ∷ rows) figures = limits_change by rows (limit_changes by (row_of number) figures)

-- whether some row is a limit: without one the table of ones says as much by its own figures
unfoldable pub has_limit : List ℕ → Bool
has_limit rows = any_of (λ number. eqb (row_of number).kind 6) rows

-- ---- the counts

-- how many settled choices stand in a slot
unfoldable pub settled_count : ℕ → ℕ → List ℕ → ℕ → ℕ
settled_count choices free domains slot = count_below choices (settled_in free domains slot)

-- the fewest choices that a slot has by its sums: the settled ones, and as many as fill its lack, each of
-- which weighs at most 1 in table 0
unfoldable pub count_of : (ℕ → ℕ → ℕ → ℕ) → ℕ → ℕ → ℕ → List ℕ → List ℕ → ℕ → ℕ
count_of entry choices free from lacks domains slot =
    settled_count choices free domains slot + entry 0 from (get_or lacks slot 0)

-- the fewest choices that each slot has by its sums and by the limits
unfoldable pub least_counts : (ℕ → ℕ → ℕ → ℕ) → Counts → List ℕ → ℕ → List ℕ → List ℕ → List ℕ
least_counts entry counts rows from lacks domains =
    limits_change raised_by rows
    (written counts.slots 0
    (count_of entry counts.choices (free_of counts.choices domains) from lacks domains)
    (replicate 24 0))

-- the first count that a slot can't have by the limits; no limit is over 65,535
unfoldable pub under_counts : List ℕ → List ℕ
under_counts rows = limits_change lowered_by rows (replicate 24 65537)

-- ---- what the counts say of the free choices

-- the days that have bounds: at most 64 choices and 24 slots
unfoldable pub bounds_fit : Counts → Bool
bounds_fit counts = leb counts.choices 64 && leb counts.slots 24

-- a slot's figure without the settled choices that stand there
unfoldable pub beyond_settled : ℕ → List ℕ → List ℕ → ℕ → ℕ
beyond_settled choices domains figures slot =
    get_or figures slot 0 - settled_count choices (free_of choices domains) domains slot

-- how many free choices each slot has at least; of a day of another shape none
unfoldable pub wants_of : (ℕ → ℕ → ℕ → ℕ) → Counts → List ℕ → ℕ → List ℕ → List ℕ → List ℕ
wants_of entry counts rows from lacks domains =
    cond (bounds_fit counts)
    (written counts.slots 0
    (beyond_settled counts.choices domains (least_counts entry counts rows from lacks domains))
    (replicate 24 0))
    (replicate 24 0)

-- fewer than how many free choices each slot has; of a day of another shape 0, which says nothing
unfoldable pub rooms_of : Counts → List ℕ → List ℕ → List ℕ
rooms_of counts rows domains =
    cond (bounds_fit counts)
    (written counts.slots 0 (beyond_settled counts.choices domains (under_counts rows)) (replicate 24 0))
    (replicate 24 0)

-- some slot's least count is one that it can't have: no plan goes on from there
unfoldable pub broken : (ℕ → ℕ → ℕ → ℕ) → Counts → List ℕ → ℕ → List ℕ → List ℕ → Bool
broken entry counts rows from lacks domains =
    bounds_fit counts
    && not
    (all_below counts.slots λ slot.
    ltb (get_or (least_counts entry counts rows from lacks domains) slot 0) (get_or (under_counts rows) slot 0))

-- ---- what is left of the domains

-- a free choice loses a slot that, with it and as many more as fill the rest of its lack, would
-- have a count that it can't have
unfoldable pub room_rule : (ℕ → ℕ → ℕ → ℕ) → List ℕ → ℕ → ℕ → List ℕ → List ℕ → ℕ → ℕ → ℕ → ℕ
room_rule entry maxs free from lacks rooms slot choice domain =
    cond
    (has free choice && leb (get_or rooms slot 0) (suc (entry 0 from (get_or lacks slot 0 - get_or maxs choice 0))))
    (kept_places domain slot false true)
    domain

-- one slot's rule for every choice: a slot that has room for all of them is lost to none
unfoldable pub slot_rule : (ℕ → ℕ → ℕ → ℕ) → ℕ → List ℕ → ℕ → ℕ → List ℕ → List ℕ → ℕ → List ℕ → List ℕ
slot_rule entry choices maxs free from lacks rooms slot domains =
    cond (ltb 64 (get_or rooms slot 0)) domains
    (each_below choices (room_rule entry maxs free from lacks rooms slot) domains)

-- the rooms of the first so many slots, one slot after the other
unfoldable pub rooms_below : (ℕ → ℕ → ℕ → ℕ) → ℕ → List ℕ → ℕ → ℕ → List ℕ → List ℕ → ℕ → List ℕ → List ℕ
rooms_below entry choices maxs free from lacks rooms zero domains = domains
rooms_below entry choices maxs free from lacks rooms (suc slot) domains =
    slot_rule entry choices maxs free from lacks rooms slot
    (rooms_below entry choices maxs free from lacks rooms slot domains)

-- what is left of a free choice's domain: nothing if all slots together want more free choices than there
-- are, the slots that want some if they want them all
unfoldable pub count_leaves : ℕ → List ℕ → ℕ → ℕ → ℕ
count_leaves slots wants free domain =
    let need = sum_below slots (λ slot. get_or wants slot 0) in
    cond (ltb (size_of free) need) 0
    (cond (eqb need (size_of free)) (both_places domain (set_of slots λ slot. ltb 0 (get_or wants slot 0)))
    domain)

-- what the wants leave of one choice's domain: a choice that isn't free keeps it
unfoldable pub want_rule : ℕ → List ℕ → ℕ → ℕ → ℕ → ℕ
want_rule slots wants free choice domain = cond (has free choice) (count_leaves slots wants free domain) domain

-- what the counts leave of the domains, by figures that the caller has; of a day that the tables don't
-- hold the domains stay as they are
unfoldable pub counts_rule : (ℕ → ℕ → ℕ → ℕ) → Counts → List ℕ → ℕ → List ℕ → List ℕ → List ℕ → List ℕ → List ℕ
counts_rule entry counts maxs free lacks wants rooms domains =
    cond (tables_fit counts maxs && leb counts.slots 24)
    (each_below counts.choices (want_rule counts.slots wants free)
    (rooms_below entry counts.choices maxs free (first_in counts.choices free) lacks rooms
    counts.slots domains))
    domains
