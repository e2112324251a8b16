-- What 'Each slot: sum of min <= H <= sum of max' and a row of kind 6 leave of each choice's places.
use Rattle.std.specs.Prelude.{Bool, false, ◌&&◌, not, cond, List, ℕ, ◌+◌, ◌-◌, eqb, ltb, leb, length, get_or}
use Rattle.base_lists.specs.Below.{one, all_below, count_below, sum_below}
use Rattle.day_rows.specs.Op.{eq_op, gt_op, geq_op, neq_op, leq_op, lt_op}
use Rattle.day_rows.specs.declared.check.Counts.{Counts}
use Rattle.day_rows.specs.declared.row.Row.{Row}
use Rattle.base_choice_sets.specs.Sets.{has, set_of}
use Rattle.list_domains.specs.steps.Domains.{only_place, kept_places, each_below}

-- what must stand in the slot: the amounts of the choices that have no other place
unfoldable pub certain : ℕ → List ℕ → List ℕ → ℕ → ℕ
certain choices amounts domains slot =
    sum_below choices λ choice. cond (eqb (get_or domains choice 0) (only_place slot)) (get_or amounts choice 0) 0

-- what may stand in the slot: the amounts of the choices that have it among their places
unfoldable pub possible : ℕ → List ℕ → List ℕ → ℕ → ℕ
possible choices amounts domains slot =
    sum_below choices λ choice. cond (has (get_or domains choice 0) slot) (get_or amounts choice 0) 0

-- 'sum of min <= H': a choice may stand in the slot if its minimum still fits beside what must stand there
unfoldable pub minimum_fits : ℕ → ℕ → ℕ → ℕ → ℕ → Bool
minimum_fits choosers slot sure least domain =
    leb (sure + cond (eqb domain (only_place slot)) 0 least) choosers

-- 'H <= sum of max': a choice may stand elsewhere if what else may stand in the
-- slot is enough without its maximum
unfoldable pub maximum_spared : ℕ → ℕ → ℕ → ℕ → ℕ → Bool
maximum_spared choosers slot able most domain =
    leb (choosers + cond (has domain slot) most 0) able

-- a slot's sums let a choice take a place: the slot itself, or one elsewhere
unfoldable pub slot_allows : ℕ → ℕ → ℕ → ℕ → ℕ → ℕ → ℕ → ℕ → Bool
slot_allows choosers sure able least most domain place slot =
    cond (eqb place slot) (minimum_fits choosers slot sure least domain)
    (maximum_spared choosers slot able most domain)

-- what the first slots leave of one domain: the places that each of them allows
unfoldable pub slots_leave : ℕ → (ℕ → ℕ) → (ℕ → ℕ) → ℕ → ℕ → ℕ → ℕ → ℕ
slots_leave choosers sure able least most slots domain =
    set_of 64 λ place.
    has domain place
    && all_below slots λ slot. slot_allows choosers (sure slot) (able slot) least most domain place slot

-- 'sum of min <= H <= sum of max' by what must and what may stand in each slot;
-- where it fails there is no plan
unfoldable pub in_order : Counts → (ℕ → ℕ) → (ℕ → ℕ) → Bool
in_order counts sure able =
    all_below counts.slots λ slot. leb (sure slot) counts.choosers && leb counts.choosers (able slot)

-- what every slot leaves of one domain: no place where the sums are out of order
unfoldable pub sums_leave : Counts → (ℕ → ℕ) → (ℕ → ℕ) → ℕ → ℕ → ℕ → ℕ
sums_leave counts sure able least most domain =
    cond (in_order counts sure able)
    (slots_leave counts.choosers sure able least most counts.slots domain)
    0

-- what every slot leaves of every domain
unfoldable pub each_left : Counts → List ℕ → List ℕ → (ℕ → ℕ) → (ℕ → ℕ) → List ℕ → List ℕ
each_left counts mins maxs sure able domains =
    each_below counts.choices
    (λ choice domain. sums_leave counts sure able (get_or mins choice 0) (get_or maxs choice 0) domain)
    domains

-- at most 64 choices and 24 slots, with a minimum and a maximum for each choice
unfoldable pub amounts_fit : Counts → List ℕ → List ℕ → Bool
amounts_fit counts mins maxs =
    leb counts.choices 64 && leb counts.slots 24
    && eqb (length mins) counts.choices && eqb (length maxs) counts.choices

-- what every slot of the day leaves, all sums taken once, of the domains as they are given; what has
-- no day's shape changes nothing
unfoldable pub slots_rule : Counts → List ℕ → List ℕ → List ℕ → List ℕ
slots_rule counts mins maxs domains =
    cond (amounts_fit counts mins maxs)
    (each_left counts mins maxs (certain counts.choices mins domains)
    (possible counts.choices maxs domains) domains)
    domains

-- how many choices must stand in the slot
unfoldable pub must_count : ℕ → List ℕ → ℕ → ℕ
must_count choices domains slot = count_below choices λ choice. eqb (get_or domains choice 0) (only_place slot)

-- how many choices may stand in the slot
unfoldable pub may_count : ℕ → List ℕ → ℕ → ℕ
may_count choices domains slot = count_below choices λ choice. has (get_or domains choice 0) slot

-- some count from low to high keeps '6: count of choices in the slot against the limit', by the op
unfoldable pub op_can : ℕ → ℕ → ℕ → ℕ → Bool
op_can op low high limit =
    cond (eqb op eq_op) (leb low limit && leb limit high)
    (cond (eqb op neq_op) (not (eqb low limit && eqb high limit))
    (cond (eqb op gt_op) (ltb limit high)
    (cond (eqb op lt_op) (ltb low limit)
    (cond (eqb op geq_op) (leb limit high)
    (cond (eqb op leq_op) (leb low limit)
    false)))))

-- what a limit leaves of one domain: the counts with the choice in the slot, and without it
unfoldable pub limit_leaves : Row → ℕ → ℕ → ℕ → ℕ
limit_leaves row must may domain =
    kept_places domain row.left
    (op_can row.extra (must + one (not (eqb domain (only_place row.left))))
    (may + one (not (has domain row.left))) row.right)
    (op_can row.extra (must - one (eqb domain (only_place row.left)))
    (may - one (has domain row.left)) row.right)

-- at most 64 choices and 24 slots, and the row's slot is one of them
unfoldable pub limit_fits : Counts → Row → Bool
limit_fits counts row =
    leb counts.choices 64 && leb counts.slots 24 && ltb row.left counts.slots

-- what a row of kind 6 leaves of every domain; a row of no slot of the day changes nothing
unfoldable pub limit_rule : Counts → Row → List ℕ → List ℕ
limit_rule counts row domains =
    cond (limit_fits counts row)
    (each_below counts.choices
    (λ choice domain.
    limit_leaves row (must_count counts.choices domains row.left)
    (may_count counts.choices domains row.left) domain)
    domains)
    domains
