-- The places of the next choice with which the choices after it are still enough for
-- what the slots lack, by table 1.
use Rattle.std.specs.Prelude.{Bool, ◌&&◌, cond, List, ℕ, ◌+◌, ◌-◌, ltb, leb, get_or, replicate}
use Rattle.base_lists.specs.Below.{sum_below}
use Rattle.day_rows.specs.declared.check.Counts.{Counts}
use Rattle.base_choice_sets.specs.Sets.{has, set_of}
use Rattle.list_tables.specs.steps.Weights.{sum_from}
use Rattle.list_tables.specs.steps.Tables.{written}

-- what a slot lacks of the choosers by its fill
unfoldable pub lack_at : ℕ → List ℕ → ℕ → ℕ
lack_at choosers fills slot = choosers - get_or fills slot 0

-- what each slot lacks, one after the other
unfoldable pub lacks_at : ℕ → ℕ → List ℕ → List ℕ
lacks_at choosers slots fills = written slots 0 (lack_at choosers fills) (replicate 24 0)

-- what the slots' lacks weigh together: `needed` of the tables' rule where no slot wants a number of choices
unfoldable pub need_of : (ℕ → ℕ → ℕ → ℕ) → ℕ → ℕ → ℕ → List ℕ → ℕ
need_of entry slots table from lacks = sum_below slots λ slot. entry table from (get_or lacks slot 0)

-- what the choices from one on weigh together in table 1
unfoldable pub weight_after : (ℕ → ℕ → ℕ) → ℕ → ℕ → ℕ
weight_after weight choices from = sum_from from (choices - from) (weight 1)

-- a slot stays if the choice in it, with the lightest set that fills the rest of its lack, leaves enough for
-- the other slots: `slot_stays` of the tables' rule where no slot wants a number of choices
unfoldable pub slot_kept : (ℕ → ℕ → ℕ → ℕ) → ℕ → ℕ → List ℕ → ℕ → ℕ → ℕ → ℕ → ℕ → ℕ → Bool
slot_kept entry table from lacks weight most need spare domain slot =
    has domain slot
    && leb (weight + entry table from (get_or lacks slot 0 - most) + need)
    (spare + entry table from (get_or lacks slot 0))

-- all places if the choices after are enough without this one, else the slots in which this
-- one leaves enough for the others
unfoldable pub enough_with : (ℕ → ℕ → ℕ → ℕ) → ℕ → ℕ → List ℕ → ℕ → ℕ → ℕ → ℕ
enough_with entry slots from lacks most spare domain =
    cond (leb (need_of entry slots 1 from lacks) spare) domain
    (set_of slots (slot_kept entry 1 from lacks 0 most (need_of entry slots 1 from lacks) spare domain))

-- the days that the tables hold, and a choice of the day
unfoldable pub enough_asked : Counts → ℕ → Bool
enough_asked counts choice =
    leb counts.slots 24
    && (leb counts.choosers 200 && (leb counts.choices 64 && ltb choice counts.choices))

-- what the next choice keeps of its places; of a day that the tables don't hold all
unfoldable pub enough_places : (ℕ → ℕ → ℕ → ℕ) → (ℕ → ℕ → ℕ) → Counts → ℕ → ℕ → List ℕ → ℕ → ℕ
enough_places entry weight counts choice most fills domain =
    cond (enough_asked counts choice)
    (enough_with entry counts.slots (choice + 1) (lacks_at counts.choosers counts.slots fills) most
    (weight_after weight counts.choices (choice + 1)) domain)
    domain
