-- What the weight tables leave of the domains: the sets that fill the slots are disjoint, so what one
-- choice takes is missing elsewhere.
use Rattle.std.specs.Prelude.{Bool, ◌&&◌, cond, List, ℕ, zero, suc, ◌+◌, ◌-◌, max, ltb, leb, get_or}
use Rattle.base_lists.specs.Below.{sum_below}
use Rattle.day_rows.specs.declared.check.Counts.{Counts}
use Rattle.base_choice_sets.specs.Sets.{has, set_of}
use Rattle.list_tables.specs.steps.Tables.{tables_fit}
use Rattle.list_domains.specs.steps.Domains.{each_below}
use Rattle.list_rule_tables.specs.steps.Figures.{first_in}

-- what the free choices that stand in a slot weigh at the least: they fill its
-- lack, and are as many as it wants
unfoldable pub slot_needs : (ℕ → ℕ → ℕ → ℕ) → (ℕ → ℕ → ℕ → ℕ) → ℕ → ℕ → List ℕ → List ℕ → ℕ → ℕ
slot_needs entry light table from lacks wants slot =
    max (entry table from (get_or lacks slot 0)) (light table from (get_or wants slot 0))

-- what the slots need together
unfoldable pub needed : (ℕ → ℕ → ℕ → ℕ) → (ℕ → ℕ → ℕ → ℕ) → ℕ → ℕ → ℕ → List ℕ → List ℕ → ℕ
needed entry light slots table from lacks wants =
    sum_below slots (slot_needs entry light table from lacks wants)

-- what the free choices weigh together
unfoldable pub spare_of : ℕ → (ℕ → ℕ → ℕ) → ℕ → ℕ → ℕ
spare_of choices weight table free = sum_below choices λ choice. cond (has free choice) (weight table choice) 0

-- a slot stays if the choice in it, with what the rest of its lack and of its wanted choices weigh at the
-- least, leaves enough for the other slots
unfoldable pub slot_stays :
    (ℕ → ℕ → ℕ → ℕ) → (ℕ → ℕ → ℕ → ℕ) → ℕ → ℕ → List ℕ → List ℕ → ℕ → ℕ → ℕ → ℕ → ℕ → ℕ → Bool
slot_stays entry light table from lacks wants weight most need spare domain slot =
    has domain slot
    && leb
    (weight
    + max (entry table from (get_or lacks slot 0 - most)) (light table from (get_or wants slot 0 - 1))
    + need)
    (spare + slot_needs entry light table from lacks wants slot)

-- what is left of a free choice's domain: all of it if the others are enough without the choice, nothing if
-- all together are too few, else the slots that stay
unfoldable pub weighed_places :
    (ℕ → ℕ → ℕ → ℕ) → (ℕ → ℕ → ℕ → ℕ) → ℕ → ℕ → ℕ → List ℕ → List ℕ → ℕ → ℕ → ℕ → ℕ → ℕ → ℕ
weighed_places entry light slots table from lacks wants weight most need spare domain =
    cond (leb (weight + need) spare) domain
    (cond (ltb spare need) 0
    (set_of slots (slot_stays entry light table from lacks wants weight most need spare domain)))

-- one table's rule for one choice; a choice that isn't free keeps its domain
unfoldable pub table_rule :
    (ℕ → ℕ → ℕ → ℕ) → (ℕ → ℕ → ℕ → ℕ) → (ℕ → ℕ → ℕ) → Counts → List ℕ → ℕ → ℕ → ℕ
    → List ℕ → List ℕ → ℕ → ℕ → ℕ
table_rule entry light weight counts maxs table free from lacks wants choice domain =
    cond (has free choice)
    (weighed_places entry light counts.slots table from lacks wants
    (weight table choice) (get_or maxs choice 0)
    (needed entry light counts.slots table from lacks wants)
    (spare_of counts.choices weight table free) domain)
    domain

-- the first tables one after the other, all by the same figures
unfoldable pub tables_below :
    (ℕ → ℕ → ℕ → ℕ) → (ℕ → ℕ → ℕ → ℕ) → (ℕ → ℕ → ℕ) → Counts → List ℕ → ℕ → ℕ
    → List ℕ → List ℕ → ℕ → List ℕ → List ℕ
tables_below entry light weight counts maxs free from lacks wants zero domains = domains
tables_below entry light weight counts maxs free from lacks wants (suc table) domains =
    each_below counts.choices (table_rule entry light weight counts maxs table free from lacks wants)
    (tables_below entry light weight counts maxs free from lacks wants table domains)

-- the rule, by what the tables say, what the choices weigh in them, and what the slots lack and want; of a
-- day that the tables don't hold the domains stay as they are
unfoldable pub tables_rule :
    (ℕ → ℕ → ℕ → ℕ) → (ℕ → ℕ → ℕ → ℕ) → (ℕ → ℕ → ℕ) → Counts → List ℕ → ℕ → List ℕ → List ℕ → List ℕ → List ℕ
tables_rule entry light weight counts maxs free lacks wants domains =
    cond (tables_fit counts maxs && leb counts.slots 24)
    (tables_below entry light weight counts maxs free (first_in counts.choices free) lacks wants 4 domains)
    domains
