-- What the weight tables are asked about: which choices are free, the first of them,
-- and what each slot still lacks.
use Rattle.std.specs.Prelude.{Bool, ◌&&◌, not, cond, List, ℕ, zero, suc, ◌-◌, eqb, ltb, leb, length, get_or, replicate}
use Rattle.base_lists.specs.Below.{sum_below}
use Rattle.day_rows.specs.declared.check.Counts.{Counts}
use Rattle.plan_check.specs.Plan.{stands_in}
use Rattle.base_choice_sets.specs.Sets.{has, set_of}
use Rattle.list_tables.specs.steps.Tables.{written}
use Rattle.list_domains.specs.steps.Domains.{settled}

-- the choices that have two places or more
unfoldable pub free_of : ℕ → List ℕ → ℕ
free_of choices domains = set_of choices λ choice. not (settled (get_or domains choice 0))

-- the first choice of a set, or the number of choices if it has none
unfoldable pub first_in : ℕ → ℕ → ℕ
first_in zero set = 0
first_in (suc n) set = cond (ltb (first_in n set) n) (first_in n set) (cond (has set n) n (suc n))

-- a choice that isn't free and may stand in the slot: that is its one place
unfoldable pub settled_in : ℕ → List ℕ → ℕ → ℕ → Bool
settled_in free domains slot choice = not (has free choice) && has (get_or domains choice 0) slot

-- the maximums that the settled choices bring to a slot
unfoldable pub settled_sum : ℕ → List ℕ → ℕ → List ℕ → ℕ → ℕ
settled_sum choices maxs free domains slot =
    sum_below choices λ choice. cond (settled_in free domains slot choice) (get_or maxs choice 0) 0

-- how many free choices a plan puts in a slot
unfoldable pub free_in : ℕ → ℕ → List ℕ → ℕ → ℕ
free_in choices free plan slot =
    sum_below choices λ choice. cond (has free choice && stands_in plan choice slot) 1 0

-- what a slot lacks: the choosers, less the maximums that the settled choices bring to it
unfoldable pub lack_of : ℕ → ℕ → List ℕ → ℕ → List ℕ → ℕ → ℕ
lack_of choices choosers maxs free domains slot = choosers - settled_sum choices maxs free domains slot

-- what each slot lacks, one after the other
unfoldable pub lacks_of : ℕ → ℕ → ℕ → List ℕ → ℕ → List ℕ → List ℕ
lacks_of slots choices choosers maxs free domains =
    written slots 0 (lack_of choices choosers maxs free domains) (replicate 24 0)

-- what each slot of a day lacks; of a day that has another shape nothing
unfoldable pub lacks_in : Counts → List ℕ → List ℕ → List ℕ
lacks_in counts maxs domains =
    cond (leb counts.choices 64 && (eqb (length maxs) counts.choices && leb counts.slots 24))
    (lacks_of counts.slots counts.choices counts.choosers maxs
    (free_of counts.choices domains) domains)
    (replicate 24 0)
