-- What the walk looks at before it goes on from a start: what the rules leave of the domains, and the places
-- that are open to the next choice.
use Rattle.std.specs.Prelude.{Bool, not, cond, List, ℕ, zero, suc, ◌+◌, eqb, leb, get_or, set, replicate}
use Rattle.base_lists.specs.Below.{all_below}
use Rattle.day_rows.specs.declared.check.Counts.{Counts}
use Rattle.plan_check.specs.Plan.{slot_of}
use Rattle.list_domains.specs.steps.Domains.{place_number, only_place}
use Rattle.list_tables.specs.steps.Tables.{entry_at, weight_at}
use Rattle.list_rule_slots.specs.steps.SlotRules.{slots_rule}
use Rattle.list_rule_rows.specs.steps.RowsRule.{rows_rule}
use Rattle.list_tables.specs.steps.Lightest.{lightest_at}
use Rattle.list_rule_tables.specs.steps.Figures.{free_of, first_in, lacks_in}
use Rattle.list_rule_tables.specs.steps.Rule.{tables_rule}
use Rattle.list_rule_counts.specs.steps.CountRule.{has_limit, wants_of, rooms_of, broken, counts_rule}
use Rattle.list_look.specs.steps.Open.{open_places}
use Rattle.list_decided.specs.steps.Leaves.{rows_leave}

-- the domains once the last of so many choices stands at its place
unfoldable pub decided : ℕ → List ℕ → ℕ → List ℕ → List ℕ
decided slots plan zero domains = domains
decided slots plan (suc choice) domains =
    set domains choice (only_place (place_number slots (slot_of plan choice)))

-- every choice has a place left
unfoldable pub alive : ℕ → List ℕ → Bool
alive choices domains = all_below choices λ choice. not (eqb (get_or domains choice 0) 0)

-- a start that leaves some choice no place has no place to go on to
unfoldable pub alive_or : ℕ → List ℕ → List ℕ
alive_or choices domains = cond (alive choices domains) domains (replicate 64 0)

-- what tables and counts leave where there are limits: no place at a start that has a slot whose least count
-- is one that it can't have; else what the tables leave, with what the slots want, and then the counts
unfoldable pub limits_leave : Counts → List ℕ → List ℕ → List ℕ → ℕ → List ℕ → List ℕ → List ℕ
limits_leave counts maxs rows tables free lacks domains =
    let from = first_in counts.choices free in
    let wants = wants_of (entry_at tables) counts rows from lacks domains in
    cond (broken (entry_at tables) counts rows from lacks domains) (replicate 64 0)
    (counts_rule (entry_at tables) counts maxs free lacks wants (rooms_of counts rows domains)
    (tables_rule (entry_at tables) (lightest_at tables) (weight_at tables) counts maxs free lacks wants domains))

-- what tables and counts leave, all by the figures of the domains before them; without a limit no slot wants
-- more choices than its sums say
unfoldable pub weighed : Counts → List ℕ → List ℕ → List ℕ → List ℕ → List ℕ
weighed counts maxs rows tables domains =
    let free = cond (leb counts.choices 64) (free_of counts.choices domains) 0 in
    let lacks = lacks_in counts maxs domains in
    cond (has_limit rows) (limits_leave counts maxs rows tables free lacks domains)
    (tables_rule (entry_at tables) (lightest_at tables) (weight_at tables) counts maxs free lacks (replicate 24 0)
    domains)

-- what slots and rows leave of the domains, unless the start is dead by now
unfoldable pub kept_if_alive : Counts → List ℕ → List ℕ → List ℕ → List ℕ → List ℕ
kept_if_alive counts mins maxs rows domains =
    cond (alive counts.choices domains)
    (alive_or counts.choices (rows_rule counts rows (slots_rule counts mins maxs domains)))
    (replicate 64 0)

-- the domains at a start: its last choice is decided, then tables and counts take away what they leave to no
-- plan, then slots and rows
unfoldable pub looked_ahead : Counts → List ℕ → List ℕ → List ℕ → List ℕ → List ℕ → ℕ → List ℕ → List ℕ
looked_ahead counts mins maxs rows tables plan choice domains =
    kept_if_alive counts mins maxs rows
    (weighed counts maxs rows tables (decided counts.slots plan choice domains))

-- the walk looks ahead no more: eight choices or fewer are left
unfoldable pub near_end : ℕ → ℕ → Bool
near_end choices choice = leb choices (choice + 8)

-- the domains as the walk sees them at a start
unfoldable pub seen_at : Counts → List ℕ → List ℕ → List ℕ → List ℕ → List ℕ → ℕ → List ℕ → List ℕ
seen_at counts mins maxs rows tables plan choice domains =
    cond (near_end counts.choices choice) domains
    (looked_ahead counts mins maxs rows tables plan choice domains)

-- the places that are open to the next choice: the rows that are decided with it leave them of its domain,
-- and so do its minimum and the choices after it, with each slot's sum of minimums and of maximums so far
unfoldable pub opened_at : Counts → List ℕ → List ℕ → List ℕ → List ℕ → List ℕ → List ℕ → ℕ → List ℕ → List ℕ
    → ℕ → ℕ
opened_at counts mins maxs optional rows tables plan choice sums fills domain =
    open_places (entry_at tables) (weight_at tables) counts mins maxs optional choice sums fills
    (rows_leave counts.slots choice plan rows domain)
