-- The eyes of the walk: what it carries along beside a start, and what it looks at.
use Rattle.std.specs.Prelude.{ℕ, zero, suc, ◌+◌, ◌-◌, Bool, true, cond, not, ◌&&◌, List, [], ◌∷◌, ◌++◌, length, take, drop, replicate, nat_le, slice_index}
use Rattle.base_choice_sets.specs.Sets.{has, set_of}
use Rattle.day_rows.specs.declared.check.Counts.{Counts}
use Rattle.plan_check.specs.Day.{Day, day_of}
use Rattle.list_nodes.specs.steps.Walk.{place_of, place_fits, sums_with}
use Rattle.list_nodes.specs.steps.Alive.{Event, plans_in, is_none, Eyes, events}
use Rattle.list_domains.specs.steps.Domains.{place_number}
use Rattle.list_decided.specs.steps.Decided.{front_of}
use Rattle.list_twins.specs.steps.Twins.{twins_of}
use Rattle.list_look.specs.steps.Look.{near_end, seen_at, opened_at}

-- what the walk carries along: each slot's sum of minimums and of maximums, the domains, and the rows that
-- are not decided yet
pub record Carried : Type 0 where
  pub sums : List ℕ
  pub fills : List ℕ
  pub domains : List ℕ
  pub rows : List ℕ

abbrev pub carried : List ℕ → List ℕ → List ℕ → List ℕ → Carried
carried sums fills domains rows = record { sums = sums; fills = fills; domains = domains; rows = rows }

-- the day with other rows
abbrev pub with_rows : Day → List ℕ → Day
with_rows day rows = day_of day.counts day.mins day.maxs day.optional rows

-- how many of a day's rows are decided with a choice
abbrev pub decided_with : Day → ℕ → ℕ
decided_with day choice = front_of day.counts.slots choice day.rows

-- the day with the rows that are not decided once the choice has its place
abbrev pub after_choice : Day → ℕ → Day
after_choice day choice = with_rows day (drop (decided_with day choice) day.rows)

-- the domains as they are seen at a start
unfoldable pub seen : Day → List ℕ → List ℕ → List ℕ → List ℕ
seen day tables start domains =
    seen_at day.counts day.mins day.maxs day.rows tables start (length start) domains

-- the places that are open to the next choice, by the domains as they are seen and each slot's sums so far
unfoldable pub open_to : Day → List ℕ → List ℕ → List ℕ → List ℕ → List ℕ → ℕ
open_to day tables start sums fills domains =
    opened_at day.counts day.mins day.maxs day.optional
    (take (decided_with day (length start)) day.rows) tables start (length start) sums fills
    (slice_index domains (length start))

-- a choice may take a place: the minimums fit, and its domain has it
unfoldable pub may_take : ℕ → ℕ → List ℕ → List ℕ → List ℕ → ℕ → ℕ → ℕ → Bool
may_take slots choosers mins optional sums domain choice place =
    place_fits slots choosers mins optional sums choice place && has domain (place_number slots place)

-- how many places are left from the next one on that a choice may take, of the last so many; 0 if there is
-- none
unfoldable pub next_in : ℕ → ℕ → List ℕ → List ℕ → List ℕ → ℕ → ℕ → ℕ → ℕ
next_in slots choosers mins optional sums domain choice zero = 0
next_in slots choosers mins optional sums domain choice (suc left) =
    cond (may_take slots choosers mins optional sums domain choice (place_of slots (slots - left))) (suc left)
    (next_in slots choosers mins optional sums domain choice left)

-- how many places are left from the next one on that a domain has, whether they fit or not; 0 if there is
-- none
unfoldable pub next_has : ℕ → ℕ → ℕ → ℕ
next_has slots domain zero = 0
next_has slots domain (suc left) = cond (has domain (slots - left)) (suc left) (next_has slots domain left)

-- the next place that a domain has, for any numbers: none of a day with more slots than there may be, or of
-- more places than there are
unfoldable pub next_within : ℕ → ℕ → ℕ → ℕ
next_within slots domain left = cond (nat_le slots 24 && nat_le left (slots + 1)) (next_has slots domain left) 0

-- a later place is passed over if it is the twin of one that has met no plan, by their numbers; near the end
-- no twins are looked for
unfoldable pub passed_over : Counts → ℕ → List ℕ → List ℕ → List ℕ → List ℕ → ℕ → ℕ → Bool
passed_over counts choice start rows sums fills at later =
    not (near_end counts.choices choice) && has (twins_of counts start rows sums fills at) later

-- what is still open of a choice's places once it has stood at one of them, with no plan met there or some
unfoldable pub still_open : Counts → ℕ → List ℕ → List ℕ → List ℕ → List ℕ → ℕ → Bool → ℕ → ℕ
still_open counts choice start rows sums fills at unmet opened =
    cond (unmet && not (near_end counts.choices choice))
    (set_of 64 λ later. has opened later && not (has (twins_of counts start rows sums fills at) later))
    opened

-- the walk's eyes: what isn't worth it is told by the places that are open, one step before
unfoldable pub eyes_of : Day → List ℕ → Eyes Carried
eyes_of day tables =
    record {
      worth = λ start x. true;
      opens = λ start x place. may_take day.counts.slots day.counts.choosers day.mins
          day.optional x.sums
          (open_to (with_rows day x.rows) tables start x.sums x.fills
          (seen (with_rows day x.rows) tables start x.domains))
          (length start) place;
      next = λ start x place. carried
          (sums_with day.counts.slots day.mins x.sums (length start) place)
          (sums_with day.counts.slots day.maxs x.fills (length start) place)
          (seen (with_rows day x.rows) tables start x.domains)
          (after_choice (with_rows day x.rows) (length start)).rows;
      twin = λ start x place later. passed_over day.counts (length start) start
          (after_choice (with_rows day x.rows) (length start)).rows x.sums x.fills
          (place_number day.counts.slots place) (place_number day.counts.slots later);
    }

module _ (day : Day) (tables : List ℕ) where
  -- what happens from a start on, with so many choices left
  unfoldable pub events_from : ℕ → List ℕ → List ℕ → List ℕ → List ℕ → List Event
  events_from n start sums fills domains =
      events day (eyes_of day tables) n start (carried sums fills domains day.rows)

  -- what happens from the empty start on, with all sums 0
  abbrev pub events_of_day : List ℕ → List Event
  events_of_day domains = events_from day.counts.choices [] (replicate 24 0) (replicate 24 0) domains

  -- what happens at one place of those that are open, the domains as they are seen at the start
  unfoldable pub events_at : ℕ → List ℕ → List ℕ → List ℕ → List ℕ → ℕ → ℕ → List Event
  events_at n start sums fills domains opened place =
      cond (may_take day.counts.slots day.counts.choosers day.mins day.optional sums opened
      (length start) place)
      (events_from n (start ++ (place ∷ []))
      (sums_with day.counts.slots day.mins sums (length start) place)
      (sums_with day.counts.slots day.maxs fills (length start) place) domains)
      []

  -- what is open after a place, by its number: as before if the choice may not take it
  unfoldable pub open_after : ℕ → List ℕ → List ℕ → List ℕ → List ℕ → ℕ → ℕ → ℕ
  open_after n start sums fills domains opened at =
      cond (may_take day.counts.slots day.counts.choosers day.mins day.optional sums opened
      (length start) (place_of day.counts.slots at))
      (still_open day.counts (length start) start day.rows sums fills at
      (is_none (plans_in (events_at n start sums fills domains opened (place_of day.counts.slots at))))
      opened)
      opened

  -- what happens at the last so many places, but for the twins of those that meet no plan
  unfoldable pub events_left : ℕ → List ℕ → List ℕ → List ℕ → List ℕ → ℕ → ℕ → List Event
  events_left n start sums fills domains opened zero = []
  events_left n start sums fills domains opened (suc left) =
      events_at n start sums fills domains opened (place_of day.counts.slots (day.counts.slots - left))
      ++ events_left n start sums fills domains
      (open_after n start sums fills domains opened (day.counts.slots - left)) left

-- what happens at all places that are open, the rows that the next choice decides left behind
unfoldable pub events_seen : Day → List ℕ → ℕ → List ℕ → List ℕ → List ℕ → List ℕ → List Event
events_seen day tables n start sums fills domains =
    events_left (after_choice day (length start)) tables n start sums fills domains
    (open_to day tables start sums fills domains) (day.counts.slots + 1)
