-- The walk: a law for each way through its functions.
use Rattle.std.proofs.Common.{◌≡◌, ℕ, zero, suc, ◌+◌, ◌-◌, ◌^◌, ◌<◌, ◌≤◌, Bool, true, false, cond, not, ◌&&◌, ◌||◌, eqb, ltb, leb, ◌⊎◌, List, [], ◌∷◌, ◌++◌, map, length, get_or, take, drop, set, sym, refl, ap, ◌∙◌, inl, inr, pos_of_ne-zero, add-one, arith, length-set, length-take-le, get_or-set_other, get_or-set_same, set-set, ltb-true, le-ltb, lt-ltb}
use mathlib.Core.Path.{fun_ext}
use lib.Arith.{lt_of_le-ne}
use native.Mathlib.Decide.{ℕ_discrete}
use lib.Seq.{take-length, set-get_or}
use Rattle.base_lists.specs.Below.{all_below}
use Rattle.base_lists.proofs.Below.{all-each, and_left, and_right}
use Rattle.base_choice_sets.specs.Sets.{has}
use Rattle.plan_check.specs.Day.{Day}
use Rattle.plan_check.specs.Plan.{slot_of}
use Rattle.plan_check.specs.Rows.{keeps_rows}
use Rattle.plan_check.specs.Feasible.{omission_allowed, place_allowed, places_allowed, slot_fits, feasible}
use Rattle.plan_check.specs.steps.Sums.{Sums}
use Rattle.list_nodes.specs.Placements.{places, is_node}
use Rattle.list_nodes.specs.steps.Walk.{places_from, place_of, place_fits, sums_with, sums_without, goes_to, sums_to, if_feasible, put_plans}
use Rattle.list_nodes.specs.steps.Runs.{Added}
use Rattle.list_nodes.proofs.PlaceLaws.{places-start, places-next, places-last, walks_next, walks-taken}
use Rattle.list_nodes.proofs.StartLaws.{node_facts}
use Rattle.list_nodes.proofs.ListLaws.{start-length, next_start, start-kept, shaped-kept}
use Rattle.list_nodes.proofs.WholeLaws.{Reached, reached-next}
use Rattle.plan_check.proofs.PlanLaws.{omission_is}
use Rattle.list_starts.specs.steps.Starts.{full_passes, total_with, page_with}
use Rattle.list_starts.proofs.FullLaws.{node-added}
use Rattle.list_nodes.specs.steps.Alive.{Event, visit, plan, plans_in, is_none, passing, events}
use Rattle.list_nodes.specs.steps.Run.{Standing, standing, run, goes_on}
use Rattle.list_nodes.proofs.RunLaws.{run-stopped, run-append, run_out, run-visit, run-plan, Ran, ran}
use Rattle.list_nodes.proofs.EventLaws.{onward, passing-same, none-met}
use Rattle.list_nodes.proofs.Visits.{plans-cost-turns}
use Rattle.list_nodes.proofs.SameEvents.{Alike, events-same}
use Rattle.list_domains.specs.steps.Domains.{place_number}
use Rattle.list_domains.proofs.DomainLaws.{number_in, number_le}
use Rattle.list_tables.specs.steps.Tables.{entry_at, weight_at}
use Rattle.list_look.specs.steps.Open.{open_places}
use Rattle.list_decided.proofs.ExactLaws.{rows_exact, front-stays, rows_split, rows_leave-start}
use Rattle.list_look.specs.steps.Look.{near_end, looked_ahead, opened_at}
use Rattle.list_look.proofs.LookLaws.{looked-start, seen_near, seen_far, opened-fits, opened-left, place-back}
use Rattle.list_walk.specs.steps.Sight.{carried, with_rows, decided_with, after_choice, seen, open_to, may_take, next_in, next_within, passed_over, still_open, eyes_of, events_from, events_at, open_after, events_left, events_seen}
use Rattle.list_walk.specs.steps.Walks.{FillsBounded, WalkReady, Walked, AllFit, Takes}
use Rattle.list_walk.proofs.StillLaws.{still_same, still_has, still_less}
use Rattle.list_walk.proofs.InLaws.{in_within, within_in, takes_next}
use Rattle.list_walk.proofs.SumsLaws.{with_sums}

-- ---- the sums of maximums, as the sums of minimums

module _ (slots : ℕ) (amounts : List ℕ) (choice : ℕ) (fills : List ℕ) (few : slots ≤ 24) (e : length fills ≡ 24) where
  -- a choice that leaves its place gives back what it brought there
  pub amounts_left : (place : ℕ) → sums_without slots amounts (sums_with slots amounts fills choice place) choice place ≡ fills
  unfolding sums_with sums_without
  amounts_left place = go (ltb place slots) refl
    where
      go : (b : Bool) → ltb place slots ≡ b
          → cond b (set (cond b (set fills place (get_or fills place 0 + get_or amounts choice 0)) fills) place (get_or (cond b (set fills place (get_or fills place 0 + get_or amounts choice 0)) fills) place 0 - get_or amounts choice 0)) (cond b (set fills place (get_or fills place 0 + get_or amounts choice 0)) fills) ≡ fills
      go true t =
          let h : place < slots = ltb-true _ _ t in
          let k : get_or fills place 0 + get_or amounts choice 0 - get_or amounts choice 0 ≡ get_or fills place 0 = omega arith in
          rw (get_or-set_same fills place (get_or fills place 0 + get_or amounts choice 0) 0 (omega (arith, e, few)), k, set-set)
          (set-get_or fills place 0)
      go false t = refl

  -- the sums of maximums stay bounded with one choice more
  pub filled-taken : (decided at : ℕ) → FillsBounded decided fills → get_or amounts choice 0 < 2 ^ 16 → FillsBounded (decided + 1) (sums_with slots amounts fills choice (place_of slots at))
  unfolding sums_with place_of
  filled-taken decided at f k = go (ltb at slots) refl
    where
      kept : FillsBounded (decided + 1) fills
      kept = record { entries = e; low = λ slot. omega (arith, f.low slot) }

      go : (b : Bool) → ltb at slots ≡ b → FillsBounded (decided + 1) (cond (ltb (cond b at 255) slots) (set fills (cond b at 255) (get_or fills (cond b at 255) 0 + get_or amounts choice 0)) fills)
      go true t =
          let h : at < slots = ltb-true at slots t in
          rw t
          (record {
            entries = length-set fills at (get_or fills at 0 + get_or amounts choice 0) ∙ e;
            low =
                λ slot. elim (ℕ_discrete slot at) [
                  | yes i ↦ rw (i, get_or-set_same fills at (get_or fills at 0 + get_or amounts choice 0) 0 (omega (arith, e, few, h))) (omega (arith, f.low at, k))
                  | no n ↦ rw (get_or-set_other fills at slot (get_or fills at 0 + get_or amounts choice 0) 0 n) (omega (arith, f.low slot))
                ];
          })
      go false t = rw (le-ltb 255 slots (omega (arith, few))) kept

-- ---- the events, by the code's numbers

and_three : (a b c : Bool) → (a && b && c) ≡ (a && (b && c))
and_three true b c = refl
and_three false b c = refl

-- the events at one place, and at those after it
module _ (day : Day) (tables : List ℕ) (n : ℕ) (start sums fills domains : List ℕ) where
  -- what happens at a place that is open
  abbrev at_place : ℕ → List Event
  at_place place =
      events_from day tables n (start ++ (place ∷ [])) (sums_with day.counts.slots day.mins sums (length start) place) (sums_with day.counts.slots day.maxs fills (length start) place) domains

  -- whether a place is open
  abbrev opens_at : ℕ → ℕ → Bool
  opens_at opened place = may_take day.counts.slots day.counts.choosers day.mins day.optional sums opened (length start) place

  -- whether a later place is the twin of one, by their numbers
  abbrev twin_at : ℕ → ℕ → Bool
  twin_at place later =
      passed_over day.counts (length start) start day.rows sums fills (place_number day.counts.slots place) (place_number day.counts.slots later)

  -- what is still open after a place that was open
  abbrev still_at : ℕ → ℕ → ℕ → ℕ
  still_at opened at place = still_open day.counts (length start) start day.rows sums fills at (is_none (plans_in (at_place place))) opened

  -- the place comes first if it is open, and takes its twins away if it meets no plan
  left_split : (opened left : ℕ)
      → events_left day tables n start sums fills domains opened (suc left)
      ≡ cond (opens_at opened (place_of day.counts.slots (day.counts.slots - left)))
      (at_place (place_of day.counts.slots (day.counts.slots - left)) ++ events_left day tables n start sums fills domains (still_at opened (day.counts.slots - left) (place_of day.counts.slots (day.counts.slots - left))) left)
      (events_left day tables n start sums fills domains opened left)
  unfolding events_left events_at open_after
  left_split opened left = go (opens_at opened (place_of day.counts.slots (day.counts.slots - left)))
    where
      here : List Event
      here = at_place (place_of day.counts.slots (day.counts.slots - left))

      go : (b : Bool)
          → cond b here [] ++ events_left day tables n start sums fills domains (cond b (still_open day.counts (length start) start day.rows sums fills (day.counts.slots - left) (is_none (plans_in (cond b here []))) opened) opened) left
          ≡ cond b (here ++ events_left day tables n start sums fills domains (still_open day.counts (length start) start day.rows sums fills (day.counts.slots - left) (is_none (plans_in here)) opened) left)
          (events_left day tables n start sums fills domains opened left)
      go true = refl
      go false = refl

  -- the places that stay open after a slot, as a set and one by one
  still_opens : (few : day.counts.slots ≤ 24) (opened slot : ℕ) → slot < day.counts.slots → onward at_place twin_at (opens_at opened) slot ≡ opens_at (still_at opened slot slot)
  unfolding may_take
  still_opens few opened slot h =
      fun_ext λ later.
      let slots = day.counts.slots in
      let fits = place_fits slots day.counts.choosers day.mins day.optional sums (length start) later in
      let unmet = is_none (plans_in (at_place slot)) in
      and_three fits (has opened (place_number slots later)) (not (unmet && twin_at slot later))
      ∙ ap (λ (at : ℕ). fits && (has opened (place_number slots later) && not (unmet && passed_over day.counts (length start) start day.rows sums fills at (place_number slots later)))) (number_in slots slot h)
      ∙ ap (λ (b : Bool). fits && b)
      (sym (still_has day.counts (length start) start day.rows sums fills slot opened unmet (place_number slots later) (omega (arith, number_le slots later, few))))

  -- the walk over the places from a slot on is that over the last so many
  left-passing : (few : day.counts.slots ≤ 24) (left opened : ℕ) → left ≤ day.counts.slots
      → passing at_place twin_at (opens_at opened) (places_from day.counts.slots (day.counts.slots - left)) ≡ events_left day tables n start sums fills domains opened (suc left)
  unfolding passing place_of events_left
  left-passing few zero opened h =
      let slots = day.counts.slots in
      let z : slots - 0 ≡ slots = omega arith in
      sym (left_split opened 0 ∙ rw (z, places-last slots, le-ltb slots slots (omega arith)))
  left-passing few (suc left) opened h =
      let slots = day.counts.slots in
      let k : slots - suc left < slots = omega arith in
      let e : slots - suc left + 1 ≡ slots - left = omega arith in
      rw (places-next slots (slots - suc left) k, left_split opened (suc left), lt-ltb (slots - suc left) slots k, e, still_opens few opened (slots - suc left) k)
      (go (opens_at opened (slots - suc left)) (left-passing few left opened (omega arith)) (left-passing few left (still_at opened (slots - suc left) (slots - suc left)) (omega arith)))
    where
      go : (b : Bool) {one other one' other' : List Event} → one ≡ one' → other ≡ other'
          → cond b (at_place (day.counts.slots - suc left) ++ other) one ≡ cond b (at_place (day.counts.slots - suc left) ++ other') one'
      go true p q = ap (λ (l : List Event). at_place (day.counts.slots - suc left) ++ l) q
      go false p q = p

  -- the walk over all places is that over as many as there are
  left-all : (few : day.counts.slots ≤ 24) (opened : ℕ)
      → passing at_place twin_at (opens_at opened) (places day.counts.slots) ≡ events_left day tables n start sums fills domains opened (day.counts.slots + 1)
  left-all few opened =
      let slots = day.counts.slots in
      let z : slots - slots ≡ 0 = omega arith in
      ap (passing at_place twin_at (opens_at opened)) (sym (ap (places_from slots) z ∙ places-start slots))
      ∙ left-passing few slots opened (omega arith)
      ∙ ap (events_left day tables n start sums fills domains opened) (sym (add-one slots))

module _ (day : Day) (tables : List ℕ) (n : ℕ) (start sums fills domains : List ℕ) (opened : ℕ) where
  -- the events at the last so many places: at the first of them, and at those after it
  left-next : (left : ℕ) → 0 < left
      → events_left day tables n start sums fills domains opened left
      ≡ events_at day tables n start sums fills domains opened (place_of day.counts.slots (day.counts.slots + 1 - left))
      ++ events_left day tables n start sums fills domains (open_after day tables n start sums fills domains opened (day.counts.slots + 1 - left)) (left - 1)
  unfolding events_left
  left-next zero h = absurd (omega arith)
  left-next (suc left) h =
      let e : day.counts.slots + 1 - suc left ≡ day.counts.slots - left = omega arith in
      let k : suc left - 1 ≡ left = omega arith in
      rw (e, k)

  module _ {choice : ℕ} (at : length start ≡ choice) where
    -- the events at a place that the choice takes
    events-taken : (place : ℕ) → may_take day.counts.slots day.counts.choosers day.mins day.optional sums opened choice place ≡ true
        → events_at day tables n start sums fills domains opened place
        ≡ events_from day tables n (start ++ (place ∷ [])) (sums_with day.counts.slots day.mins sums choice place) (sums_with day.counts.slots day.maxs fills choice place) domains
    unfolding events_at
    events-taken place t = rw (at, t)

    -- what is open after a place that the choice takes
    after-taken : (number : ℕ) → may_take day.counts.slots day.counts.choosers day.mins day.optional sums opened choice (place_of day.counts.slots number) ≡ true
        → open_after day tables n start sums fills domains opened number
        ≡ still_open day.counts choice start day.rows sums fills number (is_none (plans_in (events_at day tables n start sums fills domains opened (place_of day.counts.slots number)))) opened
    unfolding open_after
    after-taken number t = rw (at, t)

    -- the places before the next one that the choice may take add no event
    left_in : (left : ℕ)
        → events_left day tables n start sums fills domains opened (next_in day.counts.slots day.counts.choosers day.mins day.optional sums opened choice left) ≡ events_left day tables n start sums fills domains opened left
    unfolding next_in
    left_in zero = refl
    left_in (suc left) = go (may_take day.counts.slots day.counts.choosers day.mins day.optional sums opened choice (place_of day.counts.slots (day.counts.slots - left))) refl (left_in left)
      where
        go : (b : Bool) → may_take day.counts.slots day.counts.choosers day.mins day.optional sums opened choice (place_of day.counts.slots (day.counts.slots - left)) ≡ b
            → events_left day tables n start sums fills domains opened (next_in day.counts.slots day.counts.choosers day.mins day.optional sums opened choice left) ≡ events_left day tables n start sums fills domains opened left
            → events_left day tables n start sums fills domains opened (cond b (suc left) (next_in day.counts.slots day.counts.choosers day.mins day.optional sums opened choice left)) ≡ events_left day tables n start sums fills domains opened (suc left)
        go true t ih = refl
        go false t ih = ih ∙ sym (left_split day tables n start sums fills domains opened left ∙ rw (at, t))

-- ---- the rows that the next choice decides

-- each choice of a node stands in a slot or is omitted
pub node-place : (day : Day) (start : List ℕ) → is_node day start ≡ true → (i : ℕ) → i < length start → (slot_of start i < day.counts.slots) ⊎ (slot_of start i ≡ 255)
unfolding places_allowed place_allowed
node-place day start node i h =
    place-of (ltb (slot_of start i) day.counts.slots) refl
    (all-each (length start) (place_allowed day.counts.slots day.optional start) (node_facts day start node).allowed i h)
  where
    place-of : (b : Bool) → ltb (slot_of start i) day.counts.slots ≡ b → (b || omission_allowed (slot_of start i) (get_or day.optional i 0)) ≡ true
        → (slot_of start i < day.counts.slots) ⊎ (slot_of start i ≡ 255)
    place-of true t a = inl (ltb-true (slot_of start i) day.counts.slots t)
    place-of false t a = inr (omission_is (slot_of start i) (get_or day.optional i 0) a)

-- a place that fits is a slot or omission
fits-place : (slots choosers : ℕ) (mins optional sums : List ℕ) (choice place : ℕ) → place_fits slots choosers mins optional sums choice place ≡ true → (place < slots) ⊎ (place ≡ 255)
unfolding place_fits
fits-place slots choosers mins optional sums choice place t = go (ltb place slots) refl t
  where
    go : (b : Bool) → ltb place slots ≡ b → cond b (leb (get_or sums place 0 + get_or mins choice 0) choosers) (omission_allowed place (get_or optional choice 0)) ≡ true → (place < slots) ⊎ (place ≡ 255)
    go true l f = inl (ltb-true place slots l)
    go false l f = inr (omission_is place (get_or optional choice 0) f)

module _ (day : Day) (tables start sums fills domains : List ℕ) (few : day.counts.slots ≤ 24) (node : is_node day start ≡ true) (short : length start < 64) where
  -- a place that is open keeps the rows that are decided there
  pub decided-kept : (place : ℕ) → may_take day.counts.slots day.counts.choosers day.mins day.optional sums (open_to day tables start sums fills domains) (length start) place ≡ true
      → keeps_rows (start ++ (place ∷ [])) (take (decided_with day (length start)) day.rows) ≡ true
  unfolding may_take open_to
  decided-kept place t =
      let slots = day.counts.slots in
      let at = place_number slots place in
      let fits = and_left (place_fits slots day.counts.choosers day.mins day.optional sums (length start) place) (has (open_to day tables start sums fills domains) at) t in
      let back : place_of slots at ≡ place = place-back slots place few (fits-place slots day.counts.choosers day.mins day.optional sums (length start) place fits) in
      let left = opened-left day.counts day.mins day.maxs day.optional (take (decided_with day (length start)) day.rows) tables start (length start) sums fills (get_or domains (length start) 0) few at (number_le slots place)
      (and_right (place_fits slots day.counts.choosers day.mins day.optional sums (length start) place) (has (open_to day tables start sums fills domains) at) t) in
      ap (λ (p : ℕ). keeps_rows (start ++ (p ∷ [])) (take (decided_with day (length start)) day.rows)) (sym back)
      ∙ and_right (has (get_or domains (length start) 0) at) (keeps_rows (start ++ (place_of slots at ∷ [])) (take (decided_with day (length start)) day.rows))
      (sym (rows_exact slots start day.rows (get_or domains (length start) 0) at few (number_le slots place) short (node-place day start node)) ∙ left)

  -- the rows that are decided at an open place can be left behind
  pub decided-alike : (place : ℕ) → may_take day.counts.slots day.counts.choosers day.mins day.optional sums (open_to day tables start sums fills domains) (length start) place ≡ true
      → Alike day (after_choice day (length start)) (start ++ (place ∷ []))
  unfolding Alike feasible
  decided-alike place t rest =
      let plan = (start ++ (place ∷ [])) ++ rest in
      let front = decided_with day (length start) in
      let h : keeps_rows plan (take front day.rows) ≡ true = front-stays day.counts.slots start place rest day.rows short ∙ decided-kept place t in
      ap (λ (b : Bool). places_allowed day.counts.slots day.optional plan && all_below day.counts.slots (slot_fits day.counts.choosers day.mins day.maxs plan) && b)
      (rows_split plan front day.rows ∙ ap (λ (b : Bool). b && keeps_rows plan (drop front day.rows)) h)

-- what comes after the visit of a start
unfoldable body_of : Day → List ℕ → List ℕ → List ℕ → List ℕ → List ℕ → ℕ → List Event
body_of day tables start sums fills domains zero = map plan (if_feasible day start)
body_of day tables start sums fills domains (suc n) = events_seen day tables n start sums fills (seen day tables start domains)

module _ (day : Day) (tables : List ℕ) (start sums fills domains : List ℕ) (few : day.counts.slots ≤ 24) (node : is_node day start ≡ true) where
  events_are : (n : ℕ) → (0 < n → length start < 64) → events_from day tables n start sums fills domains ≡ visit ∷ body_of day tables start sums fills domains n
  unfolding events_from events eyes_of events_at body_of events_seen
  events_are zero short = refl
  events_are (suc n) short =
      let slots = day.counts.slots in
      let sees = seen day tables start domains in
      let opened = open_to day tables start sums fills sees in
      let after = after_choice day (length start) in
      ap (λ (l : List Event). visit ∷ l)
      (passing-same
      (λ place. events day (eyes_of day tables) n (start ++ (place ∷ [])) (carried (sums_with slots day.mins sums (length start) place) (sums_with slots day.maxs fills (length start) place) sees after.rows))
      (at_place after tables n start sums fills sees) (twin_at after tables n start sums fills sees) (opens_at after tables n start sums fills sees opened) (places slots) at-place
      ∙ left-all after tables n start sums fills sees few opened)
    where
      at-place : (place : ℕ) → may_take day.counts.slots day.counts.choosers day.mins day.optional sums (open_to day tables start sums fills (seen day tables start domains)) (length start) place ≡ true
          → events day (eyes_of day tables) n (start ++ (place ∷ []))
          (carried (sums_with day.counts.slots day.mins sums (length start) place) (sums_with day.counts.slots day.maxs fills (length start) place) (seen day tables start domains) (after_choice day (length start)).rows)
          ≡ events (after_choice day (length start)) (eyes_of day tables) n (start ++ (place ∷ []))
          (carried (sums_with day.counts.slots day.mins sums (length start) place) (sums_with day.counts.slots day.maxs fills (length start) place) (seen day tables start domains) (after_choice day (length start)).rows)
      at-place place t =
          events-same day (after_choice day (length start)) (eyes_of day tables) refl n (start ++ (place ∷ []))
          (carried (sums_with day.counts.slots day.mins sums (length start) place) (sums_with day.counts.slots day.maxs fills (length start) place) (seen day tables start domains) (after_choice day (length start)).rows)
          (decided-alike day tables start sums fills (seen day tables start domains) few node (short (omega arith)) place t)

-- a full start: the plan that the plan check passes is counted
run-full : (day : Day) (first room turns : ℕ) (p : List ℕ) {met met' : ℕ} {buffer buffer' : List ℕ} → goes_on first room met ≡ true
    → Added first room (if_feasible day p) met met' buffer buffer'
    → standing (goes_on first room met') turns met' buffer' ≡ run first room (standing true turns met buffer) (map plan (if_feasible day p))
unfolding if_feasible put_plans run
run-full day first room turns p {met} {met'} {buffer} {buffer'} o a = go (feasible day p) a.counted a.written
  where
    go : (b : Bool) → met' ≡ met + length (cond b (p ∷ []) []) → buffer' ≡ put_plans first room buffer met (cond b (p ∷ []) [])
        → standing (goes_on first room met') turns met' buffer' ≡ run first room (standing true turns met buffer) (map plan (cond b (p ∷ []) []))
    go true n w = rw (n, w) (sym (run-plan first room turns met buffer p []))
    go false n w =
        let k : met' ≡ met = n ∙ omega arith in
        rw (k, w, o)

-- ---- a choice

-- what happens from a start on, by the plan and the next choice
abbrev here_of : Day → List ℕ → ℕ → List ℕ → List ℕ → List ℕ → List ℕ → List Event
here_of day tables choice p sums fills domains = events_from day tables (length p - choice) (take choice p) sums fills domains

-- what happens at the places that are open, the domains as they are seen
abbrev open_of : Day → List ℕ → ℕ → List ℕ → List ℕ → List ℕ → List ℕ → List Event
open_of day tables choice p sums fills domains = events_seen day tables (length p - (choice + 1)) (take choice p) sums fills domains

-- what happens at the last so many of the places
abbrev left_events : Day → List ℕ → ℕ → List ℕ → List ℕ → List ℕ → List ℕ → ℕ → ℕ → List Event
left_events day tables choice p sums fills domains opened left = events_left day tables (length p - (choice + 1)) (take choice p) sums fills domains opened left

module _ {day : Day} {first room choice : ℕ} {p sums fills : List ℕ} {turns met : ℕ} {buffer : List ℕ} (tables domains : List ℕ)
    (l : WalkReady day first room choice choice p sums fills turns met buffer) where
  pub so_far : choice ≤ length p
  so_far = omega (arith, l.walks.within, l.shaped.mins-fit, l.shaped.plan-fits)

  -- a choice has its place among 64
  pub choice-low : (choice ≡ length p → ⊥) → choice < 64
  choice-low m = omega (arith, lt_of_le-ne so_far m, l.shaped.few-choices, l.shaped.plan-fits)

  -- what happens here: the visit, and what comes after it
  here_are : here_of day tables choice p sums fills domains ≡ visit ∷ body_of day tables (take choice p) sums fills domains (length p - choice)
  here_are =
      events_are day tables (take choice p) sums fills domains l.shaped.few-slots l.node (length p - choice)
      λ h. omega (arith, h, length-take-le choice p so_far, l.shaped.few-choices, l.shaped.plan-fits)

  -- nothing but the standing is changed
  unmoved : {after : Standing} → after ≡ run first room (standing true turns met buffer) (here_of day tables choice p sums fills domains)
      → Walked first room choice (here_of day tables choice p sums fills domains) p p sums sums fills fills (standing true turns met buffer) after
  unmoved e = record { stands = e; start = refl; same-sums = refl; same-fills = refl; same-plan = refl }

  -- no turn is left: the walk ends
  pub walked-out : turns ≡ 0
      → Walked first room choice (here_of day tables choice p sums fills domains) p p sums sums fills fills (standing true turns met buffer) (standing false turns met buffer)
  walked-out z =
      unmoved
      (sym
      (rw z
      (ap (run first room (standing true 0 met buffer)) here_are
      ∙ run_out first room met buffer (body_of day tables (take choice p) sums fills domains (length p - choice)))))

  module _ (n : turns ≡ 0 → ⊥) where
    pub one-turn : 1 ≤ turns
    one-turn = pos_of_ne-zero n

    -- the start takes a turn
    after-visit : run first room (standing true turns met buffer) (here_of day tables choice p sums fills domains)
        ≡ run first room (standing true (turns - 1) met buffer) (body_of day tables (take choice p) sums fills domains (length p - choice))
    after-visit =
        let k : turns ≡ suc (turns - 1) = omega (arith, one-turn) in
        ap (run first room (standing true turns met buffer)) here_are
        ∙ ap (λ (t : ℕ). run first room (standing true t met buffer) (visit ∷ body_of day tables (take choice p) sums fills domains (length p - choice))) k
        ∙ run-visit first room (turns - 1) met buffer (body_of day tables (take choice p) sums fills domains (length p - choice))

    -- a full start: its plan is counted if it passes
    module _ (e : choice ≡ length p) where
      full-numbers : met + length (if_feasible day p) < 2 ^ 64
      unfolding if_feasible
      full-numbers = go (feasible day p)
        where
          go : (c : Bool) → met + length (cond c (p ∷ []) []) < 2 ^ 64
          go true = omega (arith, l.numbers, one-turn)
          go false = omega (arith, l.numbers)

      -- the whole plan is the start
      whole : take choice p ≡ p
      whole = ap (λ (i : ℕ). take i p) e ∙ take-length p

      pub walked-full : {met' : ℕ} {p' buffer' : List ℕ} {r : Bool} → p' ≡ p
          → met' ≡ total_with (full_passes day.counts.slots day.counts.choosers day.rows fills p) met
          → buffer' ≡ page_with (full_passes day.counts.slots day.counts.choosers day.rows fills p) first room p buffer met
          → r ≡ goes_on first room met'
          → Walked first room choice (here_of day tables choice p sums fills domains) p p' sums sums fills fills (standing true turns met buffer) (standing r (turns - 1) met' buffer')
      unfolding body_of
      walked-full {met'} {p'} {buffer'} s c w g =
          let z : length p - choice ≡ 0 = omega (arith, e) in
          let a = node-added day first room p buffer met l.shaped full-numbers fills (ap (is_node day) (sym whole) ∙ l.node) (rw whole at l.most) c w in
          record {
            stands =
                ap (λ (c : Bool). standing c (turns - 1) met' buffer') g
                ∙ run-full day first room (turns - 1) p l.unfinished a
                ∙ ap (λ (q : List ℕ). run first room (standing true (turns - 1) met buffer) (map plan (if_feasible day q))) (sym whole)
                ∙ ap (λ (i : ℕ). run first room (standing true (turns - 1) met buffer) (body_of day tables (take choice p) sums fills domains i)) (sym z)
                ∙ sym after-visit;
            start = ap (take choice) s;
            same-sums = refl;
            same-fills = refl;
            same-plan = ap length s;
          }

    -- any other start goes on to the places that are open, the domains as they are seen
    module _ (m : choice ≡ length p → ⊥) {seeing : List ℕ} (v : seeing ≡ seen day tables (take choice p) domains) where
      before-end : choice < length p
      before-end = lt_of_le-ne so_far m

      on-visit : run first room (standing true turns met buffer) (here_of day tables choice p sums fills domains)
          ≡ run first room (standing true (turns - 1) met buffer) (open_of day tables choice p sums fills seeing)
      unfolding body_of
      on-visit =
          let k : length p - choice ≡ suc (length p - (choice + 1)) = omega (arith, before-end) in
          after-visit
          ∙ ap (λ (i : ℕ). run first room (standing true (turns - 1) met buffer) (body_of day tables (take choice p) sums fills domains i)) k
          ∙ ap (λ (d : List ℕ). run first room (standing true (turns - 1) met buffer) (open_of day tables choice p sums fills d)) (sym v)

      -- a plan that is lent on the way is the same plan
      module _ {q : List ℕ} (s : q ≡ p) where
        pub seen_requires : WalkReady day first room (choice + 1) choice q sums fills (turns - 1) met buffer
        seen_requires =
            rw s
            (record {
              shaped = l.shaped;
              walks = walks_next l.walks (λ i. m (i ∙ l.shaped.mins-fit ∙ sym l.shaped.plan-fits));
              filled = l.filled;
              node = l.node;
              least = l.least;
              most = l.most;
              unfinished = l.unfinished;
              numbers = omega (arith, l.numbers);
            })

        pub walked-seen : {after : Standing} {p' sums' fills' : List ℕ}
            → Walked first room choice (open_of day tables choice q sums fills seeing) q p' sums sums' fills fills' (standing true (turns - 1) met buffer) after
            → Walked first room choice (here_of day tables choice p sums fills domains) p p' sums sums' fills fills' (standing true turns met buffer) after
        walked-seen g =
            let h = rw s at g in
            record { stands = h.stands ∙ sym on-visit; start = h.start; same-sums = h.same-sums; same-fills = h.same-fills; same-plan = h.same-plan }

module _ (day : Day) (tables p domains : List ℕ) (choice : ℕ) (h : choice ≤ length p) where
  -- near the end the walk sees the domains as they are
  pub seen_near_here : {b : Bool} → length p ≡ day.counts.choices → b ≡ near_end (length p) choice → b ≡ true → domains ≡ seen day tables (take choice p) domains
  unfolding seen
  seen_near_here z e t =
      seen_near day.counts day.mins day.maxs day.rows tables (take choice p) choice domains (ap (λ (n : ℕ). near_end n choice) (sym z) ∙ sym e ∙ t)
      ∙ sym (rw (length-take-le choice p h))

  -- before the end is near the walk sees what the look ahead leaves
  pub seen_far_here : {b : Bool} {seeing : List ℕ} → length p ≡ day.counts.choices → b ≡ near_end (length p) choice → b ≡ false
      → seeing ≡ looked_ahead day.counts day.mins day.maxs day.rows tables p choice domains → seeing ≡ seen day tables (take choice p) domains
  unfolding seen
  seen_far_here z e f v =
      v
      ∙ sym (looked-start day.counts day.mins day.maxs day.rows tables p choice domains h)
      ∙ seen_far day.counts day.mins day.maxs day.rows tables (take choice p) choice domains (ap (λ (n : ℕ). near_end n choice) (sym z) ∙ sym e ∙ f)
      ∙ sym (rw (length-take-le choice p h))

-- ---- the places that are open

module _ {day : Day} {first room choice : ℕ} {p sums fills : List ℕ} {turns met : ℕ} {buffer : List ℕ} (tables domains : List ℕ)
    (l : WalkReady day first room (choice + 1) choice p sums fills turns met buffer) where
  open_within : choice < length p
  open_within = omega (arith, l.walks.within, l.shaped.mins-fit, l.shaped.plan-fits)

  open_length : length (take choice p) ≡ choice
  open_length = start-length choice p open_within

  module _ {front opened next : ℕ} (fr : front ≡ decided_with day choice)
      (op : opened ≡ opened_at day.counts day.mins day.maxs day.optional (take (decided_with day choice) day.rows) tables p choice sums fills (get_or domains choice 0))
      (ne : next ≡ next_within day.counts.slots opened (day.counts.slots + 1)) where
    -- what is open depends on the plan's places before the choice alone
    opened-is : opened ≡ open_to day tables (take choice p) sums fills domains
    unfolding open_to opened_at
    opened-is =
        op
        ∙ ap (open_places (entry_at tables) (weight_at tables) day.counts day.mins day.maxs day.optional choice sums fills)
        (sym (rows_leave-start day.counts.slots choice p day.rows (get_or domains choice 0)))
        ∙ sym (rw open_length)

    -- every place that is open fits
    all_open_fit : AllFit day.counts.slots day.counts.choosers day.mins day.optional sums opened choice
    unfolding AllFit
    all_open_fit at h t =
        opened-fits day.counts day.mins day.maxs day.optional (take (decided_with day choice) day.rows) tables p choice sums fills (get_or domains choice 0) l.shaped.few-slots at h
        (ap (λ (o : ℕ). has o at) (sym op) ∙ t)

    next-is : next ≡ next_in day.counts.slots day.counts.choosers day.mins day.optional sums opened choice (day.counts.slots + 1)
    next-is = ne ∙ within_in day.counts.slots day.counts.choosers day.mins day.optional sums opened choice l.shaped.few-slots all_open_fit (day.counts.slots + 1) (omega arith)

    -- the places before the first one that the choice may take add no event
    open_events : open_of day tables choice p sums fills domains ≡ left_events (after_choice day choice) tables choice p sums fills domains opened next
    unfolding events_seen
    open_events =
        ap (λ (c : ℕ). events_left (after_choice day c) tables (length p - (choice + 1)) (take choice p) sums fills domains (open_to day tables (take choice p) sums fills domains) (day.counts.slots + 1)) open_length
        ∙ ap (λ (o : ℕ). left_events (after_choice day choice) tables choice p sums fills domains o (day.counts.slots + 1)) (sym opened-is)
        ∙ sym
        (ap (left_events (after_choice day choice) tables choice p sums fills domains opened) next-is
        ∙ left_in (after_choice day choice) tables (length p - (choice + 1)) (take choice p) sums fills domains opened open_length (day.counts.slots + 1))

    module _ {q : List ℕ} (s : q ≡ p) where
      pub none_open : next ≡ 0
          → Walked first room choice (open_of day tables choice p sums fills domains) p q sums sums fills fills (standing true turns met buffer) (standing true turns met buffer)
      unfolding events_left run
      none_open z =
          rw s
          (record {
            stands = sym (ap (run first room (standing true turns met buffer)) (open_events ∙ ap (left_events (after_choice day choice) tables choice p sums fills domains opened) z));
            start = refl;
            same-sums = refl;
            same-fills = refl;
            same-plan = refl;
          })

      module _ {after : List ℕ} (a : after ≡ drop front day.rows) where
        -- the rows left are those that the choice doesn't decide
        after_is : with_rows day after ≡ after_choice day choice
        after_is = ap (with_rows day) (a ∙ ap (λ (f : ℕ). drop f day.rows) fr)

        pub open_requires : (next ≡ 0 → ⊥)
            → WalkReady (with_rows day after) first room (choice + 1) choice q sums fills turns met buffer × Takes (with_rows day after) choice opened next sums
        unfolding is_node
        open_requires k = (
          rw s
              (record {
                shaped =
                    record {
                      few-choices = l.shaped.few-choices;
                      few-slots = l.shaped.few-slots;
                      mins-fit = l.shaped.mins-fit;
                      maxs-fit = l.shaped.maxs-fit;
                      optional-fits = l.shaped.optional-fits;
                      plan-fits = l.shaped.plan-fits;
                      buffer-fits = l.shaped.buffer-fits;
                    };
                walks = l.walks;
                filled = l.filled;
                node = l.node;
                least = l.least;
                most = l.most;
                unfinished = l.unfinished;
                numbers = l.numbers;
              }),
          takes_next (with_rows day after) choice (day.counts.slots + 1) sums opened (omega arith) all_open_fit next-is k,
        )

        pub walked_open : {standing' : Standing} {p' sums' fills' : List ℕ}
            → Walked first room choice (left_events (with_rows day after) tables choice q sums fills domains opened next) q p' sums sums' fills fills' (standing true turns met buffer) standing'
            → Walked first room choice (open_of day tables choice p sums fills domains) p p' sums sums' fills fills' (standing true turns met buffer) standing'
        walked_open g =
            let h = rw s at g in
            record {
              stands =
                  h.stands
                  ∙ ap (run first room (standing true turns met buffer))
                  (ap (λ (d : Day). left_events d tables choice p sums fills domains opened next) after_is ∙ sym open_events);
              start = h.start;
              same-sums = h.same-sums;
              same-fills = h.same-fills;
              same-plan = h.same-plan;
            }

-- ---- a place

both_left : (a b : Bool) → (a && b) ≡ true → a ≡ true
both_left true b e = refl
both_left false b e = e

-- the place with so many left
abbrev place_with : Day → ℕ → ℕ
place_with day left = place_of day.counts.slots (day.counts.slots + 1 - left)

-- what is open after the place with so many left
abbrev after_with : Day → List ℕ → ℕ → List ℕ → List ℕ → List ℕ → List ℕ → ℕ → ℕ → ℕ
after_with day tables choice p sums fills domains opened left =
    open_after day tables (length p - (choice + 1)) (take choice p) sums fills domains opened (day.counts.slots + 1 - left)

module _ (choice opened left : ℕ) {day : Day} {first room : ℕ} {p sums fills : List ℕ} {turns met : ℕ} {buffer : List ℕ} (tables domains : List ℕ)
    (l : WalkReady day first room (choice + 1) choice p sums fills turns met buffer) (o : Takes day choice opened left sums) where
  pub within-plan : choice < length p
  within-plan = omega (arith, l.walks.within, l.shaped.mins-fit, l.shaped.plan-fits)

  at-start : length (take choice p) ≡ choice
  at-start = start-length choice p within-plan

  fits-here : place_fits day.counts.slots day.counts.choosers day.mins day.optional sums choice (place_with day left) ≡ true
  unfolding may_take
  fits-here =
      both_left (place_fits day.counts.slots day.counts.choosers day.mins day.optional sums choice (place_with day left)) (has opened (place_number day.counts.slots (place_with day left)))
      o.fits

  -- what taking the place and leaving it again ask for
  pub take-allowed : (day.counts.slots ≤ 24) × (0 < left) × (get_or sums (day.counts.slots + 1 - left) 0 ≤ 2 ^ 32) × (get_or fills (day.counts.slots + 1 - left) 0 ≤ 2 ^ 32)
  take-allowed = (
    l.shaped.few-slots,
    o.some,
    omega (arith, l.walks.low (day.counts.slots + 1 - left), l.walks.few-choosers),
    omega (arith, l.filled.low (day.counts.slots + 1 - left), within-plan, l.shaped.few-choices, l.shaped.plan-fits),
  )

  pub leave_allowed : (day.counts.slots ≤ 24) × (0 < left)
  leave_allowed = (l.shaped.few-slots, o.some)

  -- the choice stands at the place
  module _ {p' sums' fills' : List ℕ} (p-is : p' ≡ set p choice (place_with day left))
      (q-is : sums' ≡ sums_with day.counts.slots day.mins sums choice (place_with day left))
      (f-is : fills' ≡ sums_with day.counts.slots day.maxs fills choice (place_with day left))
      (u : get_or day.maxs choice 0 < 2 ^ 16) where
    here-events : events_at day tables (length p - (choice + 1)) (take choice p) sums fills domains opened (place_with day left) ≡ here_of day tables (choice + 1) p' sums' fills' domains
    here-events =
        events-taken day tables (length p - (choice + 1)) (take choice p) sums fills domains opened at-start (place_with day left) o.fits
        ∙ sym (rw (p-is, q-is, f-is, length-set p choice (place_with day left), next_start choice p within-plan (place_with day left)))

    -- the start with one choice more
    next_here : take (choice + 1) p' ≡ take choice p ++ (place_with day left ∷ [])
    next_here = ap (take (choice + 1)) p-is ∙ next_start choice p within-plan (place_with day left)

    goes_here : goes_to day (take choice p) sums (place_with day left) ≡ true
    unfolding goes_to
    goes_here = rw at-start fits-here

    reached-here : Reached day (take (choice + 1) p') sums'
    unfolding sums_to
    reached-here =
        rw (next_here, q-is)
        (rw at-start at
        (reached-next day (take choice p) sums (record { few = l.shaped.few-slots; node = l.node; held = l.least; entries = l.walks.entries }) (place_with day left) goes_here))

    most-here : Sums day.maxs (take (choice + 1) p') fills'
    most-here =
        rw (next_here, f-is)
        (rw at-start at
        (with_sums day l.shaped.few-slots day.maxs (take choice p) fills l.most l.filled.entries (place_with day left) sums goes_here))

    pub taken_requires : WalkReady day first room (choice + 1) (choice + 1) p' sums' fills' turns met buffer
    taken_requires =
        record {
          shaped = shaped-kept l.shaped (rw p-is (length-set p choice (place_with day left))) refl;
          walks = rw q-is (walks-taken choice (day.counts.slots + 1 - left) l.walks fits-here);
          filled = rw f-is (filled-taken day.counts.slots day.maxs choice fills l.shaped.few-slots l.filled.entries choice (day.counts.slots + 1 - left) l.filled u);
          node = reached-here.node;
          least = reached-here.held;
          most = most-here;
          unfinished = l.unfinished;
          numbers = l.numbers;
        }

    module _ {r : Bool} {turns₁ met₁ : ℕ} {p₁ sums₁ fills₁ buffer₁ : List ℕ}
        (g : Walked first room (choice + 1) (here_of day tables (choice + 1) p' sums' fills' domains) p' p₁ sums' sums₁ fills' fills₁ (standing true turns met buffer) (standing r turns₁ met₁ buffer₁)) where
      module _ {p₂ sums₂ fills₂ : List ℕ} (s : p₂ ≡ p₁) (e : sums₂ ≡ sums_without day.counts.slots day.mins sums₁ choice (place_with day left))
          (e' : fills₂ ≡ sums_without day.counts.slots day.maxs fills₁ choice (place_with day left)) where
        sums-back : sums₂ ≡ sums
        sums-back = e ∙ rw (g.same-sums ∙ q-is) (amounts_left day.counts.slots day.mins choice sums l.shaped.few-slots l.walks.entries (place_with day left))

        fills-back : fills₂ ≡ fills
        fills-back = e' ∙ rw (g.same-fills ∙ f-is) (amounts_left day.counts.slots day.maxs choice fills l.shaped.few-slots l.filled.entries (place_with day left))

        same : length p₂ ≡ length p
        same = ap length s ∙ g.same-plan ∙ ap length p-is ∙ length-set p choice (place_with day left)

        before : take choice p₁ ≡ take choice p
        before = start-kept choice p within-plan (place_with day left) p₁ (rw p-is at g.start)

        start_back : take choice p₂ ≡ take choice p
        start_back = ap (take choice) s ∙ before

        -- the run over the place, and over those after it
        left-run : run first room (standing true turns met buffer) (left_events day tables choice p sums fills domains opened left)
            ≡ run first room (standing r turns₁ met₁ buffer₁) (left_events day tables choice p sums fills domains (after_with day tables choice p sums fills domains opened left) (left - 1))
        left-run =
            ap (run first room (standing true turns met buffer)) (left-next day tables (length p - (choice + 1)) (take choice p) sums fills domains opened left o.some)
            ∙ run-append first room (standing true turns met buffer) (events_at day tables (length p - (choice + 1)) (take choice p) sums fills domains opened (place_with day left)) (left_events day tables choice p sums fills domains (after_with day tables choice p sums fills domains opened left) (left - 1))
            ∙ ap (λ (s : Standing). run first room s (left_events day tables choice p sums fills domains (after_with day tables choice p sums fills domains opened left) (left - 1)))
            (ap (run first room (standing true turns met buffer)) here-events ∙ sym g.stands)

        moved : {after : Standing} → after ≡ run first room (standing true turns met buffer) (left_events day tables choice p sums fills domains opened left)
            → Walked first room choice (left_events day tables choice p sums fills domains opened left) p p₂ sums sums₂ fills fills₂ (standing true turns met buffer) after
        moved k = record { stands = k; start = start_back; same-sums = sums-back; same-fills = fills-back; same-plan = same }

        -- the walk has ended at the place
        pub walked-stopped : r ≡ false
            → Walked first room choice (left_events day tables choice p sums fills domains opened left) p p₂ sums sums₂ fills fills₂ (standing true turns met buffer) (standing false turns₁ met₁ buffer₁)
        walked-stopped f =
            moved
            (ap (λ (c : Bool). standing c turns₁ met₁ buffer₁) (sym f)
            ∙ sym (left-run ∙ run-stopped first room (standing r turns₁ met₁ buffer₁) (left_events day tables choice p sums fills domains (after_with day tables choice p sums fills domains opened left) (left - 1)) f))

        -- the walk goes on to the places left that the choice may take
        module _ (t : r ≡ true) {still next : ℕ}
            (w : still ≡ still_open day.counts choice (take choice p₁) day.rows sums₂ fills₂ (day.counts.slots + 1 - left) (eqb met met₁) opened)
            (h : next ≡ next_within day.counts.slots still (left - 1)) where
          ran-here : Ran first room turns met buffer (here_of day tables (choice + 1) p' sums' fills' domains) (standing r turns₁ met₁ buffer₁)
          ran-here = rw g.stands (ran first room (here_of day tables (choice + 1) p' sums' fills' domains) turns met buffer l.unfinished)

          -- the number of plans is as before if none was met at the place
          unmet_is : eqb met met₁ ≡ is_none (plans_in (events_at day tables (length p - (choice + 1)) (take choice p) sums fills domains opened (place_with day left)))
          unmet_is =
              none-met met met₁ (plans_in (here_of day tables (choice + 1) p' sums' fills' domains)) (ran-here.number ∙ ap (λ (k : ℕ). met + k) (ran-here.on t).0)
              ∙ ap (λ (es : List Event). is_none (plans_in es)) (sym here-events)

          -- what is still open is what the walk has open after the place
          still_is : still ≡ after_with day tables choice p sums fills domains opened left
          still_is =
              w
              ∙ still_same day.counts choice day.rows (day.counts.slots + 1 - left) opened before sums-back fills-back unmet_is
              ∙ sym (after-taken day tables (length p - (choice + 1)) (take choice p) sums fills domains opened at-start (day.counts.slots + 1 - left) o.fits)

          -- with the sums as before every place of the domain fits again
          fits_again : AllFit day.counts.slots day.counts.choosers day.mins day.optional sums₂ still choice
          unfolding AllFit
          fits_again at k i =
              rw sums-back
              (o.all_fit at k
              (still_less day.counts choice (take choice p₁) day.rows sums₂ fills₂ (day.counts.slots + 1 - left) opened (eqb met met₁) at (omega (arith, k, l.shaped.few-slots))
              (ap (λ (s : ℕ). has s at) (sym w) ∙ i)))

          m : next ≡ next_in day.counts.slots day.counts.choosers day.mins day.optional sums₂ still choice (left - 1)
          m =
              h
              ∙ within_in day.counts.slots day.counts.choosers day.mins day.optional sums₂ still choice l.shaped.few-slots fits_again (left - 1)
              (omega (arith, o.few))

          pub fewer : next < left
          fewer = omega (arith, m, in_within day.counts.slots day.counts.choosers day.mins day.optional sums₂ still choice (left - 1), o.some)

          rest-events : left_events day tables choice p₂ sums₂ fills₂ domains still next ≡ left_events day tables choice p sums fills domains (after_with day tables choice p sums fills domains opened left) (left - 1)
          rest-events =
              rw (same, start_back, m)
              (rw (sums-back, fills-back) (left_in day tables (length p - (choice + 1)) (take choice p) sums fills domains still at-start (left - 1)))
              ∙ ap (λ (s : ℕ). left_events day tables choice p sums fills domains s (left - 1)) still_is

          rest-run : run first room (standing true turns met buffer) (left_events day tables choice p sums fills domains opened left)
              ≡ run first room (standing true turns₁ met₁ buffer₁) (left_events day tables choice p₂ sums₂ fills₂ domains still next)
          rest-run =
              left-run
              ∙ ap (λ (c : Bool). run first room (standing c turns₁ met₁ buffer₁) (left_events day tables choice p sums fills domains (after_with day tables choice p sums fills domains opened left) (left - 1))) t
              ∙ ap (run first room (standing true turns₁ met₁ buffer₁)) (sym rest-events)

          pub walked-last : next ≡ 0
              → Walked first room choice (left_events day tables choice p sums fills domains opened left) p p₂ sums sums₂ fills fills₂ (standing true turns met buffer) (standing true turns₁ met₁ buffer₁)
          unfolding events_left run
          walked-last z = moved (sym (rest-run ∙ ap (λ (i : ℕ). run first room (standing true turns₁ met₁ buffer₁) (left_events day tables choice p₂ sums₂ fills₂ domains still i)) z))

          pub rest_requires : length buffer₁ ≡ length buffer → (next ≡ 0 → ⊥) → WalkReady day first room (choice + 1) choice p₂ sums₂ fills₂ turns₁ met₁ buffer₁ × Takes day choice still next sums₂
          unfolding events_from
          rest_requires b k =
              let a = ran-here in
              let c = plans-cost-turns day (eyes_of day tables) (length p' - (choice + 1)) (take (choice + 1) p') (carried sums' fills' domains day.rows) in (
                record {
                  shaped = shaped-kept l.shaped same b;
                  walks = rw sums-back l.walks;
                  filled = rw fills-back l.filled;
                  node = rw start_back l.node;
                  least = rw (start_back, sums-back) l.least;
                  most = rw (start_back, fills-back) l.most;
                  unfinished = (a.on t).2;
                  numbers = omega (arith, l.numbers, a.number, (a.on t).0, (a.on t).1, c);
                },
                takes_next day choice (left - 1) sums₂ still (omega (arith, o.few)) fits_again m k,
              )

          pub walked-rest : {after : Standing} {p₃ sums₃ fills₃ : List ℕ}
              → Walked first room choice (left_events day tables choice p₂ sums₂ fills₂ domains still next) p₂ p₃ sums₂ sums₃ fills₂ fills₃ (standing true turns₁ met₁ buffer₁) after
              → Walked first room choice (left_events day tables choice p sums fills domains opened left) p p₃ sums sums₃ fills fills₃ (standing true turns met buffer) after
          walked-rest d =
              record {
                stands = d.stands ∙ sym rest-run;
                start = d.start ∙ start_back;
                same-sums = d.same-sums ∙ sums-back;
                same-fills = d.same-fills ∙ fills-back;
                same-plan = d.same-plan ∙ same;
              }
