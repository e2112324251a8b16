-- The walk's eyes are safe: whatever they pass over, no feasible plan goes on from it.
use Rattle.std.proofs.Common.{◌≡◌, ℕ, ◌-◌, ◌<◌, ◌≤◌, min, Bool, true, false, not, ◌&&◌, List, [], ◌∷◌, ◌++◌, map, length, get_or, take, drop, replicate, sym, refl, ap, ◌∙◌, arith, length-append}
use mathlib.Core.Bool.{false≢true}
use lib.ListN.{length-map, length-replicate}
use lib.Seq.{take-append_seam, get_or-append_seam, append_snoc}
use Rattle.base_lists.specs.Below.{all_below}
use Rattle.base_lists.proofs.Below.{and_both, and_left, and_right}
use Rattle.base_choice_sets.specs.Sets.{has}
use Rattle.plan_check.specs.Day.{Day}
use Rattle.plan_check.specs.Feasible.{places_allowed, slot_fits, feasible}
use Rattle.plan_check.specs.Plan.{slot_of, sum_in}
use Rattle.plan_check.specs.Rows.{keeps_rows}
use Rattle.plan_check.specs.steps.Sums.{Sums}
use Rattle.list_nodes.specs.steps.Runs.{Judged}
use Rattle.list_nodes.specs.Placements.{is_node}
use Rattle.list_nodes.specs.steps.Walk.{place_of, place_fits, goes_to, sums_to}
use Rattle.list_nodes.proofs.StartLaws.{node_facts, node-start, feasible-node, step-node}
use Rattle.list_nodes.proofs.WholeLaws.{Reached, reached-next, reached-empty}
use Rattle.list_nodes.specs.steps.Alive.{Safe}
use Rattle.list_nodes.specs.steps.Run.{Standing, standing, goes_on, run}
use Rattle.list_nodes.specs.Page.{ended_told, goes_on_told, turns_told, Gives}
use Rattle.list_nodes.proofs.AnyEyes.{not_true_false}
use Rattle.list_nodes.proofs.PageHolds.{page-holds}
use Rattle.list_nodes.proofs.SameEvents.{Alike, alike_next, events-same}
use Rattle.list_domains.specs.steps.Domains.{place_number, Within, first_domain}
use Rattle.list_domains.proofs.DomainLaws.{within-at, first-within, number_le, number-slot, feasible-place}
use Rattle.list_tables.specs.steps.Tables.{TablesFilled}
use Rattle.list_tables.specs.steps.Lightest.{LightestFilled}
use Rattle.list_decided.specs.steps.Leaves.{rows_leave}
use Rattle.list_decided.proofs.ExactLaws.{rows_exact, front-stays, rows_split}
use Rattle.list_twins.specs.steps.Twins.{twins, twins_of, exchanged}
use Rattle.list_twins.proofs.TwinLaws.{twin-feasible}
use Rattle.list_look.specs.steps.Look.{near_end}
use Rattle.list_look.proofs.LookLaws.{Looks, seen-length, seen-within, opened-within, place-back}
use Rattle.list_walk.specs.steps.Sight.{Carried, carried, with_rows, decided_with, after_choice, seen, open_to, may_take, passed_over, eyes_of, events_from}
use Rattle.list_walk.proofs.SumsLaws.{none-sums, with_length, with_sums}
use Rattle.list_walk.proofs.StillLaws.{twins-has, twins-slots, exchanged-later}
use Rattle.list_walk.proofs.WalkLaws.{node-place, decided-alike}

-- every feasible plan that goes on from a start is within the domains
unfoldable pub Leaves : Day → List ℕ → List ℕ → Type 0
Leaves day start domains =
    (rest : List ℕ) → length (start ++ rest) ≡ day.counts.choices → feasible day (start ++ rest) ≡ true → Within day.counts.slots (start ++ rest) domains

-- what holds of what is carried to a start: it is a node with its sums, of minimums and of maximums, the
-- domains keep every plan that goes on from it, and the rows that are carried judge every such plan as the
-- day's do
pub record Holds (day : Day) (start : List ℕ) (x : Carried) : Type 0 where
  pub reached : Reached day start x.sums
  pub filled : Sums day.maxs start x.fills
  pub entries : length x.fills ≡ 24
  pub size : length x.domains ≡ 64
  pub leaves : Leaves day start x.domains
  pub alike : Alike day (with_rows day x.rows) start

-- ---- the domains at a start

-- the place of the next choice
next_place : (start rest : List ℕ) (place : ℕ) → slot_of (start ++ (place ∷ rest)) (length start) ≡ place
unfolding slot_of
next_place start rest place = get_or-append_seam start place rest 255

-- of a feasible plan that goes on from a start the next place fits
plan_goes : (day : Day) (start sums : List ℕ) → day.counts.slots ≤ 24 → Reached day start sums → (place : ℕ) (rest : List ℕ) → feasible day (start ++ (place ∷ rest)) ≡ true
    → goes_to day start sums place ≡ true
plan_goes day start sums few reached place rest f =
    let same : (start ++ (place ∷ [])) ++ rest ≡ start ++ (place ∷ rest) = append_snoc start place rest in
    sym (step-node day start sums few (node_facts day start reached.node) reached.held place)
    ∙ node-start day (start ++ (place ∷ [])) rest (feasible-node day ((start ++ (place ∷ [])) ++ rest) (ap (feasible day) same ∙ f))

-- of a feasible plan that goes on from a start the next place fits, by its number in a domain
next_fits : (day : Day) (start sums : List ℕ) → day.counts.slots ≤ 24 → Reached day start sums → length start < day.counts.choices → (rest : List ℕ)
    → length (start ++ rest) ≡ day.counts.choices → feasible day (start ++ rest) ≡ true
    → place_fits day.counts.slots day.counts.choosers day.mins day.optional sums (length start) (slot_of (start ++ rest) (length start)) ≡ true
unfolding goes_to
next_fits day start sums few reached h [] e f = absurd (omega (arith, h, e, length-append start []))
next_fits day start sums few reached h (place ∷ rest) e f =
    rw (next_place start rest place) (plan_goes day start sums few reached place rest f)

-- a feasible plan keeps every row
rows-kept : (day : Day) (plan : List ℕ) → feasible day plan ≡ true → keeps_rows plan day.rows ≡ true
unfolding feasible
rows-kept day plan t =
    and_right (places_allowed day.counts.slots day.optional plan && all_below day.counts.slots (slot_fits day.counts.choosers day.mins day.maxs plan)) (keeps_rows plan day.rows) t

-- what the laws of the look ahead ask of a day doesn't depend on its rows
looks_with : {day : Day} {tables : List ℕ} (rows : List ℕ) → Looks day tables → Looks (with_rows day rows) tables
looks_with rows looks =
    record {
      few-choices = looks.few-choices;
      few-slots = looks.few-slots;
      few-choosers = looks.few-choosers;
      mins-fit = looks.mins-fit;
      maxs-fit = looks.maxs-fit;
      filled = looks.filled;
      lightest = looks.lightest;
    }

module _ (day : Day) (tables : List ℕ) (looks : Looks day tables) (start rows domains : List ℕ) (size : length domains ≡ 64) where
  see_length : length (seen (with_rows day rows) tables start domains) ≡ 64
  unfolding seen
  see_length = seen-length day.counts day.mins day.maxs rows tables start (length start) domains size

  see_leaves : Alike day (with_rows day rows) start → length start < day.counts.choices → Leaves day start domains → Leaves day start (seen (with_rows day rows) tables start domains)
  unfolding Leaves seen Alike
  see_leaves alike few w rest e f =
      rw (take-append_seam start rest) at
      (seen-within (with_rows day rows) tables (looks_with rows looks) (start ++ rest) (sym (alike rest) ∙ f) e (length start) domains few size (w rest e f))

  module _ (sums fills : List ℕ) (reached : Reached day start sums) (filled : Sums day.maxs start fills) (few : length start < day.counts.choices) (alike : Alike day (with_rows day rows) start) where
    -- of a feasible plan the next place is open
    see_opens : Leaves day start domains → (rest : List ℕ) → length (start ++ rest) ≡ day.counts.choices → feasible day (start ++ rest) ≡ true
        → has (open_to (with_rows day rows) tables start sums fills (seen (with_rows day rows) tables start domains)) (place_number day.counts.slots (slot_of (start ++ rest) (length start))) ≡ true
    unfolding open_to Leaves Sums Alike
    see_opens w [] e f = absurd (omega (arith, few, e, length-append start []))
    see_opens w (place ∷ rest) e f =
        let slots = day.counts.slots in
        let plan = start ++ (place ∷ rest) in
        let sees = seen (with_rows day rows) tables start domains in
        let f' : feasible (with_rows day rows) plan ≡ true = sym (alike (place ∷ rest)) ∙ f in
        let at = place_number slots (slot_of plan (length start)) in
        let short : length start < 64 = omega (arith, few, looks.few-choices) in
        let here : slot_of plan (length start) ≡ place = next_place start rest place in
        let same : (start ++ (place ∷ [])) ++ rest ≡ plan = append_snoc start place rest in
        let front = decided_with (with_rows day rows) (length start) in
        let back : place_of slots at ≡ place =
        place-back slots (slot_of plan (length start)) looks.few-slots (feasible-place day plan f (length start) (omega (arith, few, e))) ∙ here in
        let in_domain : has (get_or sees (length start) 0) at ≡ true =
        within-at slots plan sees (see_leaves alike few w (place ∷ rest) e f) (length start) (omega (arith, few, e)) in
        let kept : keeps_rows (start ++ (place_of slots at ∷ [])) (take front rows) ≡ true =
        ap (λ (p : ℕ). keeps_rows (start ++ (p ∷ [])) (take front rows)) back
        ∙ sym (front-stays slots start place rest rows short)
        ∙ ap (λ (p : List ℕ). keeps_rows p (take front rows)) same
        ∙ and_left (keeps_rows plan (take front rows)) (keeps_rows plan (drop front rows)) (sym (rows_split plan front rows) ∙ rows-kept (with_rows day rows) plan f') in
        let left : has (rows_leave slots (length start) start (take front rows) (get_or sees (length start) 0)) at ≡ true =
        rows_exact slots start rows (get_or sees (length start) 0) at looks.few-slots (number_le slots (slot_of plan (length start))) short (node-place day start reached.node)
        ∙ and_both (has (get_or sees (length start) 0) at) (keeps_rows (start ++ (place_of slots at ∷ [])) (take front rows)) in_domain kept in
        opened-within (with_rows day rows) tables (looks_with rows looks) plan f' e (length start) (take front rows) start sums fills (get_or sees (length start) 0) few
        (λ slot. filled slot ∙ ap (λ (l : List ℕ). sum_in day.maxs l slot) (sym (take-append_seam start (place ∷ rest)))) left
        (next_fits day start sums looks.few-slots reached few (place ∷ rest) e f)

-- a plan that goes on from the next start goes on from this one
leaves-next : (day : Day) (start domains : List ℕ) (place : ℕ) → Leaves day start domains → Leaves day (start ++ (place ∷ [])) domains
unfolding Leaves
leaves-next day start domains place w rest e f =
    let same : (start ++ (place ∷ [])) ++ rest ≡ start ++ (place ∷ rest) = append_snoc start place rest in
    rw same (w (place ∷ rest) (sym (ap length same) ∙ e) (sym (ap (feasible day) same) ∙ f))

-- ---- the eyes

-- a day that judges as a second does, and that as a third, judges as the third
alike-on : (one other third : Day) (start : List ℕ) → Alike one other start → Alike other third start → Alike one third start
unfolding Alike
alike-on one other third start a b rest = a rest ∙ b rest

-- a start is a node whatever the day's rows
node_with : (day : Day) (rows start : List ℕ) → is_node day start ≡ true → is_node (with_rows day rows) start ≡ true
unfolding is_node
node_with day rows start n = n

module _ (day : Day) (tables : List ℕ) (looks : Looks day tables) where
  worth : (start rest : List ℕ) (x : Carried) → Holds day start x → length (start ++ rest) ≡ day.counts.choices → feasible day (start ++ rest) ≡ true
      → (eyes_of day tables).worth start x ≡ true
  unfolding eyes_of
  worth start rest x h e f = refl

  opens : (start rest : List ℕ) (place : ℕ) (x : Carried) → Holds day start x → length ((start ++ (place ∷ [])) ++ rest) ≡ day.counts.choices
      → feasible day ((start ++ (place ∷ [])) ++ rest) ≡ true → (eyes_of day tables).opens start x place ≡ true
  unfolding eyes_of may_take goes_to
  opens start rest place x h e f =
      let same : (start ++ (place ∷ [])) ++ rest ≡ start ++ (place ∷ rest) = append_snoc start place rest in
      let plan = start ++ (place ∷ rest) in
      let sees = seen (with_rows day x.rows) tables start x.domains in
      let e' : length plan ≡ day.counts.choices = sym (ap length same) ∙ e in
      let f' : feasible day plan ≡ true = sym (ap (feasible day) same) ∙ f in
      let goes : goes_to day start x.sums place ≡ true = plan_goes day start x.sums looks.few-slots h.reached place rest f' in
      let n : length start < length plan = omega (arith, length-append start (place ∷ rest)) in
      let b : has (open_to (with_rows day x.rows) tables start x.sums x.fills sees) (place_number day.counts.slots place) ≡ true =
      sym (ap (λ (p : ℕ). has (open_to (with_rows day x.rows) tables start x.sums x.fills sees) (place_number day.counts.slots p)) (next_place start rest place))
      ∙ see_opens day tables looks start x.rows x.domains h.size x.sums x.fills h.reached h.filled (omega (arith, n, e')) h.alike h.leaves (place ∷ rest) e' f' in
      and_both _ _ goes b

  -- at a place that is open the rows that are left judge as the day's do
  place-alike : (start : List ℕ) (place : ℕ) (x : Carried) → Holds day start x → length start < day.counts.choices → (eyes_of day tables).opens start x place ≡ true
      → Alike day (after_choice (with_rows day x.rows) (length start)) (start ++ (place ∷ []))
  unfolding eyes_of
  place-alike start place x h l o =
      let here = with_rows day x.rows in
      alike-on day here (after_choice here (length start)) (start ++ (place ∷ [])) (alike_next day here start place h.alike)
      (decided-alike here tables start x.sums x.fills (seen here tables start x.domains) looks.few-slots (node_with day x.rows start h.reached.node) (omega (arith, l, looks.few-choices)) place o)

  next : (start : List ℕ) (place : ℕ) (x : Carried) → Holds day start x → length start < day.counts.choices → (eyes_of day tables).opens start x place ≡ true
      → Holds day (start ++ (place ∷ [])) ((eyes_of day tables).next start x place)
  unfolding eyes_of may_take goes_to sums_to
  next start place x h l o =
      let here = with_rows day x.rows in
      let sees = seen here tables start x.domains in
      let goes : goes_to day start x.sums place ≡ true =
      and_left (place_fits day.counts.slots day.counts.choosers day.mins day.optional x.sums (length start) place)
      (has (open_to here tables start x.sums x.fills sees) (place_number day.counts.slots place)) o in
      record {
        reached = reached-next day start x.sums h.reached place goes;
        filled = with_sums day looks.few-slots day.maxs start x.fills h.filled h.entries place x.sums goes;
        entries = with_length day looks.few-slots day.maxs start x.fills h.filled h.entries place;
        size = see_length day tables looks start x.rows x.domains h.size;
        leaves = leaves-next day start sees place (see_leaves day tables looks start x.rows x.domains h.size h.alike l h.leaves);
        alike = place-alike start place x h l o;
      }

  -- the exchanged rest is as long
  twin-length : (start rest : List ℕ) (place later : ℕ) (change : ℕ → ℕ) → length ((start ++ (place ∷ [])) ++ map change rest) ≡ length ((start ++ (later ∷ [])) ++ rest)
  twin-length start rest place later change =
      rw (length-append (start ++ (place ∷ [])) (map change rest), length-append start (place ∷ []), length-append (start ++ (later ∷ [])) rest, length-append start (later ∷ []), length-map rest change)

  -- what goes on from a place is feasible with the place's twin for it, the two exchanged in all that follows
  twin-plan : (start : List ℕ) (place later : ℕ) (x : Carried) → Holds day start x → length start < day.counts.choices → (eyes_of day tables).opens start x place ≡ true
      → (eyes_of day tables).opens start x later ≡ true
      → twins day.counts.slots day.counts.choosers start (after_choice (with_rows day x.rows) (length start)).rows x.sums x.fills place later ≡ true
      → (rest : List ℕ) → length ((start ++ (later ∷ [])) ++ rest) ≡ day.counts.choices → feasible day ((start ++ (later ∷ [])) ++ rest) ≡ true
      → feasible day ((start ++ (place ∷ [])) ++ map (exchanged place later) rest) ≡ true
  unfolding Alike
  twin-plan start place later x h l o p t rest e f =
      let after = after_choice (with_rows day x.rows) (length start) in
      let same : (start ++ (later ∷ [])) ++ rest ≡ start ++ (later ∷ rest) = append_snoc start later rest in
      let back : (start ++ (place ∷ [])) ++ map (exchanged place later) rest ≡ start ++ (place ∷ map (exchanged place later) rest) = append_snoc start place (map (exchanged place later) rest) in
      let f' : feasible after (start ++ (later ∷ rest)) ≡ true = sym (ap (feasible after) same) ∙ sym (place-alike start later x h l p rest) ∙ f in
      place-alike start place x h l o (map (exchanged place later) rest)
      ∙ ap (feasible after) back
      ∙ ap (λ (first : ℕ). feasible after (start ++ (first ∷ map (exchanged place later) rest))) (sym (exchanged-later place later))
      ∙ twin-feasible after start (later ∷ rest) x.sums x.fills place later looks.few-slots h.reached.held h.filled t (sym (ap length same) ∙ e) f'

  twin : (start : List ℕ) (place later : ℕ) (x : Carried) → Holds day start x → length start < day.counts.choices → (eyes_of day tables).opens start x place ≡ true
      → (eyes_of day tables).opens start x later ≡ true → (eyes_of day tables).twin start x place later ≡ true
      → ((rest : List ℕ) → length ((start ++ (place ∷ [])) ++ rest) ≡ day.counts.choices → feasible day ((start ++ (place ∷ [])) ++ rest) ≡ false)
      → (rest : List ℕ) → length ((start ++ (later ∷ [])) ++ rest) ≡ day.counts.choices → feasible day ((start ++ (later ∷ [])) ++ rest) ≡ false
  unfolding eyes_of passed_over
  twin start place later x h l o p t none rest e =
      let slots = day.counts.slots in
      let rows = (after_choice (with_rows day x.rows) (length start)).rows in
      let alike = twins-has day.counts start rows x.sums x.fills (place_number slots place) (place_number slots later) looks.few-slots
      (and_right (not (near_end day.counts.choices (length start))) (has (twins_of day.counts start rows x.sums x.fills (place_number slots place)) (place_number slots later)) t) in
      let both = twins-slots slots day.counts.choosers start rows x.sums x.fills (place_number slots place) (place_number slots later) alike in
      let one : place_number slots place ≡ place = sym (number-slot slots place (place_number slots place) both.0 refl) in
      let other : place_number slots later ≡ later = sym (number-slot slots later (place_number slots later) both.1 refl) in
      not_true_false (feasible day ((start ++ (later ∷ [])) ++ rest)) λ f.
      false≢true
      (sym
      (none (map (exchanged place later) rest)
      (twin-length start rest place later (exchanged place later) ∙ e))
      ∙ twin-plan start place later x h l o p (rw (one, other) at alike) rest e f)

  -- the walk's eyes are safe
  pub safe_eyes : Safe day (eyes_of day tables) (Holds day)
  safe_eyes = record { node = λ start x h. h.reached.node; worth = worth; opens = opens; next = next; twin = twin }

-- what holds at the empty start: no sums, the first domains, and rows that judge as the day's do
pub holds-empty : (day : Day) (rows domains : List ℕ) → day.counts.slots ≤ 24 → length domains ≡ 64
    → ((i : ℕ) → i < day.counts.choices → get_or domains i 0 ≡ first_domain day.counts.slots (get_or day.optional i 0)) → Alike day (with_rows day rows) []
    → Holds day [] (carried (replicate 24 0) (replicate 24 0) domains rows)
unfolding Leaves
holds-empty day rows domains few l firsts alike =
    record {
      reached = reached-empty day few;
      filled = none-sums day.maxs;
      entries = length-replicate {A = ℕ} 24 0;
      size = l;
      leaves = λ rest e f. first-within day rest domains f few λ i h. firsts i (omega (arith, e, h));
      alike = alike;
    }

-- ---- the walk from the empty start

-- a day that isn't refused, with its tables, has what the look ahead asks for
pub day_looks : (day : Day) (room : ℕ) (buffer tables : List ℕ) → Judged day room buffer → TablesFilled day.counts day.maxs tables → LightestFilled day.counts.choices tables
    → Looks day tables
day_looks day room buffer tables judged filled lightest =
    record {
      few-choices = judged.few-choices;
      few-slots = judged.few-slots;
      few-choosers = judged.few-choosers;
      mins-fit = judged.mins-fit;
      maxs-fit = judged.maxs-fit;
      filled = filled;
      lightest = lightest;
    }

-- other rows that every plan keeps as it keeps the day's judge as the day's do
pub rows_alike : (day : Day) (rows : List ℕ) → ((plan : List ℕ) → keeps_rows plan rows ≡ keeps_rows plan day.rows) → Alike day (with_rows day rows) []
unfolding Alike feasible
rows_alike day rows h plan =
    ap (λ (b : Bool). places_allowed day.counts.slots day.optional plan && all_below day.counts.slots (slot_fits day.counts.choosers day.mins day.maxs plan) && b) (sym (h plan))

alike-back : (one other : Day) (start : List ℕ) → Alike one other start → Alike other one start
unfolding Alike
alike-back one other start a rest = sym (a rest)

-- what the walk over such rows ends in is a page that may be given: the list ended, it goes on past the page,
-- or turns ran out
pub walk-holds : (day : Day) (rows : List ℕ) (first room budget : ℕ) (buffer tables domains : List ℕ) (s : Standing) → Judged day room buffer → TablesFilled day.counts day.maxs tables → LightestFilled day.counts.choices tables
    → length domains ≡ 64
    → ((i : ℕ) → i < day.counts.choices → get_or domains i 0 ≡ first_domain day.counts.slots (get_or day.optional i 0))
    → ((plan : List ℕ) → keeps_rows plan rows ≡ keeps_rows plan day.rows)
    → s ≡ run first room (standing true budget 0 buffer) (events_from (with_rows day rows) tables day.counts.choices [] (replicate 24 0) (replicate 24 0) domains)
    → (s.going ≡ true → Gives day first room budget buffer (ended_told (min room (s.met - first)) s.met) s.buffer)
    × (s.going ≡ false → goes_on first room s.met ≡ false → Gives day first room budget buffer (goes_on_told (min room (s.met - first)) s.met) s.buffer)
    × (s.going ≡ false → goes_on first room s.met ≡ true → Gives day first room budget buffer (turns_told (min room (s.met - first)) s.met) s.buffer)
unfolding events_from eyes_of
walk-holds day rows first room budget buffer tables domains s judged filled lightest size firsts same e =
    let alike = rows_alike day rows same in
    let x = carried (replicate 24 0) (replicate 24 0) domains rows in
    page-holds day (eyes_of day tables) (safe_eyes day tables (day_looks day room buffer tables judged filled lightest)) x
    (holds-empty day rows domains judged.few-slots size firsts alike) first room budget buffer s
    (e ∙ ap (run first room (standing true budget 0 buffer)) (events-same (with_rows day rows) day (eyes_of day tables) refl day.counts.choices [] x (alike-back day (with_rows day rows) [] alike)))
