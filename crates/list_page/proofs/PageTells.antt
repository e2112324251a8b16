-- Where the walk ends, and what list_page tells of it.
use mathlib.Core.Path.{◌≡◌, refl, sym, ap, ◌∙◌}
use mathlib.Core.Bool.{Bool, true, false, ◌&&◌, cond}
use mathlib.Core.List.{List}
use Prim.Native.Nat.{ℕ, ◌-◌, ◌*◌, ◌≤◌, ◌<◌, ◌^◌, min}
use native.Mathlib.Omega.{arith}
use borrow.Author.Tests.{le-leb, leb-true, eq-eqb, eqb-true}
use lib.Dec.{eqb, leb}
use lib.ListN.{length, get_or, take}
use Rattle.base_lists.proofs.Below.{and_left, and_right}
use Rattle.day_rows.specs.Check.{counts_in_range}
use Rattle.day_rows.specs.declared.check.Takes.TheVariants.{Scheduling}
use Rattle.std.specs.Prelude.{Result, Ok, Err, IsErrAnd}
use Rattle.day_rows.specs.declared.refusal.Refusal.{Refusal}
use Rattle.day_rows.specs.Told.{Told, done, refused, good, refusal_tells}
use Rattle.day_rows.proofs.ToldLaws.{unless-done}
use Rattle.plan_check.specs.Day.{Day}
use Rattle.plan_check.specs.Rows.{keeps_rows}
use Rattle.list_decided.specs.steps.Order.{ordered_of, padded}
use Rattle.list_decided.proofs.OrderLaws.{ordered-kept, ordered-front}
use Rattle.list_nodes.specs.Judge.{list_lengths_fit, judge_of}
use Rattle.list_nodes.specs.steps.Runs.{Judged}
use Rattle.list_nodes.specs.Page.{PageTold, ended_told, goes_on_told, turns_told, Gives}
use Rattle.list_nodes.specs.steps.Run.{Standing, standing, run, goes_on}
use Rattle.list_nodes.proofs.RunLaws.{goes_first}
use Rattle.list_domains.specs.steps.Domains.{first_domain}
use Rattle.list_tables.specs.steps.Tables.{tables_fit, Fills}
use Rattle.list_tables.specs.steps.Lightest.{FillsLightest}
use Rattle.list_tables.proofs.LightestLaws.{lightest-filled, filled-kept}
use Rattle.list_walk.specs.steps.Sight.{with_rows, events_of_day}
use Rattle.list_walk.proofs.SafeEyes.{walk-holds}
use Rattle.list_starts.specs.declared.page_end.Paged.{Paged}
use Rattle.list_starts.specs.PageAnswer.{paged_tells}
use Rattle.list_starts.specs.steps.PageEnd.{told_of}
use Rattle.list_starts.specs.steps.PageReady.{ready_for, walked_if}
use Rattle.list_starts.proofs.ReadyLaws.{is-ready, walked-run}
use Rattle.list_page.specs.Page.{Fits, refuses, gives}

module _ (day : Day) (first room budget : ℕ) (buffer : List ℕ) where
  -- a refusal fits
  pub page-refused : {number : ℕ} {carried : List ℕ} → refused number carried ≡ judge_of day room (length buffer) → Fits day first room budget buffer (refused number carried) buffer
  page-refused {number} {carried} h = refuses number carried (sym h)

  -- a page that may be given fits
  pub page-given : {told : Told PageTold} {page : PageTold} {buffer' : List ℕ} → judge_of day room (length buffer) ≡ good → told ≡ done page → Gives day first room budget buffer page buffer'
      → Fits day first room budget buffer told buffer'
  page-given {told} {page} {buffer'} j e g = rw e (gives j page buffer' g)

-- why a day is refused, passed on by `?`
pub passed_on : (answer : Result Paged Refusal) (why : Refusal) → IsErrAnd answer (λ given. given ≡ why) → paged_tells answer ≡ refusal_tells why
passed_on (Ok page) why h = absurd h
passed_on (Err given) why h = ap (λ (why : Refusal). refusal_tells why) h

-- the page that the walk's end tells
gives-told : (day : Day) (first room budget : ℕ) (buffer : List ℕ) (s : Standing)
    → ((s.going ≡ true → Gives day first room budget buffer (ended_told (min room (s.met - first)) s.met) s.buffer)
    × (s.going ≡ false → goes_on first room s.met ≡ false → Gives day first room budget buffer (goes_on_told (min room (s.met - first)) s.met) s.buffer)
    × (s.going ≡ false → goes_on first room s.met ≡ true → Gives day first room budget buffer (turns_told (min room (s.met - first)) s.met) s.buffer))
    → Gives day first room budget buffer (told_of first room s.going s.met) s.buffer
unfolding told_of
gives-told day first room budget buffer s h = go s.going (goes_on first room s.met) refl refl
  where
    go : (a b : Bool) → s.going ≡ a → goes_on first room s.met ≡ b
        → Gives day first room budget buffer (cond a (ended_told (min room (s.met - first)) s.met) (cond b (turns_told (min room (s.met - first)) s.met) (goes_on_told (min room (s.met - first)) s.met))) s.buffer
    go true b e f = h.0 e
    go false true e f = h.2 e f
    go false false e f = h.1 e f

-- a day that isn't refused has at most 1,024 rows
few-rows : (day : Day) (room size : ℕ) → judge_of day room size ≡ good → length day.rows ≤ 1024
unfolding judge_of list_lengths_fit counts_in_range
few-rows day room size g =
    let m = eqb (length day.mins) day.counts.choices in
    let x = eqb (length day.maxs) day.counts.choices in
    let o = eqb (length day.optional) day.counts.choices in
    let r = eqb (length day.rows) day.counts.rows in
    let b = eqb size (room * day.counts.choices) in
    let first = unless-done (counts_in_range day.counts Scheduling) 1 _ g in
    let second = unless-done (m && x && o && r && b) 2 _ first.1 in
    let fits : length day.rows ≡ day.counts.rows = eqb-true _ _ (and_right (m && x && o) r (and_left (m && x && o && r) b second.0)) in
    let low : day.counts.rows ≤ 1024 = leb-true _ _ (and_right (leb day.counts.choices 64 && leb day.counts.slots 24 && leb day.counts.choosers 200) (leb day.counts.rows 1024) first.0) in
    omega (arith, fits, low)

-- in their order a day's rows are kept by the same plans
order-keeps : (slots : ℕ) (rows : List ℕ) {ordered list : List ℕ} → length rows ≤ 1024 → ordered ≡ padded (ordered_of slots (take 1024 rows)) → list ≡ take (length rows) ordered
    → (plan : List ℕ) → keeps_rows plan list ≡ keeps_rows plan rows
order-keeps slots rows few o l plan =
    ap (keeps_rows plan) (l ∙ ap (take (length rows)) o ∙ ordered-front slots rows few) ∙ ordered-kept slots rows plan

module _ (day : Day) (first room budget : ℕ) (buffer : List ℕ) (j : Judged day room buffer) where
  -- what is known of a day that isn't refused holds with other rows too
  judged_with : (list : List ℕ) → Judged (with_rows day list) room buffer
  judged_with list =
      record {
        in_range = j.in_range;
        few-choices = j.few-choices;
        few-slots = j.few-slots;
        few-choosers = j.few-choosers;
        mins-fit = j.mins-fit;
        maxs-fit = j.maxs-fit;
        optional-fits = j.optional-fits;
        buffer-fits = j.buffer-fits;
      }

  -- a walk over any rows of the day that has the budget and meets no plan before ends where its events lead
  pub walked-all : (list tables domains : List ℕ) {after : Standing} → budget < 2 ^ 64
      → after ≡ walked_if (ready_for (with_rows day list) first room budget 0 (length buffer)) first room budget 0 buffer (events_of_day (with_rows day list) tables domains)
      → after ≡ run first room (standing true budget 0 buffer) (events_of_day (with_rows day list) tables domains)
  walked-all list tables domains h e =
      walked-run first room budget 0 buffer (events_of_day (with_rows day list) tables domains)
      (is-ready (with_rows day list) first room budget 0 buffer (judged_with list) (omega (arith, h)) (goes_first first room)) e

  -- what list_page tells of where the walk ends fits
  pub page-answers : (domains : List ℕ) {blank filled tables ordered list : List ℕ} {going : Bool} {turns met : ℕ} {buffer' : List ℕ} {page : PageTold}
      → Fills day.counts day.maxs blank filled
      → FillsLightest day.counts.choices filled tables
      → (length domains ≡ 64) × ((choice : ℕ) → choice < 64 → get_or domains choice 0 ≡ first_domain day.counts.slots (get_or day.optional choice 0))
      → ordered ≡ padded (ordered_of day.counts.slots (take 1024 day.rows))
      → list ≡ take (length day.rows) ordered
      → standing going turns met buffer' ≡ run first room (standing true budget 0 buffer) (events_of_day (with_rows day list) tables domains)
      → page ≡ told_of first room going met
      → judge_of day room (length buffer) ≡ good
      → Fits day first room budget buffer (done page) buffer'
  unfolding tables_fit
  page-answers domains {filled = filled} {tables = tables} {list = list} {going = going} {turns = turns} {met = met} {buffer' = buffer'} f k d o l s t g =
      let fits : tables_fit day.counts day.maxs ≡ true = rw (le-leb day.counts.choices 64 j.few-choices, le-leb day.counts.choosers 200 j.few-choosers, eq-eqb (length day.maxs) day.counts.choices j.maxs-fit) in
      page-given day first room budget buffer g (ap done t)
      (gives-told day first room budget buffer (standing going turns met buffer')
      (walk-holds day list first room budget buffer tables domains (standing going turns met buffer') j
      (filled-kept day.counts day.maxs filled tables j.few-choices j.few-choosers (f.filled fits) k) (lightest-filled day.counts.choices filled tables k j.few-choices) d.0
      (λ i h. d.1 i (omega (arith, h, j.few-choices)))
      (order-keeps day.counts.slots day.rows (few-rows day room (length buffer) g) o l)
      s))
