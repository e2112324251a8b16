-- The search as a call, a law for each way through it.
use mathlib.Core.Path.{◌≡◌, refl, sym, ◌∙◌, ap, ap₂}
use mathlib.Core.Bool.{Bool, true, false, ◌&&◌, cond}
use mathlib.Core.List.{List, ◌++◌, map}
use Prim.Native.Nat.{ℕ, ◌+◌, ◌-◌, ◌≤◌}
use native.Mathlib.Omega.{arith}
use borrow.Author.Tests.{le-leb, eq-eqb, eqb-true}
use lib.Dec.{eqb, leb}
use lib.ListN.{length, replicate, length-append, length-map, length-replicate}
use Rattle.base_lists.specs.Pool.{pad}
use Rattle.base_lists.proofs.Below.{and_right}
use Rattle.day_rows.specs.Told.{Told, done, refused, Verdict, good, refuse, unless, and_then, Outcome, outcome}
use Rattle.day_rows.proofs.ToldLaws.{done-is, refused-not-done, refused_as}
use Rattle.day_rows.specs.Levels.{levels_in_range, last_level}
use Rattle.plan_check.specs.Day as plan
use Rattle.plan_check.specs.Feasible.{shapes_fit}
use Rattle.sets_analysis.specs.SetsDay as sets
use Rattle.sets_analysis.specs.Kept.{CriticalSet, kept_sets, simplified}
use Rattle.sets_analysis.specs.Bound.{bound_of}
use Rattle.sets_analysis.specs.Calls.{Pools, pools, pools_full, filled, sets_in, figures, sets_kept, analyzed_of, analysis_of}
use Rattle.sets_analysis.specs.Calls as analysis
use Rattle.sets_analysis.specs.declared.analysis.Analysis.{Analysis}
use Rattle.sets_analysis.specs.declared.analysis.Figures.{Figures}
use Rattle.sets_analysis.specs.declared.analysis.Analysis.TheVariants as mode
use Rattle.search_map.specs.Calls.{map_full}
use Rattle.sets_analysis.proofs.PoolsBack.{sets-back}
use Rattle.search_rules.specs.Passes.{Ending, found, none, out}
use Rattle.search_meaning.specs.Given.{Given, plan_day, sets_day}
use Rattle.search_meaning.specs.Judged.{day_judged, lent_judged}
use Rattle.search_meaning.proofs.JudgedLaws.{DayKeeps, day-keeps, lent-keeps}
use Rattle.search_meaning.specs.Search.{sets_of, lowest_of, start_of, sets_at, rows_counted, order_of, lent_at, pass_at, ending_of}
use Rattle.search_meaning.specs.Calls.{Settled, plan_left, sets_fit, search_judged, search_of}
use Rattle.search_meaning.specs.declared.settings.Settings.{Settings}
use Rattle.search.specs.steps.Ground.{Ground, ground_of, rows_in, lent_in, pass_in, ending_in, planned_in, answered, call_in}
use Rattle.search.specs.steps.LevelPass.{Basis, basis_of, ground_on, PassReady}

-- ---- the analysis

-- what an analysis that answers has found
pub record SetsFound (day : sets.SetsDay) (mode : Analysis) (count bound : ℕ) (lent : Pools) : Type 0 where
  pub fit : sets_fit day mode ≡ true
  pub counted : count ≡ length (sets_of day mode)
  pub lowest : bound ≡ lowest_of day mode
  pub pooled : lent ≡ filled (sets_of day mode)

-- the sets kept, if they fit
module _ (day : sets.SetsDay) (kept picked : List CriticalSet) {lent : Pools} where
  kept-fit : {count bound : ℕ} → outcome (done (figures count bound)) lent ≡ sets_kept day kept picked
      → (leb (length kept) 1024 ≡ true) × (count ≡ length picked) × (bound ≡ bound_of day picked) × (lent ≡ filled picked)
  unfolding sets_kept
  kept-fit {count} {bound} e = go (leb (length kept) 1024) refl
    where
      go : (b : Bool) → leb (length kept) 1024 ≡ b → (leb (length kept) 1024 ≡ true) × (count ≡ length picked) × (bound ≡ bound_of day picked) × (lent ≡ filled picked)
      go true t =
          let o : outcome (done (figures count bound)) lent ≡ outcome (done (figures (length picked) (bound_of day picked))) (filled picked) = rw t at e in
          let f : figures count bound ≡ figures (length picked) (bound_of day picked) = done-is (ap (λ (x : Outcome Figures Pools). x.answer) o) in
          (t, ap (λ (x : Figures). x.count) f, ap (λ (x : Figures). x.bound) f, ap (λ (x : Outcome Figures Pools). x.buffers) o)
      go false t = absurd (refused-not-done (sym (ap (λ (x : Outcome Figures Pools). x.answer) (rw t at e))))

  kept-over : {number : ℕ} {carried : List ℕ} → outcome (refused number carried) lent ≡ sets_kept day kept picked
      → (leb (length kept) 1024 ≡ false) × (◌≡◌ {A = Verdict} (refused number carried) (refuse 7))
  unfolding sets_kept
  kept-over {number} {carried} e = go (leb (length kept) 1024) refl
    where
      go : (b : Bool) → leb (length kept) 1024 ≡ b → (leb (length kept) 1024 ≡ false) × (◌≡◌ {A = Verdict} (refused number carried) (refuse 7))
      go true t = absurd (refused-not-done (ap (λ (x : Outcome Figures Pools). x.answer) (rw t at e)))
      go false t = (t, refused_as (ap (λ (x : Outcome Figures Pools). x.answer) (rw t at e)))

module _ (day : sets.SetsDay) {lent : Pools} where
  analyzed_found : (mode : Analysis) {count bound : ℕ} → outcome (done (figures count bound)) lent ≡ analyzed_of day mode → SetsFound day mode count bound lent
  unfolding analyzed_of
  analyzed_found mode.Off {count} {bound} e =
      let f : figures count bound ≡ figures 0 0 = done-is (ap (λ (x : Outcome Figures Pools). x.answer) e) in
      record { fit = refl; counted = ap (λ (x : Figures). x.count) f; lowest = ap (λ (x : Figures). x.bound) f; pooled = ap (λ (x : Outcome Figures Pools). x.buffers) e }
  analyzed_found mode.On e =
      let k = kept-fit day (kept_sets day) (kept_sets day) e in
      record { fit = k.0; counted = k.1; lowest = k.2; pooled = k.3 }
  analyzed_found mode.Simplified e =
      let k = kept-fit day (kept_sets day) (simplified (kept_sets day)) e in
      record { fit = k.0; counted = k.1; lowest = k.2; pooled = k.3 }

  analyzed_over : (mode : Analysis) {number : ℕ} {carried : List ℕ} → outcome (refused number carried) lent ≡ analyzed_of day mode
      → (sets_fit day mode ≡ false) × (◌≡◌ {A = Verdict} (refused number carried) (refuse 7))
  unfolding analyzed_of
  analyzed_over mode.Off e = absurd (refused-not-done (ap (λ (x : Outcome Figures Pools). x.answer) e))
  analyzed_over mode.On e = kept-over day (kept_sets day) (kept_sets day) e
  analyzed_over mode.Simplified e = kept-over day (kept_sets day) (simplified (kept_sets day)) e

-- no more sets than a pool has places
few-sets : (picked : List CriticalSet) (masks levels : List ℕ) → pools masks levels ≡ filled picked → 1024 ≡ length masks → length picked ≤ 1024
unfolding filled pad
few-sets picked masks levels e l =
    let members = map (λ (set : CriticalSet). set.members) picked in
    let m : masks ≡ members ++ replicate (1024 - length members) 0 = ap (λ (x : Pools). x.masks) e in
    let n : length masks ≡ length members + (1024 - length members) = ap length m ∙ length-append members (replicate (1024 - length members) 0) ∙ rw length-replicate in
    let k : length members ≡ length picked = length-map picked (λ (set : CriticalSet). set.members) in
    omega arith

-- ---- the call

-- 'A call starts at the last level if the lent flag says so'
pub start-last : (flag : Bool) (last bound : ℕ) {start : ℕ} → flag ≡ true → start ≡ last → start ≡ cond flag last bound
start-last flag last bound t e = rw t e

module _ (given : Given) (settings : Settings) (before : List ℕ) where
  -- what the passes stand on
  abbrev pub ground_at : Ground
  ground_at = ground_of settings.full (plan_day given) given.map given.whole given.orders given.levels (sets_of (sets_day given) settings.analysis) given.draws

  -- and with the sets in their pools
  abbrev pub basis_at : plan.Day → ℕ → List ℕ → List ℕ → Basis
  basis_at day count masks levels = basis_of settings.full day given.map given.whole given.orders given.levels count (pools masks levels) given.draws

  -- a refusal leaves the plan
  refused-by : {number : ℕ} {carried : List ℕ} → search_judged given settings before ≡ refused number carried → outcome (refused number carried) before ≡ search_of given settings before
  unfolding search_of
  refused-by e = rw e

  -- the call's refusals of the day: 1, 2, 3, 4, 5
  pub day-refused : {number : ℕ} {carried : List ℕ} → refused number carried ≡ day_judged given before → outcome (refused number carried) before ≡ search_of given settings before
  unfolding search_judged
  day-refused e =
      refused-by (ap (λ (v : Verdict). and_then v (unless (sets_fit (sets_day given) settings.analysis) 7 (lent_judged given))) (sym e))

  module _ (d : day_judged given before ≡ good) where
    day_facts : DayKeeps given before
    day_facts = day-keeps given before d

    -- what counting the looked-up rows asks for
    few-looked : (length given.map.numbers ≤ 10240) × (length given.whole ≤ 1024)
    unfolding map_full
    few-looked =
        let f = day_facts in
        let starts = eqb (length given.map.starts) 64 in
        let lengths = eqb (length given.map.lengths) 64 in
        let numbers : length given.map.numbers ≡ 10240 = eqb-true _ _ (and_right (starts && lengths) (eqb (length given.map.numbers) 10240) f.full) in
        (omega arith, omega (arith, f.whole, f.in_range.day.rows))

    -- the analysis refuses no day
    module _ (masks levels : List ℕ) (m : 1024 ≡ length masks) (l : 1024 ≡ length levels) where
      analysis_good : analysis.day_judged (sets_day given) (pools masks levels) ≡ good
      unfolding analysis.day_judged sets.sets_counts_in_range sets.sets_lengths_fit pools_full levels_in_range
      analysis_good =
          let f = day_facts in
          rw (le-leb _ _ f.in_range.day.choices, le-leb _ _ f.in_range.day.slots, le-leb _ _ f.in_range.day.choosers, le-leb _ _ f.in_range.level, le-leb _ _ f.in_range.levels, eq-eqb _ _ f.mins, eq-eqb _ _ f.levels, eq-eqb _ _ f.preferences, eq-eqb _ _ (sym m), eq-eqb _ _ (sym l), f.rise, f.at-most-last)

      analysis_is : analysis_of (sets_day given) settings.analysis (pools masks levels) ≡ analyzed_of (sets_day given) settings.analysis
      unfolding analysis_of
      analysis_is = rw analysis_good

      module _ {day : sets.SetsDay} (q : day ≡ sets_day given) {told : Told Figures} {after : Pools} (e : outcome told after ≡ analysis_of day settings.analysis (pools masks levels)) where
        analysis_known : outcome told after ≡ analyzed_of (sets_day given) settings.analysis
        analysis_known =
            e ∙ ap (λ (x : sets.SetsDay). analysis_of x settings.analysis (pools masks levels)) q ∙ analysis_is

        -- the call's refusal of too many sets: 7
        pub sets-refused : {number : ℕ} {carried : List ℕ} → told ≡ refused number carried → outcome (refused number carried) before ≡ search_of given settings before
        unfolding search_judged
        sets-refused k =
            let o = analyzed_over (sets_day given) settings.analysis (rw k at analysis_known) in
            refused-by (rw (d, o.0) (sym o.1))

        pub sets-found : {count bound : ℕ} → told ≡ done (figures count bound) → SetsFound (sets_day given) settings.analysis count bound after
        sets-found k = analyzed_found (sets_day given) settings.analysis (rw k at analysis_known)

    module _ {count bound : ℕ} {masks levels : List ℕ} (f : SetsFound (sets_day given) settings.analysis count bound (pools masks levels)) where
      -- the call's refusals of what is lent beside the day: 8, 13, 14
      pub lent-refused : {number : ℕ} {carried : List ℕ} → refused number carried ≡ lent_judged given → outcome (refused number carried) before ≡ search_of given settings before
      unfolding search_judged
      lent-refused e = refused-by (rw (d, f.fit) (sym e))

      -- the pools hold the sets
      sets-in : sets_in count masks levels ≡ sets_of (sets_day given) settings.analysis
      sets-in =
          ap₂ (λ (n : ℕ) (p : Pools). sets_in n p.masks p.levels) f.counted f.pooled ∙ sets-back (sets_of (sets_day given) settings.analysis)

      module _ (l : lent_judged given ≡ good) where
        -- what the passes ask for
        pub passes-ready : {day : plan.Day} → day ≡ plan_day given → 1024 ≡ length masks → 1024 ≡ length levels → PassReady (basis_at day count masks levels) before
        unfolding shapes_fit levels_in_range
        passes-ready {day} c m n =
            let k = day_facts in
            let t = lent-keeps given l in
            rw c
            (record {
              shapes = rw (le-leb _ _ k.in_range.day.choices, le-leb _ _ k.in_range.day.slots) k.entries;
              few-numbers = few-looked.0;
              short-whole = few-looked.1;
              orders-keep = t.orders;
              few-levels = rw (k.levels, le-leb _ _ k.in_range.level, le-leb _ _ k.in_range.levels);
              levels-rise = k.rise;
              few-sets = rw f.counted (few-sets (sets_of (sets_day given) settings.analysis) masks levels f.pooled m);
              masks-full = sym m;
              levels-full = sym n;
            })

        -- the passes of this ground are those of the call
        ending_is : ending_of given settings ≡ ending_in ground_at settings.pass_budget settings.total_budget (start_of given settings)
        unfolding ending_of ending_in pass_at pass_in lent_at lent_in order_of rows_counted rows_in sets_at
        ending_is = refl

        planned_is : (ending : Ending) → plan_left given settings before ending ≡ planned_in ground_at before ending
        unfolding lent_at lent_in order_of rows_counted rows_in sets_at
        planned_is (found left pass limit places) = refl
        planned_is (none left pass limit) = refl
        planned_is (out pass limit) = refl

        search_goes : answered ground_at settings.total_budget before (ending_of given settings) ≡ search_of given settings before
        unfolding search_of search_judged answered
        search_goes = rw (d, f.fit, l, planned_is (ending_of given settings))

        start_is : {start : ℕ} → start ≡ cond settings.at_last_level (last_level given.levels) bound → start ≡ start_of given settings
        unfolding start_of
        start_is s = rw (sym f.lowest) s

        -- the passes answer
        pub passes-answer : {day : plan.Day} {start : ℕ} {tells : Outcome Settled (List ℕ)} → day ≡ plan_day given → start ≡ cond settings.at_last_level (last_level given.levels) bound
            → tells ≡ call_in (ground_on (basis_at day count masks levels)) settings.pass_budget settings.total_budget start before
            → tells ≡ search_of given settings before
        unfolding call_in
        passes-answer {day} {start} c s e =
            let same : ground_on (basis_at day count masks levels) ≡ ground_at =
            ap₂ (λ (k : plan.Day) (x : List CriticalSet). ground_of settings.full k given.map given.whole given.orders given.levels x given.draws) c sets-in in
            e
            ∙ ap₂ (λ (g : Ground) (n : ℕ). answered g settings.total_budget before (ending_in g settings.pass_budget settings.total_budget n)) same (start_is s)
            ∙ ap (λ (x : Ending). answered ground_at settings.total_budget before x) (sym ending_is)
            ∙ search_goes
