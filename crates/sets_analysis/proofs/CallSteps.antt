-- The analysis as a call, a law for each way through its functions.
use mathlib.Core.Path.{◌≡◌, refl, sym, ◌∙◌, ap, ap₂}
use mathlib.Core.Bool.{Bool, true, false, ◌&&◌}
use mathlib.Core.List.{List, []}
use Prim.Native.Nat.{ℕ, ◌*◌, ◌≤◌, ◌<◌}
use native.Mathlib.Omega.{arith}
use borrow.Author.Tests.{le-leb, lt-leb, eq-eqb, ne_eqb, eqb-true}
use lib.Dec.{eqb}
use lib.ListN.{length}
use Rattle.base_lists.specs.Flat.{list_below}
use Rattle.base_lists.proofs.Below.{and_left, and_right}
use Rattle.day_rows.specs.Told.{Told, done, refused, refuse, Outcome, outcome, judged}
use Rattle.day_rows.proofs.ToldLaws.{unless-done}
use Rattle.base_lists.specs.All.{all_at_most}
use Rattle.day_rows.specs.Levels.{levels_rise, last_level}
use Rattle.sets_analysis.specs.SetsDay.{SetsDay, sets_counts_in_range, sets_lengths_fit}
use Rattle.sets_analysis.specs.Kept.{CriticalSet, kept_sets}
use Rattle.sets_analysis.specs.Bound.{lowered_to, bound_of}
use Rattle.sets_analysis.specs.Calls.{Pools, pools, pools_full, figures, sets_in, sets_kept, analyzed_of, day_judged, analysis_of}
use Rattle.sets_analysis.specs.declared.analysis.Analysis.{Analysis}
use Rattle.sets_analysis.specs.declared.analysis.Analysis.TheVariants as asked
use Rattle.sets_analysis.specs.declared.analysis.Figures.{Figures}
use Rattle.sets_analysis.specs.steps.Pools.{Lent, Fits, KeptIn, cleared_past, simplified_if}
use Rattle.sets_analysis.proofs.PoolSteps.{sets-length, filled-by}
use Rattle.sets_analysis.proofs.DaySteps.{counts-known}

-- ---- the day's refusals

pub lengths-known : (day : SetsDay) → sets_lengths_fit day ≡ true
    → (length day.mins ≡ day.counts.choices) × (length day.levels ≡ day.counts.levels) × (length day.preferences ≡ day.counts.choosers * day.counts.choices)
unfolding sets_lengths_fit
lengths-known day h =
    let a = eqb (length day.mins) day.counts.choices in
    let b = eqb (length day.levels) day.counts.levels in
    let c = eqb (length day.preferences) (day.counts.choosers * day.counts.choices) in
    let ab = and_left (a && b) c h in
    (eqb-true _ _ (and_left a b ab), eqb-true _ _ (and_right a b ab), eqb-true _ _ (and_right (a && b) c h))

module _ (day : SetsDay) (masks levels : List ℕ) where
  pub judged-count : sets_counts_in_range day.counts ≡ false → refuse 1 ≡ day_judged day (pools masks levels)
  unfolding day_judged
  judged-count h = rw h

  module _ (counts : sets_counts_in_range day.counts ≡ true) where
    pub judged-lengths : sets_lengths_fit day ≡ false → refuse 2 ≡ day_judged day (pools masks levels)
    unfolding day_judged
    judged-lengths h = rw (counts, h)

    module _ (lengths : sets_lengths_fit day ≡ true) where
      pub judged-masks : (length masks ≡ 1024 → ⊥) → refuse 2 ≡ day_judged day (pools masks levels)
      unfolding day_judged pools_full
      judged-masks h = rw (counts, lengths, ne_eqb _ _ h)

      module _ (full : length masks ≡ 1024) where
        pub judged-levels : (length levels ≡ 1024 → ⊥) → refuse 2 ≡ day_judged day (pools masks levels)
        unfolding day_judged pools_full
        judged-levels h = rw (counts, lengths, eq-eqb _ _ full, ne_eqb _ _ h)

        module _ (full' : length levels ≡ 1024) where
          pub judged-rise : levels_rise day.levels ≡ false → refuse 3 ≡ day_judged day (pools masks levels)
          unfolding day_judged pools_full
          judged-rise h = rw (counts, lengths, eq-eqb _ _ full, eq-eqb _ _ full', h)

          module _ (rise : levels_rise day.levels ≡ true) (last : ℕ) (e : last ≡ last_level day.levels) where
            pub judged_preference : all_at_most last day.preferences ≡ false → refuse 4 ≡ day_judged day (pools masks levels)
            unfolding day_judged pools_full
            judged_preference h =
                let z : all_at_most (last_level day.levels) day.preferences ≡ false = ap (λ (n : ℕ). all_at_most n day.preferences) (sym e) ∙ h in
                rw (counts, lengths, eq-eqb _ _ full, eq-eqb _ _ full', rise, z)

            pub judged-good : all_at_most last day.preferences ≡ true → done _ ≡ day_judged day (pools masks levels)
            unfolding day_judged pools_full
            judged-good h =
                let z : all_at_most (last_level day.levels) day.preferences ≡ true = ap (λ (n : ℕ). all_at_most n day.preferences) (sym e) ∙ h in
                rw (counts, lengths, eq-eqb _ _ full, eq-eqb _ _ full', rise, z)

pub full-known : (masks levels : List ℕ) → pools_full (pools masks levels) ≡ true → Lent 0 masks levels
unfolding pools_full
full-known masks levels h =
    record {
      masks-full = eqb-true _ _ (and_left (eqb (length masks) 1024) (eqb (length levels) 1024) h);
      levels-full = eqb-true _ _ (and_right (eqb (length masks) 1024) (eqb (length levels) 1024) h);
      few = omega arith;
    }

-- a day that isn't refused fits, and its pools are lent whole
pub judged-fits : (day : SetsDay) (masks levels : List ℕ) → day_judged day (pools masks levels) ≡ done _ → Lent 0 masks levels × Fits day
unfolding day_judged
judged-fits day masks levels h =
    let a = unless-done (sets_counts_in_range day.counts) 1 _ h in
    let b = unless-done (sets_lengths_fit day && pools_full (pools masks levels)) 2 _ a.1 in
    let f = counts-known day.counts a.0 in
    let l = lengths-known day (and_left (sets_lengths_fit day) (pools_full (pools masks levels)) b.0) in (
      full-known masks levels (and_right (sets_lengths_fit day) (pools_full (pools masks levels)) b.0),
      record {
        few-choices = f.choices;
        few-slots = f.slots;
        few-choosers = f.choosers;
        some-levels = f.some-levels;
        mins-fit = l.0;
        levels-fit = l.1;
        preferences-fit = l.2;
      },
    )

-- ---- the answers

-- the answer where too many sets are kept: 7, and both pools all zero
pub day-over : (day : SetsDay) (sets : List CriticalSet) (masks levels : List ℕ) {masks' levels' : List ℕ} → 1024 < length (kept_sets day)
    → (masks' ≡ cleared_past 0 masks) × (levels' ≡ cleared_past 0 levels) → outcome (refuse 7) (pools masks' levels') ≡ sets_kept day (kept_sets day) sets
unfolding sets_kept sets_in list_below
day-over day sets masks levels h e =
    rw (lt-leb (length (kept_sets day)) 1024 h)
    (ap (outcome (refuse 7)) (ap₂ pools e.0 e.1 ∙ filled-by 0 masks levels [] (omega arith) (omega arith) refl))

-- the answer where they aren't too many: the sets, simplified if asked, and their bound
pub day-answer : (day : SetsDay) (asked : Bool) (kept count bound : ℕ) (masks levels masks₂ levels₂ : List ℕ) {masks' levels' : List ℕ} → KeptIn (kept_sets day) kept masks levels → kept ≤ 1024
    → (count ≤ kept) × (sets_in count masks₂ levels₂ ≡ simplified_if asked (sets_in kept masks levels))
    → bound ≡ lowered_to day.counts.slots (sets_in count masks₂ levels₂) (last_level day.levels) day.levels → Lent count masks₂ levels₂
    → (masks' ≡ cleared_past count masks₂) × (levels' ≡ cleared_past count levels₂)
    → outcome (done (figures count bound)) (pools masks' levels') ≡ sets_kept day (kept_sets day) (simplified_if asked (kept_sets day))
unfolding sets_kept bound_of
day-answer day asked kept count bound masks levels masks₂ levels₂ k h s b l e =
    let is : sets_in kept masks levels ≡ kept_sets day = k.here h in
    let sets : sets_in count masks₂ levels₂ ≡ simplified_if asked (kept_sets day) = s.1 ∙ ap (simplified_if asked) is in
    let few : length (kept_sets day) ≤ 1024 = rw (sym is, sets-length kept masks levels) h in
    rw (le-leb (length (kept_sets day)) 1024 few)
    (ap₂ (λ (f : Figures) (p : Pools). outcome (done f) p)
    (ap₂ figures (sym (sets-length count masks₂ levels₂) ∙ ap length sets) (b ∙ ap (λ (x : List CriticalSet). lowered_to day.counts.slots x (last_level day.levels) day.levels) sets))
    (ap₂ pools e.0 e.1 ∙ filled-by count masks₂ levels₂ (simplified_if asked (kept_sets day)) (omega (arith, l.few, l.masks-full)) (omega (arith, l.few, l.levels-full)) sets))

module _ (day : SetsDay) (mode : Analysis) (masks levels : List ℕ) where
  -- a refusal leaves the pools untouched
  pub call_refused : {number : ℕ} {carried : List ℕ} → refused number carried ≡ day_judged day (pools masks levels)
      → outcome (refused number carried) (pools masks levels) ≡ analysis_of day mode (pools masks levels)
  unfolding analysis_of
  call_refused e = ap (λ (t : Told (Unit {0})). judged t (pools masks levels) (analyzed_of day mode)) e

  module _ (good : done _ ≡ day_judged day (pools masks levels)) where
    pub good-fits : Lent 0 masks levels × Fits day
    good-fits = judged-fits day masks levels (sym good)

    goes_on : analysis_of day mode (pools masks levels) ≡ analyzed_of day mode
    unfolding analysis_of
    goes_on = ap (λ (t : Told (Unit {0})). judged t (pools masks levels) (analyzed_of day mode)) (sym good)

    pub call_off : {masks' levels' : List ℕ} → mode ≡ asked.Off → (masks' ≡ cleared_past 0 masks) × (levels' ≡ cleared_past 0 levels)
        → outcome (done (figures 0 0)) (pools masks' levels') ≡ analysis_of day mode (pools masks levels)
    unfolding analyzed_of sets_in list_below
    call_off m c =
        ap (outcome (done (figures 0 0))) (ap₂ pools c.0 c.1 ∙ filled-by 0 masks levels [] (omega arith) (omega arith) refl)
        ∙ sym (goes_on ∙ ap (analyzed_of day) m)

    pub call_on : {o : Outcome Figures Pools} → mode ≡ asked.On → o ≡ sets_kept day (kept_sets day) (simplified_if false (kept_sets day)) → o ≡ analysis_of day mode (pools masks levels)
    unfolding analyzed_of simplified_if
    call_on m k = k ∙ sym (goes_on ∙ ap (analyzed_of day) m)

    pub call_simplified : {o : Outcome Figures Pools} → mode ≡ asked.Simplified → o ≡ sets_kept day (kept_sets day) (simplified_if true (kept_sets day)) → o ≡ analysis_of day mode (pools masks levels)
    unfolding analyzed_of simplified_if
    call_simplified m k = k ∙ sym (goes_on ∙ ap (analyzed_of day) m)
