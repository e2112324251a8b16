-- Keeping sets, a law for each way through the code.
use mathlib.Core.Path.{◌≡◌, refl, sym, ◌∙◌, ap, ap₂}
use mathlib.Core.Bool.{Bool, true, false, ◌||◌, cond}
use mathlib.Core.List.{List, [], ◌∷◌, ◌++◌}
use Prim.Native.Nat.{ℕ, zero, suc, ◌+◌, ◌*◌, ◌-◌, ◌≤◌, ◌<◌}
use native.Mathlib.Nat.{mul-le-mul_right, le_refl, le_trans, suc-mul}
use native.Mathlib.Numerals.{add-one}
use native.Mathlib.Omega.{arith}
use borrow.Author.Tests.{lt-ltb, le-ltb, le-leb, lt-leb, eq-eqb, ne_eqb}
use lib.Arith.{lt_of_le-ne}
use lib.Dec.{leb}
use lib.ListN.{length, get_or, set, length-append}
use Rattle.base_lists.specs.Below.{sum_below}
use Rattle.base_lists.specs.Flat.{list_below, join_below}
use Rattle.base_lists.specs.Keep.{any_of}
use Rattle.base_lists.proofs.Flat.{list-more, join_more}
use Rattle.base_lists.proofs.SumBelow.{sum_ext}
use Rattle.base_choice_sets.specs.Sets.{set_of, within, same_choices, with_choice}
use Rattle.base_choice_sets.proofs.SetLaws.{has-set, with_next, set_skip}
use Rattle.sets_analysis.specs.SetsDay.{SetsDay, preference_of}
use Rattle.sets_analysis.specs.Kept.{CriticalSet, critical_set, covered_by, candidate_of, level_down, candidates, min_sum, room_of, skipped, kept_from, kept_sets, same_set, stays_beside}
use Rattle.sets_analysis.specs.Calls.{sets_in}
use Rattle.sets_analysis.specs.steps.Pools.{Looked, Lent, Fits, KeptIn, kept_next}
use Rattle.sets_analysis.proofs.DaySteps.{product_few}
use Rattle.sets_analysis.proofs.PoolSteps.{sets-length, sets-put}

-- ---- covered, and staying beside

module _ (level members other_level other : ℕ) where
  pub not_covered : leb level other_level ≡ false → false ≡ covered_by (critical_set other_level other) (critical_set level members)
  unfolding covered_by
  not_covered h = rw h

  pub covered_within : {b : Bool} → leb level other_level ≡ true → b ≡ within other members → b ≡ covered_by (critical_set other_level other) (critical_set level members)
  unfolding covered_by
  covered_within h e = rw h e

module _ (here_level here level members : ℕ) where
  pub stays_uncovered : covered_by (critical_set here_level here) (critical_set level members) ≡ false → true ≡ stays_beside (critical_set here_level here) (critical_set level members)
  unfolding stays_beside
  stays_uncovered h = rw h (sym (or_true (same_set (critical_set here_level here) (critical_set level members))))
    where
      or_true : (b : Bool) → (b || true) ≡ true
      or_true true = refl
      or_true false = refl

  pub stays-other : covered_by (critical_set here_level here) (critical_set level members) ≡ true → (here_level ≡ level → ⊥) → false ≡ stays_beside (critical_set here_level here) (critical_set level members)
  unfolding stays_beside same_set
  stays-other h n = rw (h, ne_eqb here_level level n)

  pub stays_same : {b : Bool} → covered_by (critical_set here_level here) (critical_set level members) ≡ true → here_level ≡ level → b ≡ same_choices here members
      → b ≡ stays_beside (critical_set here_level here) (critical_set level members)
  unfolding stays_beside same_set
  stays_same h n e = rw (h, eq-eqb here_level level n) (e ∙ sym (or_false (same_choices here members)))
    where
      or_false : (b : Bool) → (b || false) ≡ b
      or_false true = refl
      or_false false = refl

-- ---- a candidate: its set and its sum

module _ (level start : ℕ) (mins preferences : List ℕ) where
  pub looked-start : Looked level start mins preferences 0 0 0
  unfolding set_of sum_below
  looked-start = record { set = refl; added = refl }

  module _ (members sum choice : ℕ) (s : Looked level start mins preferences members sum choice) where
    pub looked-past : level < get_or preferences (start + choice) 0 → Looked level start mins preferences members sum (choice + 1)
    unfolding sum_below
    looked-past h =
        let t : leb (get_or preferences (start + choice) 0) level ≡ false = lt-leb _ _ h in
        record {
          set = s.set ∙ sym (set_skip choice (λ c. leb (get_or preferences (start + c) 0) level) t);
          added = rw (add-one choice, t) (s.added ∙ omega arith);
        }

    pub looked_in : (members' added : ℕ) → get_or preferences (start + choice) 0 ≤ level → choice < 64 → members' ≡ with_choice members choice → added ≡ get_or mins choice 0
        → Looked level start mins preferences members' (sum + added) (choice + 1)
    unfolding sum_below
    looked_in members' added h l e f =
        let t : leb (get_or preferences (start + choice) 0) level ≡ true = le-leb _ _ h in
        record {
          set = e ∙ ap (λ (m : ℕ). with_choice m choice) s.set ∙ with_next choice (λ c. leb (get_or preferences (start + c) 0) level) l t;
          added = rw (add-one choice, t) (ap₂ (λ (n k : ℕ). n + k) s.added f);
        }

    pub looked-all : choice ≤ length mins → length mins ≤ choice → Looked level start mins preferences members sum (length mins)
    looked-all h k =
        let e : choice ≡ length mins = omega arith in
        record {
          set = s.set ∙ ap (λ (n : ℕ). set_of n λ c. leb (get_or preferences (start + c) 0) level) e;
          added = s.added ∙ ap (λ (n : ℕ). sum_below n λ c. cond (leb (get_or preferences (start + c) 0) level) (get_or mins c 0) 0) e;
        }

-- ---- one candidate after those kept

module _ (room sum : ℕ) (set : CriticalSet) (count : ℕ) (masks levels : List ℕ) where
  pub skips-sum : room < sum → count ≤ 1024 → KeptIn (kept_next room sum set (sets_in count masks levels)) count masks levels
  unfolding kept_next
  skips-sum h c = rw (lt-ltb room sum h) (record { here = λ l. refl; over = λ l. absurd (omega arith) })

  pub skips_covered : sum ≤ room → count ≤ 1024 → any_of (λ other. covered_by other set) (sets_in count masks levels) ≡ true
      → KeptIn (kept_next room sum set (sets_in count masks levels)) count masks levels
  unfolding kept_next
  skips_covered h c t = rw (le-ltb room sum h, t) (record { here = λ l. refl; over = λ l. absurd (omega arith) })

  pub one_too_many : sum ≤ room → any_of (λ other. covered_by other set) (sets_in count masks levels) ≡ false → count ≡ 1024
      → 1024 < length (kept_next room sum set (sets_in count masks levels))
  unfolding kept_next
  one_too_many h t e =
      rw (le-ltb room sum h, t, length-append, sets-length count masks levels) (omega arith)

-- pools with fewer than 1,024 sets have room for one more
pub room-left : (count : ℕ) (masks levels : List ℕ) → Lent count masks levels → (count ≡ 1024 → ⊥) → (count < length masks) × (count < length levels)
room-left count masks levels l n =
    let h : count < 1024 = lt_of_le-ne l.few n in
    (omega (arith, l.masks-full), omega (arith, l.levels-full))

-- a set that is neither skipped nor one too many is kept after the others
pub keeps-one : (room sum level members count : ℕ) (masks levels : List ℕ) → Lent count masks levels → (count ≡ 1024 → ⊥) → sum ≤ room
    → any_of (λ other. covered_by other (critical_set level members)) (sets_in count masks levels) ≡ false
    → KeptIn (kept_next room sum (critical_set level members) (sets_in count masks levels)) (count + 1) (set masks count members) (set levels count level)
unfolding kept_next
keeps-one room sum level members count masks levels lent n h t =
    let r = room-left count masks levels lent n in
    rw (le-ltb room sum h, t)
    (record { here = λ l. sets-put count masks levels level members r.0 r.1; over = λ l. absurd (omega (arith, r.0, lent.masks-full)) })

-- ---- candidates one after the other

pub kept_append : (day : SetsDay) (kept xs ys : List CriticalSet) → kept_from day kept (xs ++ ys) ≡ kept_from day (kept_from day kept xs) ys
unfolding kept_from
kept_append day kept [] ys = refl
kept_append day kept (x ∷ xs) ys = kept_append day (cond (skipped day kept x) kept (kept ++ (x ∷ []))) xs ys

pub kept-grows : (day : SetsDay) (kept xs : List CriticalSet) → length kept ≤ length (kept_from day kept xs)
unfolding kept_from
kept-grows day kept [] = le_refl (length kept)
kept-grows day kept (x ∷ xs) = le_trans (go (skipped day kept x)) (kept-grows day (cond (skipped day kept x) kept (kept ++ (x ∷ []))) xs)
  where
    go : (b : Bool) → length kept ≤ length (cond b kept (kept ++ (x ∷ [])))
    go true = le_refl (length kept)
    go false = rw length-append (omega arith)

pub next-is : (day : SetsDay) (set : CriticalSet) (kept : List CriticalSet) → kept_next (room_of day) (min_sum day set) set kept ≡ kept_from day kept (set ∷ [])
unfolding kept_next kept_from skipped
next-is day set kept = refl

pub kept_as : {sets sets' : List CriticalSet} {count : ℕ} {masks levels : List ℕ} → sets ≡ sets' → KeptIn sets count masks levels → KeptIn sets' count masks levels
kept_as e k = record { here = λ l. k.here l ∙ e; over = λ l. rw (sym e) (k.over l) }

pub many_as : {sets sets' : List CriticalSet} → sets ≡ sets' → 1024 < length sets → 1024 < length sets'
many_as e h = rw (sym e) h

module _ (day : SetsDay) (level : ℕ) where
  pub candidate_is : (chooser start members : ℕ) → length day.mins ≡ day.counts.choices → start ≡ chooser * day.counts.choices
      → members ≡ set_of (length day.mins) (λ c. leb (get_or day.preferences (start + c) 0) level) → critical_set level members ≡ candidate_of day level chooser
  unfolding candidate_of preference_of
  candidate_is chooser start members m s e =
      ap (critical_set level) (e ∙ ap₂ (λ (n k : ℕ). set_of n λ c. leb (get_or day.preferences (k + c) 0) level) m s)

  pub sum_is : (chooser start sum : ℕ) → length day.mins ≡ day.counts.choices → start ≡ chooser * day.counts.choices
      → sum ≡ sum_below (length day.mins) (λ c. cond (leb (get_or day.preferences (start + c) 0) level) (get_or day.mins c 0) 0) → sum ≡ min_sum day (candidate_of day level chooser)
  unfolding min_sum candidate_of preference_of
  sum_is chooser start sum m s e =
      e
      ∙ ap₂ (λ (n k : ℕ). sum_below n λ c. cond (leb (get_or day.preferences (k + c) 0) level) (get_or day.mins c 0) 0) m s
      ∙ sum_ext day.counts.choices _ _ λ c l.
      ap (λ (b : Bool). cond b (get_or day.mins c 0) 0) (sym (has-set day.counts.choices (λ k. leb (get_or day.preferences (chooser * day.counts.choices + k) 0) level) c l))

-- ---- the choosers of one level

pub record KeepsLevel (day : SetsDay) (level : ℕ) (kept₀ : List CriticalSet) (chooser kept : ℕ) (masks levels : List ℕ) : Type 0 where
  pub so_far : chooser ≤ day.counts.choosers
  pub lent : Lent kept masks levels
  pub sets : sets_in kept masks levels ≡ kept_from day kept₀ (list_below chooser (candidate_of day level))

-- a chooser's row of a table ends within it
pub row_fits : (chooser choosers choices : ℕ) → chooser < choosers → chooser * choices + choices ≤ choosers * choices
row_fits chooser choosers choices h = le_trans (omega (arith, suc-mul chooser choices)) (mul-le-mul_right choices h)

module _ (day : SetsDay) (level : ℕ) (kept₀ : List CriticalSet) where
  pub level-start : (kept : ℕ) (masks levels : List ℕ) → Lent kept masks levels → sets_in kept masks levels ≡ kept₀ → KeepsLevel day level kept₀ 0 kept masks levels
  unfolding list_below kept_from
  level-start kept masks levels l e = record { so_far = omega arith; lent = l; sets = e }

  module _ (chooser kept : ℕ) (masks levels : List ℕ) (s : KeepsLevel day level kept₀ chooser kept masks levels) where
    -- the candidate of one chooser more is kept or skipped
    pub level-next : (room members sum : ℕ) → length day.mins ≡ day.counts.choices → room ≡ room_of day
        → Looked level (chooser * day.counts.choices) day.mins day.preferences members sum (length day.mins)
        → kept_next room sum (critical_set level members) (sets_in kept masks levels) ≡ kept_from day kept₀ (list_below (chooser + 1) (candidate_of day level))
    level-next room members sum m r f =
        ap (λ (x : ℕ). kept_next x sum (critical_set level members) (sets_in kept masks levels)) r
        ∙ ap (λ (x : ℕ). kept_next (room_of day) x (critical_set level members) (sets_in kept masks levels)) total
        ∙ ap₂ (λ (x : CriticalSet) (l : List CriticalSet). kept_next (room_of day) (min_sum day (candidate_of day level chooser)) x l) is s.sets
        ∙ next-is day (candidate_of day level chooser) (kept_from day kept₀ (list_below chooser (candidate_of day level)))
        ∙ sym (kept_append day kept₀ (list_below chooser (candidate_of day level)) (candidate_of day level chooser ∷ []))
        ∙ ap (kept_from day kept₀) (sym (list-more chooser (candidate_of day level)))
      where
        is : critical_set level members ≡ candidate_of day level chooser
        is = candidate_is day level chooser (chooser * day.counts.choices) members m refl f.set

        total : sum ≡ min_sum day (candidate_of day level chooser)
        total = sum_is day level chooser (chooser * day.counts.choices) sum m refl f.added

    pub level-done : day.counts.choosers ≤ chooser → KeptIn (kept_from day kept₀ (list_below day.counts.choosers (candidate_of day level))) kept masks levels
    level-done h =
        let e : chooser ≡ day.counts.choosers = omega (arith, s.so_far) in
        record { here = λ l. s.sets ∙ ap (λ (n : ℕ). kept_from day kept₀ (list_below n (candidate_of day level))) e; over = λ l. absurd (omega (arith, s.lent.few)) }

    pub level-on : (kept' : ℕ) (masks' levels' : List ℕ) → KeptIn (kept_from day kept₀ (list_below (chooser + 1) (candidate_of day level))) kept' masks' levels'
        → chooser < day.counts.choosers → length masks' ≡ length masks → length levels' ≡ length levels → kept' ≤ 1024
        → KeepsLevel day level kept₀ (chooser + 1) kept' masks' levels'
    level-on kept' masks' levels' k c ml ll h =
        record {
          so_far = omega arith;
          lent = record { masks-full = ml ∙ s.lent.masks-full; levels-full = ll ∙ s.lent.levels-full; few = h };
          sets = k.here h;
        }

-- a chooser's preferences lie within the list
pub candidate_fits : (day : SetsDay) (level : ℕ) (kept₀ : List CriticalSet) (chooser kept : ℕ) (masks levels : List ℕ) → Fits day → KeepsLevel day level kept₀ chooser kept masks levels
    → chooser < day.counts.choosers → (length day.mins ≤ 64) × (chooser * day.counts.choices + length day.mins ≤ length day.preferences)
candidate_fits day level kept₀ chooser kept masks levels f s h = (
  omega (arith, f.mins-fit, f.few-choices),
  omega (arith, f.mins-fit, f.preferences-fit, row_fits chooser day.counts.choosers day.counts.choices h),
)

pub start_fits : (day : SetsDay) (level : ℕ) (kept₀ : List CriticalSet) (chooser kept : ℕ) (masks levels : List ℕ) → Fits day → KeepsLevel day level kept₀ chooser kept masks levels
    → chooser < day.counts.choosers → chooser * day.counts.choices ≤ 12800
start_fits day level kept₀ chooser kept masks levels f s h =
    omega (arith, row_fits chooser day.counts.choosers day.counts.choices h, product_few day.counts.choosers day.counts.choices 200 64 f.few-choosers f.few-choices)

pub room-is : (day : SetsDay) (room : ℕ) → room ≡ day.counts.choosers * (day.counts.slots - 1) → room ≡ room_of day
unfolding room_of
room-is day room e = e

-- no fewer sets are kept after more choosers: too many at one are too many at the last
length_mono : (day : SetsDay) (kept₀ : List CriticalSet) (f : ℕ → CriticalSet) (m n : ℕ) → m ≤ n
    → length (kept_from day kept₀ (list_below m f)) ≤ length (kept_from day kept₀ (list_below n f))
length_mono day kept₀ f m n h = by_steps (n - m) n (omega arith)
  where
    by_steps : (d n : ℕ) → n ≡ m + d → length (kept_from day kept₀ (list_below m f)) ≤ length (kept_from day kept₀ (list_below n f))
    by_steps zero n e = let z : n ≡ m = omega arith in rw z (le_refl _)
    by_steps (suc d) n e =
        let z : n ≡ (m + d) + 1 = omega arith in
        rw (z, list-more (m + d) f, kept_append day kept₀ (list_below (m + d) f) (f (m + d) ∷ []))
        (le_trans (by_steps d (m + d) refl) (kept-grows day (kept_from day kept₀ (list_below (m + d) f)) (f (m + d) ∷ [])))

pub level-over : (day : SetsDay) (level : ℕ) (kept₀ : List CriticalSet) (chooser : ℕ) → chooser < day.counts.choosers
    → 1024 < length (kept_from day kept₀ (list_below (chooser + 1) (candidate_of day level)))
    → 1024 < length (kept_from day kept₀ (list_below day.counts.choosers (candidate_of day level)))
level-over day level kept₀ chooser c h = le_trans h (length_mono day kept₀ (candidate_of day level) (chooser + 1) day.counts.choosers (omega arith))

-- ---- the levels downwards

-- the sets of the i-th level from the top
abbrev pub of_level : SetsDay → ℕ → List CriticalSet
of_level day i = list_below day.counts.choosers (candidate_of day (level_down day i))

pub record KeepsDown (day : SetsDay) (left kept : ℕ) (masks levels : List ℕ) : Type 0 where
  pub so_far : left ≤ day.counts.levels
  pub lent : Lent kept masks levels
  pub sets : sets_in kept masks levels ≡ kept_from day [] (join_below (day.counts.levels - left) (of_level day))

join_mono : (day : SetsDay) (f : ℕ → List CriticalSet) (m n : ℕ) → m ≤ n
    → length (kept_from day [] (join_below m f)) ≤ length (kept_from day [] (join_below n f))
join_mono day f m n h = by_steps (n - m) n (omega arith)
  where
    by_steps : (d n : ℕ) → n ≡ m + d → length (kept_from day [] (join_below m f)) ≤ length (kept_from day [] (join_below n f))
    by_steps zero n e = let z : n ≡ m = omega arith in rw z (le_refl _)
    by_steps (suc d) n e =
        let z : n ≡ (m + d) + 1 = omega arith in
        rw (z, join_more (m + d) f, kept_append day [] (join_below (m + d) f) (f (m + d)))
        (le_trans (by_steps d (m + d) refl) (kept-grows day (kept_from day [] (join_below (m + d) f)) (f (m + d))))

level-at : (day : SetsDay) (at i : ℕ) → at ≡ day.counts.levels - (i + 1) → get_or day.levels at 0 ≡ level_down day i
unfolding level_down
level-at day at i e = rw e

module _ (day : SetsDay) where
  pub down-start : (left : ℕ) (masks levels : List ℕ) → left ≡ day.counts.levels → Lent 0 masks levels → KeepsDown day left 0 masks levels
  unfolding sets_in list_below join_below kept_from
  down-start left masks levels e l =
      let z : day.counts.levels - left ≡ 0 = omega arith in
      record { so_far = omega arith; lent = l; sets = rw z }

  module _ (left kept : ℕ) (masks levels : List ℕ) (s : KeepsDown day left kept masks levels) where
    -- the sets of one level more are kept or skipped
    pub down-next : 0 < left
        → kept_from day (sets_in kept masks levels) (list_below day.counts.choosers (candidate_of day (get_or day.levels (left - 1) 0)))
        ≡ kept_from day [] (join_below (day.counts.levels - (left - 1)) (of_level day))
    down-next h =
        ap₂ (λ (l : List CriticalSet) (n : ℕ). kept_from day l (list_below day.counts.choosers (candidate_of day n))) s.sets at
        ∙ sym (kept_append day [] (join_below (day.counts.levels - left) (of_level day)) (of_level day (day.counts.levels - left)))
        ∙ ap (kept_from day []) (sym (join_more (day.counts.levels - left) (of_level day)))
        ∙ ap (λ (n : ℕ). kept_from day [] (join_below n (of_level day))) (omega (arith, s.so_far))
      where
        at : get_or day.levels (left - 1) 0 ≡ level_down day (day.counts.levels - left)
        at = level-at day (left - 1) (day.counts.levels - left) (omega (arith, s.so_far))

    pub down-done : left ≤ 0 → KeptIn (kept_sets day) kept masks levels
    unfolding kept_sets candidates
    down-done h =
        let e : day.counts.levels - left ≡ day.counts.levels = omega arith in
        record { here = λ l. s.sets ∙ ap (λ (n : ℕ). kept_from day [] (join_below n (of_level day))) e; over = λ l. absurd (omega (arith, s.lent.few)) }

    pub down-on : (kept' : ℕ) (masks' levels' : List ℕ) → KeptIn (kept_from day [] (join_below (day.counts.levels - (left - 1)) (of_level day))) kept' masks' levels'
        → 0 < left → length masks' ≡ length masks → length levels' ≡ length levels → kept' ≤ 1024 → KeepsDown day (left - 1) kept' masks' levels'
    down-on kept' masks' levels' k c ml ll h =
        record {
          so_far = omega (arith, s.so_far);
          lent = record { masks-full = ml ∙ s.lent.masks-full; levels-full = ll ∙ s.lent.levels-full; few = h };
          sets = k.here h;
        }

  pub down-over : (left : ℕ) → 1024 < length (kept_from day [] (join_below (day.counts.levels - left) (of_level day))) → 1024 < length (kept_sets day)
  unfolding kept_sets candidates
  down-over left h = le_trans h (join_mono day (of_level day) (day.counts.levels - left) day.counts.levels (omega arith))
