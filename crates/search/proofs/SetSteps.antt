-- The sets of a limit: what a level's list answers, and none where it is refused.
use mathlib.Core.Path.{◌≡◌, refl, sym, ◌∙◌, ap}
use mathlib.Core.Bool.{Bool, true, false, ◌&&◌}
use mathlib.Core.List.{List, ◌++◌, map}
use Prim.Native.Nat.{ℕ, ◌-◌, ◌≤◌}
use native.Mathlib.Omega.{arith}
use borrow.Author.Tests.{eq-eqb}
use lib.Dec.{eqb, leb}
use lib.ListN.{length, take, replicate, length-append, length-map}
use lib.Seq.{take_at}
use Rattle.std.specs.Prelude.{Result, Ok, Err}
use Rattle.base_lists.specs.Pool.{pad}
use Rattle.base_lists.proofs.Below.{and_left, and_right}
use Rattle.day_rows.specs.Told.{tells, done, refused, Verdict, good, refusal_tells, unless, Outcome, outcome, judged}
use Rattle.day_rows.specs.declared.refusal.Refusal.{Refusal}
use Rattle.day_rows.proofs.ToldLaws.{done-is, refused-not-done, unless-done}
use Rattle.day_rows.specs.Levels.{levels_in_range, levels_rise}
use Rattle.sets_analysis.specs.Kept.{CriticalSet}
use Rattle.sets_analysis.specs.LevelList.{level_list}
use Rattle.sets_analysis.specs.Calls.{pools, pools_full, sets_in}
use Rattle.sets_levels.specs.Calls.{list_judged, listed_of, level_list_of}
use Rattle.search.specs.steps.LevelPass.{list_taken, sets_listed}

-- what is answered wasn't refused
answered-good : (verdict : Verdict) (list : List ℕ) (next : Outcome ℕ (List ℕ)) {sets : ℕ} {after : List ℕ} → outcome (done sets) after ≡ judged verdict list next → verdict ≡ good
answered-good (done value) list next e = refl
answered-good (refused number carried) list next e = absurd (refused-not-done (sym (ap (λ (x : Outcome ℕ (List ℕ)). x.answer) e)))

module _ (levels : List ℕ) (count : ℕ) (masks set_levels : List ℕ) (limit : ℕ) (list : List ℕ) (full : 1024 ≡ length list) where
  -- a list is refused exactly where it isn't taken
  taken-good : list_taken levels count (pools masks set_levels) ≡ true → list_judged levels count (pools masks set_levels) list ≡ good
  unfolding list_taken list_judged
  taken-good t =
      let counted = leb count 1024 && levels_in_range (length levels) in
      let filled = pools_full (pools masks set_levels) in
      let rest = and_right counted (filled && levels_rise levels) t in
      rw (and_left counted (filled && levels_rise levels) t, and_left filled (levels_rise levels) rest, and_right filled (levels_rise levels) rest, eq-eqb _ _ (sym full))

  good-taken : list_judged levels count (pools masks set_levels) list ≡ good → list_taken levels count (pools masks set_levels) ≡ true
  unfolding list_taken list_judged
  good-taken g =
      let filled = pools_full (pools masks set_levels) in
      let first = unless-done (leb count 1024 && levels_in_range (length levels)) 1 (unless (filled && eqb (length list) 1024) 2 (unless (levels_rise levels) 3 good)) g in
      let second = unless-done (filled && eqb (length list) 1024) 2 (unless (levels_rise levels) 3 good) first.1 in
      let third = unless-done (levels_rise levels) 3 good second.1 in
      rw (first.0, and_left filled (eqb (length list) 1024) second.0, third.0)

  module _ {answer : Result ℕ Refusal} {after : List ℕ} (e : outcome (tells answer) after ≡ level_list_of levels count (pools masks set_levels) limit list) where
    known_by : {known : Result ℕ Refusal} → answer ≡ known → outcome (tells known) after ≡ level_list_of levels count (pools masks set_levels) limit list
    known_by k = ap (λ (l : Result ℕ Refusal). outcome (tells l) after) (sym k) ∙ e

    -- the sets stand at the list's front
    pub sets-listed : {sets : ℕ} → answer ≡ Ok sets → (sets ≤ length after) × (take sets after ≡ sets_listed levels count (pools masks set_levels) limit)
    unfolding level_list_of listed_of sets_listed pad
    sets-listed {sets} k =
        let found = level_list levels (sets_in count masks set_levels) limit in
        let members = map (λ (set : CriticalSet). set.members) found in
        let good-is = answered-good (list_judged levels count (pools masks set_levels) list) list (listed_of found) (known_by k) in
        let o : outcome (done sets) after ≡ listed_of found = rw good-is at (known_by k) in
        let s : sets ≡ length members = done-is (ap (λ (x : Outcome ℕ (List ℕ)). x.answer) o) ∙ sym (length-map found (λ (set : CriticalSet). set.members)) in
        let p : after ≡ members ++ replicate (1024 - length members) 0 = ap (λ (x : Outcome ℕ (List ℕ)). x.buffers) o in
        (rw (p, length-append) (omega arith), rw (good-taken good-is, p, s) (take_at members (replicate (1024 - length members) 0) (length members) refl))

    -- there are no sets where the list is refused
    pub sets-refused : {why : Refusal} → answer ≡ Err why → take 0 after ≡ sets_listed levels count (pools masks set_levels) limit
    unfolding level_list_of listed_of sets_listed
    sets-refused {why} k = go (list_taken levels count (pools masks set_levels)) refl
      where
        go : (b : Bool) → list_taken levels count (pools masks set_levels) ≡ b → take 0 after ≡ sets_listed levels count (pools masks set_levels) limit
        go true t =
            let o : outcome (refusal_tells why) after ≡ listed_of (level_list levels (sets_in count masks set_levels) limit) = rw (taken-good t) at (known_by k) in
            absurd (refused-not-done (ap (λ (x : Outcome ℕ (List ℕ)). x.answer) o))
        go false t = rw t
