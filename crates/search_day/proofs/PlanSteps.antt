-- A day planned, a law for each way through the call.
use mathlib.Core.Path.{◌≡◌, refl, sym, ◌∙◌, ap, ap₂}
use mathlib.Core.Bool.{Bool, true, false}
use mathlib.Core.List.{List, []}
use Prim.Native.Nat.{ℕ, ◌≤◌}
use native.Mathlib.Omega.{arith}
use borrow.Author.Tests.{eq-eqb, le-leb, leb-true}
use Rattle.std.specs.Prelude.{Result}
use lib.Dec.{leb}
use lib.ListN.{length, replicate, length-replicate}
use Rattle.base_lists.specs.Pool.{pad}
use Rattle.base_lists.proofs.Below.{and_both}
use Rattle.base_lists.proofs.Pad.{length-pad}
use Rattle.day_rows.specs.Told.{Told, done, refused, Verdict, good, refuse, unless, and_then, Outcome, outcome, judged}
use Rattle.day_rows.specs.declared.check.Counts.{Counts}
use Rattle.day_rows.specs.declared.refusal.Refusal.{Refusal}
use Rattle.day_rows.proofs.ToldLaws.{refused-not-done, refused_as}
use Rattle.search_map.specs.Map.{Map, map_of, own_numbers, own_starts, own_lengths}
use Rattle.search_map.specs.Calls.{map_full, in_pools, own_judged, own_pools, own_counted, own_map_of}
use Rattle.search_map.proofs.Filling.{pools-few, starts_fit, lengths-fit, own-rows}
use Rattle.search_map.proofs.OwnMap.{Made, own-made}
use Rattle.search_meaning.specs.Given.{Given, given_of, row_counts}
use Rattle.search_meaning.specs.Judged.{search_in_range, search_lengths, day_judged}
use Rattle.search_meaning.specs.declared.counts.SearchCounts.{SearchCounts}
use Rattle.search_meaning.proofs.JudgedLaws.{in_range, day-count, DayKeeps, day-keeps}
use Rattle.search_meaning.specs.Calls.{Settled, searched_tells, search_of}
use Rattle.search_meaning.specs.declared.settings.Settings.{Settings}
use Rattle.search_meaning.specs.declared.answer.Searched.{Searched}
use Rattle.search_meaning.specs.Demand.{OwnMap}
use Rattle.search_meaning.specs.SearchAnswer.{AnswerSays}
use Rattle.search_meaning.proofs.Answers.{answered}
use Rattle.search_day.specs.Planning.{with_numbers, whole_of, given_with, given_own, plan_day_of}
use Rattle.search_day.specs.declared.given.PlanCounts.{PlanCounts}

-- ---- full pools

pub pools-full : (starts lengths numbers : List ℕ) → length starts ≡ 64 → length lengths ≡ 64 → length numbers ≡ 10240 → map_full (map_of starts lengths numbers) ≡ true
unfolding map_full
pools-full starts lengths numbers a b c = and_both _ _ (and_both _ _ (eq-eqb _ _ a) (eq-eqb _ _ b)) (eq-eqb _ _ c)

-- so are pools of zeros
pub zeros_full : map_full (map_of (replicate 64 0) (replicate 64 0) (replicate 10240 0)) ≡ true
zeros_full = pools-full (replicate 64 0) (replicate 64 0) (replicate 10240 0) (length-replicate {A = ℕ} 64 0) (length-replicate {A = ℕ} 64 0) (length-replicate {A = ℕ} 10240 0)

module _ (rows : List ℕ) (choices : ℕ) where
  pools-over : leb (length (own_numbers rows choices)) 10240 ≡ false → in_pools [] [] [] ≡ own_pools rows choices
  unfolding own_pools
  pools-over t = rw t

  -- the own map's pools are full, whether its numbers fit or not
  pub own-full : choices ≤ 64 → map_full (own_pools rows choices) ≡ true
  own-full h = go (leb (length (own_numbers rows choices)) 10240) refl
    where
      go : (b : Bool) → leb (length (own_numbers rows choices)) 10240 ≡ b → map_full (own_pools rows choices) ≡ true
      go true t =
          ap map_full (sym (pools-few rows choices (leb-true _ _ t)))
          ∙ pools-full (pad 64 (own_starts rows choices)) (pad 64 (own_lengths rows choices)) (pad 10240 (own_numbers rows choices))
          (length-pad 64 (own_starts rows choices) (starts_fit rows choices 64 h))
          (length-pad 64 (own_lengths rows choices) (lengths-fit rows choices 64 h))
          (length-pad 10240 (own_numbers rows choices) (leb-true _ _ t))
      go false t =
          ap map_full (sym (pools-over t))
          ∙ pools-full (pad 64 []) (pad 64 []) (pad 10240 []) (length-pad 64 [] (omega arith)) (length-pad 64 [] (omega arith)) (length-pad 10240 [] (omega arith))

-- ---- the first refusals

-- of a map the first refusals look at the lengths of its pools alone
module _ (counts : SearchCounts) (mins maxs optional levels preferences rows : List ℕ) (one other : Map) (whole orders draws before : List ℕ) where
  maps_alike : map_full one ≡ map_full other
      → day_judged (given_of counts mins maxs optional levels preferences rows one whole orders draws) before
      ≡ day_judged (given_of counts mins maxs optional levels preferences rows other whole orders draws) before
  unfolding day_judged search_lengths
  maps_alike e = rw e

module _ (counts : PlanCounts) (mins maxs optional levels preferences rows orders draws before : List ℕ) where
  -- the first refusals, 1, 2, 3, 4, 5, of the day with its own map
  abbrev first : Verdict
  first = day_judged (given_with 0 counts mins maxs optional levels preferences rows orders draws) before

  -- the first refusals are known before there is a map
  known-first : (pools : Map) → map_full pools ≡ true
      → day_judged (given_of (with_numbers 0 counts) mins maxs optional levels preferences rows pools (whole_of rows) orders draws) before ≡ first
  known-first pools full = go (search_in_range (with_numbers 0 counts)) refl
    where
      go : (b : Bool) → search_in_range (with_numbers 0 counts) ≡ b
          → day_judged (given_of (with_numbers 0 counts) mins maxs optional levels preferences rows pools (whole_of rows) orders draws) before ≡ first
      go true t =
          maps_alike (with_numbers 0 counts) mins maxs optional levels preferences rows pools (own_pools rows counts.choices) (whole_of rows) orders draws before
          (full ∙ sym (own-full rows counts.choices (in_range (with_numbers 0 counts) t).day.choices))
      go false t =
          sym (day-count (given_of (with_numbers 0 counts) mins maxs optional levels preferences rows pools (whole_of rows) orders draws) before t)
          ∙ day-count (given_with 0 counts mins maxs optional levels preferences rows orders draws) before t

  pub judged-first : {told : Verdict} {given : Given} (pools : Map) {whole : List ℕ}
      → map_full pools ≡ true → given ≡ given_of (with_numbers 0 counts) mins maxs optional levels preferences rows pools whole orders draws → whole ≡ whole_of rows
      → told ≡ day_judged given before → told ≡ first
  judged-first pools full g w e =
      e
      ∙ ap (λ (x : Given). day_judged x before) g
      ∙ ap (λ (l : List ℕ). day_judged (given_of (with_numbers 0 counts) mins maxs optional levels preferences rows pools l orders draws) before) w
      ∙ known-first pools full

  -- ---- the call

  module _ (settings : Settings) where
    -- how many numbers the own map has
    abbrev size : ℕ
    size = length (own_numbers rows counts.choices)

    -- what the search is given
    abbrev own : Given
    own = given_own counts mins maxs optional levels preferences rows orders draws

    -- what the first verdict makes of the call
    called : {verdict : Verdict} → verdict ≡ first
        → judged (and_then verdict (unless (leb size 10240) 6 good)) before (search_of own settings before)
        ≡ plan_day_of counts mins maxs optional levels preferences rows orders draws settings before
    unfolding plan_day_of
    called e = ap (λ (v : Verdict). judged (and_then v (unless (leb size 10240) 6 good)) before (search_of own settings before)) e

    pub first-refused : {number : ℕ} {carried : List ℕ} → refused number carried ≡ first
        → outcome (refused number carried) before ≡ plan_day_of counts mins maxs optional levels preferences rows orders draws settings before
    first-refused e = called e

    module _ (d : first ≡ good) where
      -- a day that isn't refused first is refused by 6, or searched
      called-six : judged (unless (leb size 10240) 6 good) before (search_of own settings before)
          ≡ plan_day_of counts mins maxs optional levels preferences rows orders draws settings before
      called-six = called (sym d)

      called-over : leb size 10240 ≡ false → outcome (refuse 6) before ≡ plan_day_of counts mins maxs optional levels preferences rows orders draws settings before
      called-over t = ap (λ (b : Bool). judged (unless b 6 good) before (search_of own settings before)) (sym t) ∙ called-six

      called-few : leb size 10240 ≡ true → search_of own settings before ≡ plan_day_of counts mins maxs optional levels preferences rows orders draws settings before
      called-few t = ap (λ (b : Bool). judged (unless b 6 good) before (search_of own settings before)) (sym t) ∙ called-six

      -- the own map isn't refused but for its numbers
      own-judged : (pools : Map) → map_full pools ≡ true → own_judged (row_counts (with_numbers 0 counts)) rows pools ≡ good
      own-judged pools full =
          let k : DayKeeps (given_with 0 counts mins maxs optional levels preferences rows orders draws) before = day-keeps _ before d in
          sym (own-rows (row_counts (with_numbers 0 counts)) rows pools k.counts k.rows full) ∙ k.rows-keep

      own-counted : (pools : Map) → map_full pools ≡ true → own_map_of (row_counts (with_numbers 0 counts)) rows pools ≡ outcome (own_counted rows counts.choices) (own_pools rows counts.choices)
      unfolding own_map_of
      own-counted pools full =
          ap (λ (v : Verdict). judged v pools (outcome (own_counted rows counts.choices) (own_pools rows counts.choices))) (own-judged pools full)

      -- an own map that is refused tells 6
      over-told : {number : ℕ} {carried : List ℕ} → refused number carried ≡ own_counted rows counts.choices
          → (leb size 10240 ≡ false) × (◌≡◌ {A = Told Settled} (refused number carried) (refuse 6))
      unfolding own_counted
      over-told {number} {carried} e = go (leb size 10240) refl
        where
          go : (b : Bool) → leb size 10240 ≡ b → (leb size 10240 ≡ false) × (◌≡◌ {A = Told Settled} (refused number carried) (refuse 6))
          go true t = absurd (refused-not-done (rw t at e))
          go false t = (t, refused_as (rw t at e))

      module _ {rowed : Counts} (r : rowed ≡ row_counts (with_numbers 0 counts)) (starts lengths numbers : List ℕ) (full : map_full (map_of starts lengths numbers) ≡ true) {map : Map} where
        -- what the own map's call leaves
        own-left : {told : Told ℕ} → outcome told map ≡ own_map_of rowed rows (map_of starts lengths numbers) → outcome told map ≡ own_map_of (row_counts (with_numbers 0 counts)) rows (map_of starts lengths numbers)
        own-left e = e ∙ ap (λ (n : Counts). own_map_of n rows (map_of starts lengths numbers)) r

        pub own-refused : {number : ℕ} {carried : List ℕ} → outcome (refused number carried) map ≡ own_map_of rowed rows (map_of starts lengths numbers)
            → outcome (refused number carried) before ≡ plan_day_of counts mins maxs optional levels preferences rows orders draws settings before
        own-refused e =
            let o = own-left e ∙ own-counted (map_of starts lengths numbers) full in
            let t = over-told (ap (λ (x : Outcome ℕ Map). x.answer) o) in
            ap (λ (x : Told Settled). outcome x before) t.1 ∙ called-over t.0

        module _ {count : ℕ} (e : outcome (done count) map ≡ own_map_of rowed rows (map_of starts lengths numbers)) where
          -- the own map as it is made
          made : Made (row_counts (with_numbers 0 counts)) rows count map
          made = own-made (row_counts (with_numbers 0 counts)) rows starts lengths numbers (own-left e)

          -- demand 3's own map
          own-map : OwnMap own
          own-map =
              record {
                pools = map_of starts lengths numbers;
                written = ap₂ (λ (n : ℕ) (m : Map). outcome (done n) m) (sym made.counted) (sym made.pools_are) ∙ own-left e;
              }

          few : leb size 10240 ≡ true
          few = le-leb size 10240 (omega (arith, made.counted, made.few))

          pub own-searched : settings.full ≡ true → {given : Given} {with-them : Settings} {whole : List ℕ}
              → given ≡ given_of (with_numbers count counts) mins maxs optional levels preferences rows map whole orders draws → with-them ≡ settings → whole ≡ whole_of rows
              → {after : List ℕ} (found : Result Searched Refusal) → outcome (searched_tells found) after ≡ search_of given with-them before
              → (outcome (searched_tells found) after ≡ plan_day_of counts mins maxs optional levels preferences rows orders draws settings before)
              × AnswerSays own settings.total_budget after found
          own-searched all {given} {with-them} {whole} c s w {after} found q =
              let g : given ≡ own =
              c
              ∙ ap (λ (l : List ℕ). given_of (with_numbers count counts) mins maxs optional levels preferences rows map l orders draws) w
              ∙ ap₂ (λ (n : ℕ) (m : Map). given_of (with_numbers n counts) mins maxs optional levels preferences rows m (whole_of rows) orders draws) made.counted made.pools_are in
              let a = q ∙ ap₂ (λ (x : Given) (y : Settings). search_of x y before) g s in
              (a ∙ called-few few, answered own settings before after all own-map found a)
