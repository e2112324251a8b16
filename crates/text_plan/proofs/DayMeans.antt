-- A day planned with its own map: what the call's answer says by demand 3, as a law over its definition.
use mathlib.Core.Path.{◌≡◌, refl, sym, ◌∙◌, ap}
use mathlib.Core.Bool.{Bool, true, false}
use mathlib.Core.List.{List, []}
use Prim.Native.Nat.{ℕ}
use native.Mathlib.Omega.{arith}
use lib.Dec.{leb}
use lib.ListN.{length}
use Rattle.base_lists.proofs.Pad.{length-pad}
use Rattle.base_lists.specs.Pool.{pad}
use Rattle.day_rows.specs.Told.{Told, done, refused, Verdict, good, unless, and_then, Outcome, outcome, judged}
use Rattle.day_rows.proofs.ToldLaws.{refused-not-done}
use Rattle.search_map.specs.Map.{Map, own_numbers}
use Rattle.search_map.specs.Calls.{map_full, in_pools, own_judged, own_pools, own_counted, own_map_of}
use Rattle.search_map.proofs.Filling.{own-rows}
use Rattle.search_meaning.specs.Given.{Given, row_counts}
use Rattle.search_meaning.specs.Judged.{day_judged}
use Rattle.search_meaning.proofs.JudgedLaws.{DayKeeps, day-keeps}
use Rattle.search_meaning.specs.Calls.{Settled, search_of}
use Rattle.search_meaning.specs.declared.settings.Settings.{Settings}
use Rattle.search_meaning.specs.Demand.{OwnMap, Settles}
use Rattle.search_meaning.proofs.DemandHolds.{demand}
use Rattle.search_day.specs.Planning.{with_numbers, given_with, given_own, plan_day_of}
use Rattle.search_day.specs.declared.given.PlanCounts.{PlanCounts}
use Rattle.search_day.proofs.PlanSteps.{pools-full}

module _ (counts : PlanCounts) (mins maxs optional levels preferences rows orders draws : List ℕ) (settings : Settings) (before : List ℕ) where
  -- how many numbers the own map has
  abbrev size : ℕ
  size = length (own_numbers rows counts.choices)

  -- what the search is given
  abbrev own : Given
  own = given_own counts mins maxs optional levels preferences rows orders draws

  -- 1, 2, 3, 4, 5
  abbrev first : Verdict
  first = day_judged (given_with 0 counts mins maxs optional levels preferences rows orders draws) before

  -- a call that is done is refused neither by these nor by 6, and answers as the search
  pub record Called (answer : Settled) (after : List ℕ) : Type 0 where
    pub good-day : first ≡ good
    pub few : leb size 10240 ≡ true
    pub searched : outcome (done answer) after ≡ search_of own settings before

  pub called : {answer : Settled} {after : List ℕ} → outcome (done answer) after ≡ plan_day_of counts mins maxs optional levels preferences rows orders draws settings before → Called answer after
  unfolding plan_day_of
  called {answer} {after} e = go first refl (leb size 10240) refl e
    where
      go : (v : Verdict) → first ≡ v → (b : Bool) → leb size 10240 ≡ b
          → outcome (done answer) after ≡ judged (and_then v (unless b 6 good)) before (search_of own settings before) → Called answer after
      go (done value) g true t h = record { good-day = g; few = t; searched = h }
      go (done value) g false t h = absurd (refused-not-done (sym (ap (λ (o : Outcome Settled (List ℕ)). o.answer) h)))
      go (refused number carried) g b t h = absurd (refused-not-done (sym (ap (λ (o : Outcome Settled (List ℕ)). o.answer) h)))

  -- pools that the own map is written to
  abbrev blank : Map
  blank = in_pools [] [] []

  blank-full : map_full blank ≡ true
  blank-full = pools-full (pad 64 []) (pad 64 []) (pad 10240 []) (length-pad 64 [] (omega arith)) (length-pad 64 [] (omega arith)) (length-pad 10240 [] (omega arith))

  module _ {answer : Settled} {after : List ℕ} (c : Called answer after) where
    own-judged : own_judged (row_counts (with_numbers size counts)) rows blank ≡ good
    own-judged =
        let k : DayKeeps (given_with 0 counts mins maxs optional levels preferences rows orders draws) before = day-keeps _ before c.good-day in
        sym (own-rows (row_counts (with_numbers size counts)) rows blank k.counts k.rows blank-full) ∙ k.rows-keep

    own-counted : own_counted rows counts.choices ≡ done size
    unfolding own_counted
    own-counted = ap (λ (b : Bool). unless b 6 (done size)) c.few

    -- the map of the search is the map builder's
    own-map : OwnMap own
    unfolding own_map_of
    own-map =
        record {
          pools = blank;
          written = sym
              (ap (λ (v : Verdict). judged v blank (outcome (own_counted rows counts.choices) (own_pools rows counts.choices))) own-judged
              ∙ ap (λ (t : Told ℕ). outcome t (own_pools rows counts.choices)) own-counted);
        }

    -- so its answer is demand 3's
    pub call_settles : settings.full ≡ true → Settles own settings.total_budget answer after
    call_settles full = demand own settings before full own-map answer after c.searched
