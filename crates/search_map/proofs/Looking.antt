-- The lookup as a call, a law for each way through its functions.
use mathlib.Core.Path.{◌≡◌, ◌∙◌, ap}
use mathlib.Core.Bool.{true, false}
use mathlib.Core.List.{List}
use Prim.Native.Nat.{ℕ, ◌≤◌, ◌<◌}
use borrow.Author.Tests.{le-leb, lt-leb, eq-eqb, ne_eqb}
use lib.Dec.{ltb}
use lib.ListN.{length}
use Rattle.std.specs.Borrow.{Bor}
use Rattle.std.specs.Prelude.{Result, Ok, Err, IsErrAnd}
use Rattle.day_rows.specs.Told.{tells, done, Verdict, good, refuse, refusal_tells, and_then}
use Rattle.day_rows.specs.declared.refusal.Refusal.{Refusal}
use Rattle.search_map.specs.Map.{Map, looked_up, map_keeps}
use Rattle.search_map.specs.Calls.{map_full, lookup_in_range, lookup_judged, lookup_of, looked}
use Rattle.search_map.specs.declared.map.MapCounts.{MapCounts}

-- an error that the lookup passes on by `?` is told as it was
borrowed_on : (answer : Result (Bor (List ℕ)) Refusal) (why : Refusal) → IsErrAnd answer (λ given. given ≡ why) → tells (looked answer) ≡ refusal_tells why
borrowed_on (Ok value) why h = absurd h
borrowed_on (Err given) why h = ap (λ (why : Refusal). refusal_tells why) h

-- ---- the counts, one test after the other

module _ (counts : MapCounts) (choice : ℕ) where
  pub many-choices : 64 < counts.choices → false ≡ lookup_in_range counts choice
  unfolding lookup_in_range
  many-choices h = rw (lt-leb _ _ h)

  pub many-rows : counts.choices ≤ 64 → 1024 < counts.rows → false ≡ lookup_in_range counts choice
  unfolding lookup_in_range
  many-rows c h = rw (le-leb _ _ c, lt-leb _ _ h)

  pub many-numbers : counts.choices ≤ 64 → counts.rows ≤ 1024 → 10240 < counts.numbers → false ≡ lookup_in_range counts choice
  unfolding lookup_in_range
  many-numbers c r h = rw (le-leb _ _ c, le-leb _ _ r, lt-leb _ _ h)

  pub choice-decides : counts.choices ≤ 64 → counts.rows ≤ 1024 → counts.numbers ≤ 10240 → ltb choice counts.choices ≡ lookup_in_range counts choice
  unfolding lookup_in_range
  choice-decides c r n = rw (le-leb _ _ c, le-leb _ _ r, le-leb _ _ n)

-- ---- the refusals, lowest number first

module _ (counts : MapCounts) (choice : ℕ) (map : Map) (whole : List ℕ) where
  pub range-fails : lookup_in_range counts choice ≡ false → refuse 1 ≡ lookup_judged counts choice map whole
  unfolding lookup_judged
  range-fails h = rw h

  module _ (range : lookup_in_range counts choice ≡ true) where
    pub full-fails : map_full map ≡ false → refuse 2 ≡ lookup_judged counts choice map whole
    unfolding lookup_judged
    full-fails h = rw (range, h)

    module _ (full : map_full map ≡ true) where
      pub whole-differs : (length whole ≡ counts.rows → ⊥) → refuse 2 ≡ lookup_judged counts choice map whole
      unfolding lookup_judged
      whole-differs n = rw (range, full, ne_eqb _ _ n)

      module _ (as_long : length whole ≡ counts.rows) where
        pub map-fails : map_keeps counts.choices counts.rows counts.numbers map whole ≡ false → refuse 14 ≡ lookup_judged counts choice map whole
        unfolding lookup_judged
        map-fails h = rw (range, full, eq-eqb _ _ as_long, h)

        pub map-good : map_keeps counts.choices counts.rows counts.numbers map whole ≡ true → good ≡ lookup_judged counts choice map whole
        unfolding lookup_judged
        map-good h = rw (range, full, eq-eqb _ _ as_long, h)

  -- ---- what is handed back

  pub lookup_refused : (why : Refusal) (answer : Result (Bor (List ℕ)) Refusal) → IsErrAnd answer (λ given. given ≡ why) → refusal_tells why ≡ lookup_judged counts choice map whole
      → tells (looked answer) ≡ lookup_of counts choice map whole
  unfolding lookup_of
  lookup_refused why answer p e = borrowed_on answer why p ∙ ap (λ (v : Verdict). and_then v (done (looked_up map whole choice))) e

  pub lookup_found : {part : List ℕ} → good ≡ lookup_judged counts choice map whole → part ≡ looked_up map whole choice → done part ≡ lookup_of counts choice map whole
  unfolding lookup_of
  lookup_found e p = ap done p ∙ ap (λ (v : Verdict). and_then v (done (looked_up map whole choice))) e
