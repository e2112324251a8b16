-- Own map and lookup as calls: their refusals, lowest number first, their answers and the pools.
use Rattle.std.specs.Prelude.{Bool, ◌&&◌, cond, List, [], ℕ, Result, Ok, Err, eqb, ltb, leb, length}
use Rattle.std.specs.Borrow.{Bor}
use Rattle.base_lists.specs.Pool.{pad}
use Rattle.day_rows.specs.Check.{counts_in_range, rows_judged}
use Rattle.day_rows.specs.declared.check.Counts.{Counts}
use Rattle.day_rows.specs.declared.check.Takes.TheVariants.{Scheduling}
use Rattle.day_rows.specs.declared.refusal.Refusal.{Refusal}
use Rattle.day_rows.specs.Told.{Told, done, Verdict, good, unless, and_then, Outcome, outcome, judged}
use Rattle.search_map.specs.Map.{Map, map_of, map_keeps, looked_up, own_numbers, own_starts, own_lengths}
use Rattle.search_map.specs.declared.map.MapCounts.{MapCounts}

-- 'A pool is lent at its full limit': 64 choices and 10,240 numbers
unfoldable pub map_full : Map → Bool
map_full map =
    eqb (length map.starts) 64 && eqb (length map.lengths) 64 && eqb (length map.numbers) 10240

-- ---- the own map

-- the own map's refusals that leave the pools untouched: 1, 2, 5 with the first bad row
unfoldable pub own_judged : Counts → List ℕ → Map → Verdict
own_judged counts rows pools =
    unless (counts_in_range counts Scheduling) 1
    (unless (eqb (length rows) counts.rows && map_full pools) 2
    (rows_judged counts Scheduling rows))

-- starts, lengths and numbers in their pools: 'Success zeroes a pool past its result'
abbrev pub in_pools : List ℕ → List ℕ → List ℕ → Map
in_pools starts lengths numbers = map_of (pad 64 starts) (pad 64 lengths) (pad 10240 numbers)

-- the own map in its pools; 'over 10,240 numbers' they are all zero
unfoldable pub own_pools : List ℕ → ℕ → Map
own_pools rows choices =
    cond (leb (length (own_numbers rows choices)) 10240)
    (in_pools (own_starts rows choices) (own_lengths rows choices) (own_numbers rows choices))
    (in_pools [] [] [])

-- how many numbers the own map has, or 6: 'own map over 10,240 numbers'
unfoldable pub own_counted : List ℕ → ℕ → Told ℕ
own_counted rows choices =
    unless (leb (length (own_numbers rows choices)) 10240) 6 (done (length (own_numbers rows choices)))

-- the own map as a call: its refusals with the pools as they were, or its answer with the filled pools
unfoldable pub own_map_of : Counts → List ℕ → Map → Outcome ℕ Map
own_map_of counts rows pools =
    judged (own_judged counts rows pools) pools
    (outcome (own_counted rows counts.choices) (own_pools rows counts.choices))

-- ---- the lookup

-- 'Choices C 0..64', 'reduced rows 0..1,024', 'map numbers 0..10,240', and the choice is one of the choices
unfoldable pub lookup_in_range : MapCounts → ℕ → Bool
lookup_in_range counts choice =
    leb counts.choices 64 && leb counts.rows 1024 && leb counts.numbers 10240
    && ltb choice counts.choices

-- the lookup's refusals: 1, 2, 14
unfoldable pub lookup_judged : MapCounts → ℕ → Map → List ℕ → Verdict
lookup_judged counts choice map whole =
    unless (lookup_in_range counts choice) 1
    (unless (map_full map && eqb (length whole) counts.rows) 2
    (unless (map_keeps counts.choices counts.rows counts.numbers map whole) 14 good))

-- the lookup as a call: 'a part of one of these two lent lists of row numbers'
unfoldable pub lookup_of : MapCounts → ℕ → Map → List ℕ → Told (List ℕ)
lookup_of counts choice map whole =
    and_then (lookup_judged counts choice map whole) (done (looked_up map whole choice))

-- what the lookup hands back: the numbers of the part, or why it refuses
abbrev pub looked : Result (Bor (List ℕ)) Refusal → Result (List ℕ) Refusal
looked (Ok part) = Ok part.now
looked (Err why) = Err why
