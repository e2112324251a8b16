-- The own map written choice by choice, and as a call: a law for each way through the functions.
use mathlib.Core.Path.{◌≡◌, refl, sym, ◌∙◌, ap, ap₂}
use mathlib.Core.Bool.{Bool, true, false, ◌&&◌}
use mathlib.Core.List.{List, [], ◌∷◌, ◌++◌}
use Prim.Native.Nat.{ℕ, zero, suc, ◌+◌, ◌*◌, ◌-◌, ◌≤◌, ◌<◌}
use native.Mathlib.Nat.{zero-add, mul-suc}
use native.Mathlib.Omega.{arith}
use borrow.Author.Tests.{le-leb, lt-leb, eq-eqb, ne_eqb, eqb-true}
use lib.Dec.{eqb}
use lib.ListN.{length, get_or, set, replicate, length-append, length-replicate}
use lib.Seq.{sets, length-sets}
use Rattle.base_lists.specs.Flat.{list_below, join_below}
use Rattle.base_lists.specs.Pool.{pad}
use Rattle.base_lists.proofs.Below.{and_left, and_right}
use Rattle.base_lists.proofs.CountBelow.{count_le}
use Rattle.base_lists.proofs.Flat.{list-more, join_more, length-list}
use Rattle.base_lists.proofs.Group.{length-keep}
use Rattle.base_lists.proofs.Pad.{pad_nil, sets_snoc}
use Rattle.base_lists.proofs.Stores.{sets-append, sets-zeros}
use Rattle.day_rows.specs.Check.{counts_in_range, rows_judged}
use Rattle.day_rows.specs.Row.{row_of}
use Rattle.day_rows.specs.Told.{Told, done, Verdict, good, refuse, refusal_tells, unless, Outcome, outcome, judged}
use Rattle.day_rows.specs.declared.check.Counts.{Counts}
use Rattle.day_rows.specs.declared.check.Takes.TheVariants.{Scheduling}
use Rattle.day_rows.specs.declared.refusal.Refusal.{Refusal}
use Rattle.day_rows.proofs.CountLaws.{Within, within}
use Rattle.day_rows.proofs.ToldLaws.{unless-done}
use Rattle.search_map.specs.Map.{Map, map_of, concerns, own_entry, own_numbers, own_starts, own_lengths}
use Rattle.search_map.specs.Calls.{map_full, own_judged, in_pools, own_pools, own_counted, own_map_of}
use Rattle.search_map.specs.steps.Filling.{Wrote, PoolsFull, Cleared, Entered, OwnMapFilled}

-- ---- how many numbers there are

module _ (rows : List ℕ) where
  pub entry-short : (choice : ℕ) → length (own_entry rows choice) ≤ length rows
  unfolding own_entry
  entry-short choice =
      let p : ℕ → Bool = λ i. concerns choice (row_of (get_or rows i 0)) in
      omega (arith, length-keep (length rows) p, count_le (length rows) p)

  pub numbers_more : (choice : ℕ) → own_numbers rows (choice + 1) ≡ own_numbers rows choice ++ own_entry rows choice
  unfolding own_numbers
  numbers_more choice = join_more choice (own_entry rows)

  pub numbers-few : (most choices : ℕ) → length rows ≤ most → length (own_numbers rows choices) ≤ most * choices
  unfolding own_numbers join_below
  numbers-few most zero h = omega arith
  numbers-few most (suc n) h =
      rw (length-append (join_below n (own_entry rows)) (own_entry rows n), mul-suc) (omega (arith, numbers-few most n h, entry-short n, h))

-- ---- the loop over the choices

-- one entry more, of a pool filled from its start on
set_next : (f : ℕ → ℕ) (l : List ℕ) {m : List ℕ} (i : ℕ) {v : ℕ} → m ≡ sets l 0 (list_below i f) → v ≡ f i → set m i v ≡ sets l 0 (list_below (i + 1) f)
set_next f l i {v} e w =
    let k : 0 + length (list_below i f) ≡ i = zero-add _ ∙ length-list i f in
    ap (λ (z : List ℕ). set z i v) e
    ∙ ap (λ (j : ℕ). set (sets l 0 (list_below i f)) j v) (sym k)
    ∙ sets_snoc l 0 (list_below i f) v
    ∙ ap (sets l 0) (ap (λ (x : ℕ). list_below i f ++ (x ∷ [])) w ∙ sym (list-more i f))

module _ (rows starts₀ lengths₀ numbers₀ : List ℕ) where
  pub entered_start : Entered 0 rows (map_of starts₀ lengths₀ numbers₀) 0 (map_of starts₀ lengths₀ numbers₀)
  unfolding own_starts own_lengths own_numbers list_below join_below
  entered_start = record { counted = refl; starts_are = refl; lengths_are = refl; numbers_are = refl }

  module _ {choice at : ℕ} {starts lengths numbers : List ℕ} (s : Entered choice rows (map_of starts₀ lengths₀ numbers₀) at (map_of starts lengths numbers)) where
    pub entered_few : (most : ℕ) → length rows ≤ most → at ≤ most * choice
    entered_few most h = rw s.counted (numbers-few rows most choice h)

    pub starts-same : length starts ≡ length starts₀
    starts-same = rw s.starts_are (length-sets starts₀ 0 (own_starts rows choice))

    pub lengths-same : length lengths ≡ length lengths₀
    lengths-same = rw s.lengths_are (length-sets lengths₀ 0 (own_lengths rows choice))

    pub numbers-same : length numbers ≡ length numbers₀
    numbers-same = rw s.numbers_are (length-sets numbers₀ 0 (own_numbers rows choice))

    module _ {after : ℕ} {exit : List ℕ} (w : Wrote numbers at (own_entry rows choice) after exit) where
      -- an entry's length is a number that fits
      pub wrote-short : (at ≤ after) × (after - at ≤ length rows)
      wrote-short = (omega (arith, w.0), omega (arith, w.0, entry-short rows choice))

      next-starts : set starts choice at ≡ sets starts₀ 0 (own_starts rows (choice + 1))
      unfolding own_starts
      next-starts = set_next (λ c. length (own_numbers rows c)) starts₀ choice s.starts_are s.counted

      next-lengths : set lengths choice (after - at) ≡ sets lengths₀ 0 (own_lengths rows (choice + 1))
      unfolding own_lengths
      next-lengths = set_next (λ c. length (own_entry rows c)) lengths₀ choice s.lengths_are (omega (arith, w.0))

      next-numbers : exit ≡ sets numbers₀ 0 (own_numbers rows (choice + 1))
      next-numbers =
          let before = own_numbers rows choice in
          let entry = own_entry rows choice in
          w.1
          ∙ ap₂ (λ (z : List ℕ) (k : ℕ). sets z k entry) s.numbers_are (s.counted ∙ sym (zero-add (length before)))
          ∙ sym (sets-append numbers₀ 0 before entry)
          ∙ ap (sets numbers₀ 0) (sym (numbers_more rows choice))

      pub entered_next : Entered (choice + 1) rows (map_of starts₀ lengths₀ numbers₀) after (map_of (set starts choice at) (set lengths choice (after - at)) exit)
      entered_next =
          record {
            counted = rw (numbers_more rows choice, length-append (own_numbers rows choice) (own_entry rows choice)) (omega (arith, w.0, s.counted));
            starts_are = next-starts;
            lengths_are = next-lengths;
            numbers_are = next-numbers;
          }

-- ---- the pools cleared, and filled

module _ (rows : List ℕ) (choices : ℕ) where
  pub pools-few : length (own_numbers rows choices) ≤ 10240 → in_pools (own_starts rows choices) (own_lengths rows choices) (own_numbers rows choices) ≡ own_pools rows choices
  unfolding own_pools
  pools-few h = rw (le-leb _ _ h)

  pools-over : 10240 < length (own_numbers rows choices) → in_pools [] [] [] ≡ own_pools rows choices
  unfolding own_pools
  pools-over h = rw (lt-leb _ _ h)

  pub starts_fit : (most : ℕ) → choices ≤ most → length (own_starts rows choices) ≤ most
  unfolding own_starts
  starts_fit most h = omega (arith, length-list choices (λ c. length (own_numbers rows c)), h)

  pub lengths-fit : (most : ℕ) → choices ≤ most → length (own_lengths rows choices) ≤ most
  unfolding own_lengths
  lengths-fit most h = omega (arith, length-list choices (λ c. length (own_entry rows c)), h)

maps_equal : {a a' b b' c c' : List ℕ} → a ≡ a' → b ≡ b' → c ≡ c' → map_of a b c ≡ map_of a' b' c'
maps_equal p q r = rw (p, q, r)

-- a pool of m cleared
zeros : (m : ℕ) {k : ℕ} {new : List ℕ} → k ≡ m → new ≡ replicate k 0 → new ≡ replicate m 0
zeros m e c = c ∙ ap (λ (i : ℕ). replicate i 0) e

zeros-long : (m : ℕ) {k : ℕ} {new : List ℕ} → k ≡ m → new ≡ replicate k 0 → length new ≡ m
zeros-long m e c = ap length (zeros m e c) ∙ length-replicate m 0

zeros-pad : (m : ℕ) {k : ℕ} {new : List ℕ} → k ≡ m → new ≡ replicate k 0 → new ≡ pad m []
zeros-pad m e c = zeros m e c ∙ sym (pad_nil m)

-- a pool of m cleared, and then filled from its start on
in_pool : (m : ℕ) {k : ℕ} (before result : List ℕ) {after : List ℕ} → k ≡ m → before ≡ replicate k 0 → length result ≤ m → after ≡ sets before 0 result → after ≡ pad m result
in_pool m before result e z f a = a ∙ ap (λ (p : List ℕ). sets p 0 result) (zeros m e z) ∙ sets-zeros m result f

module _ {choices : ℕ} {rows starts lengths numbers : List ℕ} (g : PoolsFull choices rows starts lengths numbers) where
  module _ {s l n : List ℕ} (c : Cleared (map_of starts lengths numbers) (map_of s l n)) where
    pub given-cleared : PoolsFull choices rows s l n
    given-cleared =
        record {
          choices_in = g.choices_in;
          rows_in = g.rows_in;
          starts-full = zeros-long 64 g.starts-full c.starts-zero;
          lengths-full = zeros-long 64 g.lengths-full c.lengths-zero;
          numbers-full = zeros-long 10240 g.numbers-full c.numbers-zero;
        }

    pub filled_in : {count : ℕ} {s' l' n' : List ℕ} → Entered choices rows (map_of s l n) count (map_of s' l' n') → count ≤ 10240 → OwnMapFilled choices rows count (map_of s' l' n')
    filled_in e h =
        let few : length (own_numbers rows choices) ≤ 10240 = omega (arith, e.counted, h) in
        record {
          counted = e.counted;
          pools_are =
              maps_equal (in_pool 64 s (own_starts rows choices) g.starts-full c.starts-zero (starts_fit rows choices 64 g.choices_in) e.starts_are)
              (in_pool 64 l (own_lengths rows choices) g.lengths-full c.lengths-zero (lengths-fit rows choices 64 g.choices_in) e.lengths_are)
              (in_pool 10240 n (own_numbers rows choices) g.numbers-full c.numbers-zero few e.numbers_are)
              ∙ pools-few rows choices few;
        }

  -- too many numbers: the pools are cleared again
  pub filled-over : {count : ℕ} {s l n s' l' n' : List ℕ} → Entered choices rows (map_of starts lengths numbers) count (map_of s l n) → 10240 < count
      → Cleared (map_of s l n) (map_of s' l' n') → OwnMapFilled choices rows count (map_of s' l' n')
  filled-over e h c =
      let many : 10240 < length (own_numbers rows choices) = omega (arith, e.counted, h) in
      record {
        counted = e.counted;
        pools_are =
            maps_equal (zeros-pad 64 (starts-same rows starts lengths numbers e ∙ g.starts-full) c.starts-zero)
            (zeros-pad 64 (lengths-same rows starts lengths numbers e ∙ g.lengths-full) c.lengths-zero)
            (zeros-pad 10240 (numbers-same rows starts lengths numbers e ∙ g.numbers-full) c.numbers-zero)
            ∙ pools-over rows choices many;
      }

-- ---- the call: its refusals

module _ (counts : Counts) (rows : List ℕ) (pools : Map) where
  pub own-count : counts_in_range counts Scheduling ≡ false → refuse 1 ≡ own_judged counts rows pools
  unfolding own_judged
  own-count h = rw h

  module _ (range : counts_in_range counts Scheduling ≡ true) where
    pub own-rows_differ : (length rows ≡ counts.rows → ⊥) → refuse 2 ≡ own_judged counts rows pools
    unfolding own_judged
    own-rows_differ n = rw (range, ne_eqb _ _ n)

    module _ (as_long : length rows ≡ counts.rows) where
      pub own-short : map_full pools ≡ false → refuse 2 ≡ own_judged counts rows pools
      unfolding own_judged
      own-short h = rw (range, eq-eqb _ _ as_long, h)

      pub own-rows : map_full pools ≡ true → rows_judged counts Scheduling rows ≡ own_judged counts rows pools
      unfolding own_judged
      own-rows h = rw (range, eq-eqb _ _ as_long, h)

-- what isn't refused so far has its ranges and its full pools
full-known : (starts lengths numbers : List ℕ) → map_full (map_of starts lengths numbers) ≡ true → (length starts ≡ 64) × (length lengths ≡ 64) × (length numbers ≡ 10240)
unfolding map_full
full-known starts lengths numbers h =
    let s = eqb (length starts) 64 in
    let l = eqb (length lengths) 64 in
    let n = eqb (length numbers) 10240 in
    let sl = and_left (s && l) n h in
    (eqb-true _ _ (and_left s l sl), eqb-true _ _ (and_right s l sl), eqb-true _ _ (and_right (s && l) n h))

pub own-given : (counts : Counts) (rows starts lengths numbers : List ℕ) → own_judged counts rows (map_of starts lengths numbers) ≡ good → PoolsFull counts.choices rows starts lengths numbers
unfolding own_judged
own-given counts rows starts lengths numbers h =
    let range = counts_in_range counts Scheduling in
    let long = eqb (length rows) counts.rows in
    let full = map_full (map_of starts lengths numbers) in
    let each = rows_judged counts Scheduling rows in
    let a = unless-done range 1 (unless (long && full) 2 each) h in
    let b = unless-done (long && full) 2 each a.1 in
    let w : Within counts Scheduling = within counts Scheduling a.0 in
    let e : length rows ≡ counts.rows = eqb-true _ _ (and_left long full b.0) in
    let f = full-known starts lengths numbers (and_right long full b.0) in
    record {
      choices_in = w.choices;
      rows_in = omega (arith, e, w.rows);
      starts-full = f.0;
      lengths-full = f.1;
      numbers-full = f.2;
    }

-- ---- the call: its answer

-- what the call leaves where nothing was refused so far
abbrev filled_with : List ℕ → ℕ → Outcome ℕ Map
filled_with rows choices = outcome (own_counted rows choices) (own_pools rows choices)

module _ (counts : Counts) (rows starts lengths numbers : List ℕ) where
  pub own-refused : (why : Refusal) {told : Told ℕ} → told ≡ refusal_tells why → refusal_tells why ≡ own_judged counts rows (map_of starts lengths numbers)
      → outcome told (map_of starts lengths numbers) ≡ own_map_of counts rows (map_of starts lengths numbers)
  unfolding own_map_of
  own-refused why t e =
      ap (λ (t : Told ℕ). outcome t (map_of starts lengths numbers)) t
      ∙ ap (λ (v : Verdict). judged v (map_of starts lengths numbers) (filled_with rows counts.choices)) e

  module _ (e : good ≡ own_judged counts rows (map_of starts lengths numbers)) where
    pub own-good : PoolsFull counts.choices rows starts lengths numbers
    own-good = own-given counts rows starts lengths numbers (sym e)

    module _ {count : ℕ} {after : Map} (f : OwnMapFilled counts.choices rows count after) where
      then_filled : filled_with rows counts.choices ≡ own_map_of counts rows (map_of starts lengths numbers)
      unfolding own_map_of
      then_filled = ap (λ (v : Verdict). judged v (map_of starts lengths numbers) (filled_with rows counts.choices)) e

      counted-few : count ≤ 10240 → done count ≡ own_counted rows counts.choices
      unfolding own_counted
      counted-few h = rw (sym f.counted, le-leb _ _ h)

      counted-over : 10240 < count → refuse 6 ≡ own_counted rows counts.choices
      unfolding own_counted
      counted-over h = rw (sym f.counted, lt-leb _ _ h)

      pub own-done : count ≤ 10240 → outcome (done count) after ≡ own_map_of counts rows (map_of starts lengths numbers)
      own-done h = ap₂ (λ (t : Told ℕ) (m : Map). outcome t m) (counted-few h) f.pools_are ∙ then_filled

      pub own-over : 10240 < count → outcome (refuse 6) after ≡ own_map_of counts rows (map_of starts lengths numbers)
      own-over h = ap₂ (λ (t : Told ℕ) (m : Map). outcome t m) (counted-over h) f.pools_are ∙ then_filled
