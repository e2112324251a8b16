-- What the reduction of a read day answers.
use mathlib.Core.Path.{◌≡◌, refl, sym, ◌∙◌, ap}
use mathlib.Core.Bool.{Bool, true, false, cond}
use mathlib.Core.List.{List, ◌++◌, append_assoc}
use Prim.Native.Nat.{ℕ, ◌-◌, ◌≤◌}
use native.Mathlib.Omega.{arith}
use borrow.Author.Tests.{leb-true, eq-eqb}
use lib.Dec.{leb}
use lib.ListN.{length, take, replicate, length-append, length-replicate}
use lib.Seq.{take_at}
use Rattle.std.specs.Prelude.{Result, Ok, Err}
use Rattle.base_lists.specs.Pool.{pad}
use Rattle.base_lists.proofs.Pad.{length-pad}
use Rattle.base_lists.proofs.Sorted.{length_unique}
use Rattle.day_rows.specs.Refusal.{number_of}
use Rattle.day_rows.specs.Told.{tells, done, refused, refuse, Outcome, outcome}
use Rattle.day_rows.proofs.ToldLaws.{done-is, refused-not-done, refused-number}
use Rattle.day_rows.specs.declared.check.Counts.{Counts}
use Rattle.day_rows.specs.declared.refusal.Refusal.{Refusal}
use Rattle.reduce_turn.specs.Turn.{clash_of}
use Rattle.reduce.specs.Reduction.{expanded, reduced_rows, search_list, roster_list, reduction_of, reduce_of}
use Rattle.reduce.specs.declared.Reduction.{Reduction}
use Rattle.reduce.proofs.Lists.{result_lists}
use Rattle.text_day.specs.Prepared.{ready, clash, reduced_to}
use Rattle.text_day.specs.Prepared as prepared
use Rattle.text_day.specs.steps.FileGiven.{FileGiven}

-- a pool of zeros as the text's makers lend it is at its full limit
zeros-full : length {A = ℕ} (replicate 1024 0) ≡ 1024
zeros-full = length-replicate {A = ℕ} 1024 0

module _ (counts : Counts) (mins maxs optional rows : List ℕ) (g : FileGiven counts mins maxs optional rows) where
  -- the rows of a read day are reduced, with no refusal but 6
  reduces : (pool : List ℕ) → length pool ≡ 1024 → reduce_of counts rows pool ≡ reduction_of counts rows
  unfolding reduce_of
  reduces pool e = rw (g.in_range, eq-eqb _ _ g.rows_fit, eq-eqb _ _ e, g.rows-good)

  -- what a reduction with room for its rows hands back
  abbrev whole : Reduction
  whole = record { count = length (reduced_rows counts rows); clash = clash_of rows }

  -- how many rows there are, whether they clash, and the pool
  pub record Reduces (count : ℕ) (clashes : Bool) (pool : List ℕ) : Type 0 where
    pub few : leb (length (expanded counts rows)) 1024 ≡ true
    pub counted : count ≡ length (reduced_rows counts rows)
    pub flagged : clashes ≡ clash_of rows
    pub held : pool ≡ pad 1024 (reduced_rows counts rows)

  module _ (pool : List ℕ) (long : length pool ≡ 1024) where
    pub reduced-rows : {reduction : Reduction} {pool' : List ℕ} → outcome (done reduction) pool' ≡ reduce_of counts rows pool → Reduces reduction.count reduction.clash pool'
    unfolding reduction_of
    reduced-rows {reduction} {pool'} e = go (leb (length (expanded counts rows)) 1024) refl (e ∙ reduces pool long)
      where
        go : (b : Bool) → leb (length (expanded counts rows)) 1024 ≡ b
            → outcome (done reduction) pool' ≡ cond b (outcome (done whole) (pad 1024 (reduced_rows counts rows))) (outcome (refuse 6) (replicate 1024 0))
            → Reduces reduction.count reduction.clash pool'
        go true t h =
            let a : reduction ≡ whole = done-is (ap (λ (o : Outcome Reduction (List ℕ)). o.answer) h) in
            record {
              few = t;
              counted = ap (λ (r : Reduction). r.count) a;
              flagged = ap (λ (r : Reduction). r.clash) a;
              held = ap (λ (o : Outcome Reduction (List ℕ)). o.buffers) h;
            }
        go false t h = absurd (refused-not-done (sym (ap (λ (o : Outcome Reduction (List ℕ)). o.answer) h)))

    pub reduced_refused : {number : ℕ} {carried pool' : List ℕ} → outcome (refused number carried) pool' ≡ reduce_of counts rows pool → prepared.refused number ≡ reduced_to counts rows
    unfolding reduction_of reduced_to
    reduced_refused {number} {carried} {pool'} e = go (leb (length (expanded counts rows)) 1024) (e ∙ reduces pool long)
      where
        go : (b : Bool)
            → outcome (refused number carried) pool' ≡ cond b (outcome (done whole) (pad 1024 (reduced_rows counts rows))) (outcome (refuse 6) (replicate 1024 0))
            → prepared.refused number ≡ cond b (cond (clash_of rows) clash ready) (prepared.refused 6)
        go true h = absurd (refused-not-done (ap (λ (o : Outcome Reduction (List ℕ)). o.answer) h))
        go false h = ap prepared.refused (refused-number (ap (λ (o : Outcome Reduction (List ℕ)). o.answer) h))

  module _ {count : ℕ} {clashes : Bool} {pool : List ℕ} (r : Reduces count clashes pool) where
    -- a clash
    pub clash-told : clashes ≡ true → clash ≡ reduced_to counts rows
    unfolding reduced_to
    clash-told t = rw (r.few, sym r.flagged ∙ t)

    -- none: the day is ready
    pub ready-told : clashes ≡ false → ready ≡ reduced_to counts rows
    unfolding reduced_to
    ready-told f = rw (r.few, sym r.flagged ∙ f)

    result_fits : length (reduced_rows counts rows) ≤ 1024
    unfolding reduced_rows
    result_fits = let h = length_unique (expanded counts rows) in let t = leb-true (length (expanded counts rows)) 1024 r.few in omega (arith, h, t)

    count_fits : count ≤ 1024
    count_fits = let h = result_fits in omega (arith, h, r.counted)

    pool-length : length pool ≡ 1024
    pool-length = ap length r.held ∙ length-pad 1024 (reduced_rows counts rows) result_fits

    pub count-within : count ≤ length pool
    count-within = let h = count_fits in let l = pool-length in omega (arith, h, l)

    -- the reduction is the pool's front
    pub reduced_front : take count pool ≡ reduced_rows counts rows
    unfolding pad
    reduced_front =
        ap (take count) r.held ∙ take_at (reduced_rows counts rows) (replicate (1024 - length (reduced_rows counts rows)) 0) count (sym r.counted)

    -- and the search's list is the reduction's
    abbrev list : List ℕ
    list = search_list (reduced_rows counts rows)

    parts : reduced_rows counts rows ≡ list ++ roster_list (reduced_rows counts rows)
    parts = result_lists counts rows g.in_range g.rows-good

    pub search-fits : length list ≤ count
    search-fits = omega (arith, r.counted, ap length parts ∙ length-append list (roster_list (reduced_rows counts rows)))

    pub search-front : {searches : ℕ} → searches ≡ length list → take searches pool ≡ list
    unfolding pad
    search-front {searches} e =
        ap (take searches) (r.held ∙ ap (pad 1024) parts ∙ append_assoc list (roster_list (reduced_rows counts rows)) _) ∙ take_at list _ searches (sym e)

  -- ---- the call as the text's maker makes it, with counts that are the day's and a pool of zeros

  module _ {asked : Counts} (a : asked ≡ counts) {result : Result Reduction Refusal} {pool' : List ℕ} (e : outcome (tells result) pool' ≡ reduce_of asked rows (replicate 1024 0)) where
    called : {known : Result Reduction Refusal} → result ≡ known → outcome (tells known) pool' ≡ reduce_of counts rows (replicate 1024 0)
    called t =
        ap (λ (r : Result Reduction Refusal). outcome (tells r) pool') (sym t)
        ∙ e
        ∙ ap (λ (n : Counts). reduce_of n rows (replicate 1024 0)) a

    pub rows_case : {reduction : Reduction} → result ≡ Ok reduction → Reduces reduction.count reduction.clash pool'
    rows_case t = reduced-rows (replicate 1024 0) zeros-full (called t)

    pub refused_case : {why : Refusal} → result ≡ Err why → prepared.refused (number_of why) ≡ reduced_to counts rows
    refused_case t = reduced_refused (replicate 1024 0) zeros-full (called t)

  -- the search's rows, as many as were counted
  module _ {count : ℕ} {clashes : Bool} {pool : List ℕ} (r : Reduces count clashes pool) {searches : ℕ} (e : searches ≡ length (search_list (take count pool))) where
    pub searches_are : searches ≡ length (search_list (reduced_rows counts rows))
    searches_are = e ∙ ap (λ (l : List ℕ). length (search_list l)) (reduced_front r)

    pub searches_front : take searches pool ≡ search_list (reduced_rows counts rows)
    searches_front = search-front r searches_are

    pub searches_few : searches ≤ 1024
    searches_few = let h = search-fits r in let f = count_fits r in omega (arith, h, f, searches_are)

    pub searches_fit : searches ≤ length pool
    searches_fit = let h = searches_few in let l = pool-length r in omega (arith, h, l)
