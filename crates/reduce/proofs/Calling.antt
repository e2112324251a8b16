-- `reduce`, a law for each of its answers.
use mathlib.Core.Path.{◌≡◌, sym, ◌∙◌, ap}
use mathlib.Core.Bool.{Bool, true, false, cond}
use mathlib.Core.List.{List, ◌++◌, append-nil, append_assoc}
use Prim.Native.Nat.{ℕ, ◌+◌, ◌-◌, ◌≤◌, ◌<◌}
use native.Mathlib.Omega.{arith}
use borrow.Author.Tests.{le-leb, lt-leb, eq-eqb, ne_eqb}
use borrow.Rule.Slice.PartMut.{put_mid, mid_of, mid_len, Post-is}
use lib.ListN.{length, take, drop, replicate, length-append, length-drop, replicate-append-replicate}
use lib.Seq.{take_at, drop-length, length-take-le}
use Rattle.base_lists.specs.Pool.{pad}
use Rattle.base_lists.specs.Sorted.{unique_sorted}
use Rattle.base_lists.proofs.Pad.{length-pad}
use Rattle.base_lists.proofs.Sorted.{length_unique}
use Rattle.base_lists.proofs.Stores.{take-sets}
use Rattle.day_rows.specs.Check.{counts_in_range, rows_judged}
use Rattle.day_rows.specs.Told.{Verdict, done, good, refuse, refused, Outcome, outcome, judged}
use Rattle.day_rows.specs.declared.check.Counts.{Counts}
use Rattle.day_rows.specs.declared.check.Takes.TheVariants as takes
use Rattle.day_rows.proofs.CountLaws.{within}
use Rattle.reduce_turn.specs.Turn.{clash_of}
use Rattle.reduce.specs.steps.Expand.{PoolFilled, PoolLent}
use Rattle.reduce.specs.declared.Reduction.{Reduction}
use Rattle.reduce.specs.Reduction.{expanded, reduced_rows, reduction_of, reduce_of}

-- a reduction by its count and its flag
abbrev reduction : ℕ → Bool → Reduction
reduction count clash = record { count = count; clash = clash }

-- counts in their ranges, and the lengths that go with them
pub given_of : (counts : Counts) (rows pool : ℕ) → counts_in_range counts takes.Given ≡ true → rows ≡ counts.rows → pool ≡ 1024 → PoolLent counts rows pool
given_of counts rows pool h r p =
    let w = within counts takes.Given h in
    let k : counts.rows ≤ 128 = w.rows in
    record { choices_in = w.choices; choosers_in = w.choosers; rows_in = omega arith; pool-is = p }

-- over 1,024 rows: 6, the pool all zero
module _ (counts : Counts) (rows pool : List ℕ) (total : ℕ) (pool' : List ℕ) (f : PoolFilled pool (expanded counts rows) total pool') where
  pub too_many : {exit : List ℕ} {n : ℕ} → 1024 < total → n ≡ 1024 → exit ≡ replicate n 0 → outcome (refuse 6) exit ≡ reduction_of counts rows
  unfolding reduction_of
  too_many {exit} h l e =
      ap (outcome (refuse 6)) (e ∙ ap (λ (k : ℕ). replicate k 0) l)
      ∙ sym (ap (λ (b : Bool). cond b (outcome (done (reduction (length (reduced_rows counts rows)) (clash_of rows))) (pad 1024 (reduced_rows counts rows))) (outcome (refuse 6) (replicate 1024 0)))
      (lt-leb (length (expanded counts rows)) 1024 (f.past h)))

  -- all rows in the pool, sorted with equal ones once, and zeros after them
  module _ (h : total ≤ 1024) (p : length pool ≡ 1024) where
    rows-read : take total pool' ≡ expanded counts rows
    rows-read =
        let w = f.whole h in
        ap (λ (k : ℕ). take k pool') w.0 ∙ ap (take (length (expanded counts rows))) w.1
        ∙ take-sets pool (expanded counts rows) (omega (arith, w.0))

    -- the pool after the sort of its front, and after the rest is cleared
    module _ (count : ℕ) (front back : List ℕ) (clash : Bool)
        (s : (count ≡ length (unique_sorted (take total pool'))) × (front ≡ pad (length (take total pool')) (unique_sorted (take total pool'))))
        (c : clash ≡ clash_of rows) (q : length pool' ≡ 1024)
        (b : back ≡ replicate (length (mid_of total (length (front ++ drop total pool') - total) (front ++ drop total pool'))) 0) where
      exit : List ℕ
      exit = put_mid total (length (front ++ drop total pool') - total) (front ++ drop total pool') back

      front_length : length front ≡ total
      front_length =
          let t : length (take total pool') ≡ total = length-take-le total pool' (omega arith) in
          ap length s.1 ∙ length-pad (length (take total pool')) (unique_sorted (take total pool')) (length_unique (take total pool')) ∙ t

      whole_length : length (front ++ drop total pool') ≡ 1024
      whole_length = rw (length-append front (drop total pool'), length-drop total pool') (omega (arith, front_length))

      back_is : back ≡ replicate (1024 - total) 0
      back_is =
          let n : length (mid_of total (length (front ++ drop total pool') - total) (front ++ drop total pool')) ≡ 1024 - total =
          mid_len total (length (front ++ drop total pool')) (front ++ drop total pool') (omega arith) ∙ ap (λ (k : ℕ). k - total) whole_length in
          b ∙ ap (λ (k : ℕ). replicate k 0) n

      exit-is : exit ≡ front ++ back
      unfolding exit
      exit-is =
          ap (λ (z : List ℕ). take total (front ++ drop total pool') ++ (back ++ z))
          (Post-is total (length (front ++ drop total pool')) (front ++ drop total pool') (omega (arith, whole_length)) ∙ drop-length (front ++ drop total pool'))
          ∙ ap (λ (z : List ℕ). take total (front ++ drop total pool') ++ z) (append-nil back)
          ∙ ap (λ (z : List ℕ). z ++ back) (take_at front (drop total pool') total front_length)

      sorted_exit : exit ≡ pad 1024 (reduced_rows counts rows)
      unfolding reduced_rows pad
      sorted_exit =
          let w = f.whole h in
          let u = unique_sorted (expanded counts rows) in
          let t : length (take total pool') ≡ total = ap length rows-read ∙ sym w.0 in
          let k : total - length u + (1024 - total) ≡ 1024 - length u = omega (arith, length_unique (expanded counts rows), w.0) in
          exit-is ∙ ap (λ (z : List ℕ). front ++ z) back_is
          ∙ ap (λ (z : List ℕ). z ++ replicate (1024 - total) 0) (s.1 ∙ ap (λ (n : ℕ). pad n (unique_sorted (take total pool'))) t ∙ ap (λ (l : List ℕ). pad total (unique_sorted l)) rows-read)
          ∙ append_assoc u (replicate (total - length u) 0) (replicate (1024 - total) 0)
          ∙ ap (λ (z : List ℕ). u ++ z) (replicate-append-replicate (total - length u) (1024 - total) 0 ∙ ap (λ (n : ℕ). replicate n 0) k)

      pub all_reduced : outcome (done (reduction count clash)) (put_mid total (length (front ++ drop total pool') - total) (front ++ drop total pool') back) ≡ reduction_of counts rows
      unfolding reduction_of reduced_rows exit
      all_reduced =
          let w = f.whole h in
          let n : count ≡ length (reduced_rows counts rows) = s.0 ∙ ap (λ (l : List ℕ). length (unique_sorted l)) rows-read in
          ap (λ (k : ℕ). outcome (done (reduction k clash)) exit) n ∙ ap (λ (k : Bool). outcome (done (reduction (length (reduced_rows counts rows)) k)) exit) c
          ∙ ap (outcome (done (reduction (length (reduced_rows counts rows)) (clash_of rows)))) sorted_exit
          ∙ sym (ap (λ (b : Bool). cond b (outcome (done (reduction (length (reduced_rows counts rows)) (clash_of rows))) (pad 1024 (reduced_rows counts rows))) (outcome (refuse 6) (replicate 1024 0)))
          (le-leb (length (expanded counts rows)) 1024 (omega (arith, w.0))))

-- the refusals in 01's order
module _ (counts : Counts) (rows pool : List ℕ) where
  pub call_count : counts_in_range counts takes.Given ≡ false → outcome (refuse 1) pool ≡ reduce_of counts rows pool
  unfolding reduce_of
  call_count t = rw t

  module _ (t : counts_in_range counts takes.Given ≡ true) where
    pub call_rows : (length rows ≡ counts.rows → ⊥) → outcome (refuse 2) pool ≡ reduce_of counts rows pool
    unfolding reduce_of
    call_rows n = rw (t, ne_eqb (length rows) counts.rows n)

    pub call_pool : length rows ≡ counts.rows → (length pool ≡ 1024 → ⊥) → outcome (refuse 2) pool ≡ reduce_of counts rows pool
    unfolding reduce_of
    call_pool r n = rw (t, eq-eqb (length rows) counts.rows r, ne_eqb (length pool) 1024 n)

    module _ (r : length rows ≡ counts.rows) (p : length pool ≡ 1024) where
      call_checked : {told : Verdict} → told ≡ rows_judged counts takes.Given rows → judged told pool (reduction_of counts rows) ≡ reduce_of counts rows pool
      unfolding reduce_of
      call_checked e = rw (t, eq-eqb (length rows) counts.rows r, eq-eqb (length pool) 1024 p) (ap (λ (told : Verdict). judged told pool (reduction_of counts rows)) e)

      pub call_bad : {number : ℕ} {carried : List ℕ} → refused number carried ≡ rows_judged counts takes.Given rows
          → outcome (refused number carried) pool ≡ reduce_of counts rows pool
      call_bad e = call_checked e

      pub call_good : {told : Outcome Reduction (List ℕ)} → good ≡ rows_judged counts takes.Given rows → told ≡ reduction_of counts rows
          → told ≡ reduce_of counts rows pool
      call_good e g = g ∙ call_checked e
