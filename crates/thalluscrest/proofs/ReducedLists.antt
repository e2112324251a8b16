-- Where a reduction's pool is cut: its figures say how many rows at its front are the search's list, and how
-- many after them the roster's.
use mathlib.Core.Path.{◌≡◌, refl, ◌∙◌, ap}
use mathlib.Core.Bool.{Bool, true, false, ◌&&◌}
use mathlib.Core.List.{List, [], ◌++◌, append-nil, append_assoc}
use Prim.Native.Nat.{ℕ, zero, suc, ◌-◌}
use lib.Dec.{leb}
use lib.ListN.{length, take, drop, replicate}
use lib.Seq.{take-append_seam, drop-append_seam}
use Rattle.base_lists.specs.Keep.{keep}
use Rattle.base_lists.specs.Pool.{pad}
use Rattle.base_lists.proofs.Keep.{keep_append}
use Rattle.day_rows.specs.Check.{counts_in_range, rows_judged}
use Rattle.day_rows.specs.Row.{row_of}
use Rattle.day_rows.specs.Told.{good}
use Rattle.day_rows.specs.declared.check.Counts.{Counts}
use Rattle.day_rows.specs.declared.check.Takes.TheVariants as takes
use Rattle.reduce.specs.Reduction.{reduced_rows, search_list, roster_list}
use Rattle.reduce.proofs.Lists.{result_lists}

-- ---- the zeros after a result are no rows of either list

kept-zeros : (p : ℕ → Bool) (n : ℕ) → p 0 ≡ false → keep p (replicate n 0) ≡ []
unfolding keep
kept-zeros p zero z = refl
kept-zeros p (suc n) z = rw z (kept-zeros p n z)

kept-padded : (p : ℕ → Bool) (n : ℕ) (l : List ℕ) → p 0 ≡ false → keep p (pad n l) ≡ keep p l
unfolding pad
kept-padded p n l z =
    keep_append p l (replicate (n - length l) 0)
    ∙ ap (λ (k : List ℕ). keep p l ++ k) (kept-zeros p (n - length l) z)
    ∙ append-nil (keep p l)

search-padded : (n : ℕ) (l : List ℕ) → search_list (pad n l) ≡ search_list l
unfolding search_list row_of
search-padded n l = kept-padded (λ number. leb 1 (row_of number).kind && leb (row_of number).kind 6) n l refl

roster-padded : (n : ℕ) (l : List ℕ) → roster_list (pad n l) ≡ roster_list l
unfolding roster_list row_of
roster-padded n l = kept-padded (λ number. leb 10 (row_of number).kind && leb (row_of number).kind 13) n l refl

-- ---- the two parts of the pool that a reduction of a good day's rows fills

module _ (counts : Counts) (rows : List ℕ) (c : counts_in_range counts takes.Given ≡ true) (g : rows_judged counts takes.Given rows ≡ good) where
  abbrev pool : List ℕ
  pool = pad 1024 (reduced_rows counts rows)

  abbrev searched : List ℕ
  searched = search_list (reduced_rows counts rows)

  abbrev seated : List ℕ
  seated = roster_list (reduced_rows counts rows)

  -- the search's list, the roster's, and zeros
  parts : (k : ℕ) → reduced_rows counts rows ++ replicate k 0 ≡ searched ++ (seated ++ replicate k 0)
  parts k = ap (λ (l : List ℕ). l ++ replicate k 0) (result_lists counts rows c g) ∙ append_assoc searched seated (replicate k 0)

  pub search-front : take (length (search_list pool)) pool ≡ searched
  unfolding pad
  search-front =
      ap (λ (l : List ℕ). take (length l) pool) (search-padded 1024 (reduced_rows counts rows))
      ∙ ap (take (length searched)) (parts (1024 - length (reduced_rows counts rows)))
      ∙ take-append_seam searched (seated ++ replicate (1024 - length (reduced_rows counts rows)) 0)

  pub roster-next : take (length (roster_list pool)) (drop (length (search_list pool)) pool) ≡ seated
  unfolding pad
  roster-next =
      ap (λ (l : List ℕ). take (length l) (drop (length (search_list pool)) pool)) (roster-padded 1024 (reduced_rows counts rows))
      ∙ ap (λ (l : List ℕ). take (length seated) (drop (length l) pool)) (search-padded 1024 (reduced_rows counts rows))
      ∙ ap (λ (l : List ℕ). take (length seated) (drop (length searched) l)) (parts (1024 - length (reduced_rows counts rows)))
      ∙ ap (take (length seated)) (drop-append_seam searched (seated ++ replicate (1024 - length (reduced_rows counts rows)) 0))
      ∙ take-append_seam seated (replicate (1024 - length (reduced_rows counts rows)) 0)
