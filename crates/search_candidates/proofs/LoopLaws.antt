-- The loop over the numbers, in which what is left of the list decides, and the order of the two tests.
use mathlib.Core.Path.{◌≡◌, refl, ◌∙◌}
use mathlib.Core.Bool.{Bool, true, false}
use mathlib.Core.List.{List}
use Prim.Native.Nat.{ℕ, ◌+◌, ◌≤◌, ◌<◌}
use lib.ListN.{length, get_or, drop}
use Rattle.base_lists.proofs.All.{all-passes, all-fails, all-passed}
use Rattle.day_rows.specs.Row.{row_of}
use Rattle.search_candidates.specs.Allow.{row_allows, each_allows, limits_hold, rows_allow}

-- the loop over the numbers
module _ (rows numbers decisions : List ℕ) (sizes : ℕ → ℕ) (choice place : ℕ) where
  pub EachFrom : ℕ → Type 0
  EachFrom i = each_allows rows numbers decisions sizes choice place ≡ each_allows rows (drop i numbers) decisions sizes choice place

  pub each_start : EachFrom 0
  unfolding EachFrom
  each_start = refl

  pub each_next : (i : ℕ) → i < length numbers → EachFrom i → row_allows decisions sizes choice place (row_of (get_or rows (get_or numbers i 0) 0)) ≡ true → EachFrom (i + 1)
  unfolding EachFrom each_allows
  each_next i h f t = f ∙ all-passes (λ number. row_allows decisions sizes choice place (row_of (get_or rows number 0))) numbers i 0 h t

  pub each-fails : (i : ℕ) → i < length numbers → EachFrom i → row_allows decisions sizes choice place (row_of (get_or rows (get_or numbers i 0) 0)) ≡ false
      → each_allows rows numbers decisions sizes choice place ≡ false
  unfolding EachFrom each_allows
  each-fails i h f t = f ∙ all-fails (λ number. row_allows decisions sizes choice place (row_of (get_or rows number 0))) numbers i 0 h t

  pub each-done : (i : ℕ) → length numbers ≤ i → EachFrom i → each_allows rows numbers decisions sizes choice place ≡ true
  unfolding EachFrom each_allows
  each-done i h f = f ∙ all-passed (λ number. row_allows decisions sizes choice place (row_of (get_or rows number 0))) numbers i h

  -- the numbers' rows first, then, for the last undecided choice, the limits
  pub each-refuses : (last : Bool) → each_allows rows numbers decisions sizes choice place ≡ false → rows_allow rows numbers decisions sizes last choice place ≡ false
  unfolding rows_allow
  each-refuses last e = rw e

  pub not_last : (last : Bool) → last ≡ false → each_allows rows numbers decisions sizes choice place ≡ true → rows_allow rows numbers decisions sizes last choice place ≡ true
  unfolding rows_allow
  not_last last l e = rw (e, l)

  pub last_tested : (last : Bool) → last ≡ true → each_allows rows numbers decisions sizes choice place ≡ true
      → rows_allow rows numbers decisions sizes last choice place ≡ limits_hold rows sizes place
  unfolding rows_allow
  last_tested last l e = rw (e, l)
