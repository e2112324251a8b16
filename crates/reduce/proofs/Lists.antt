-- A result's 'rows of kinds 1 to 6, in order, are the search's list, those of 10 to 13 the roster's': the two
-- are its parts in order.
use mathlib.Core.Path.{◌≡◌, refl, sym, ◌∙◌, ap}
use mathlib.Core.Bool.{Bool, true, false, ◌&&◌}
use mathlib.Core.List.{List, [], ◌∷◌, ◌++◌, Memᴰ}
use mathlib.Core.Logic.{◌⊎◌, inl, inr, ⊎_elim}
use Prim.Native.Nat.{ℕ, ◌≤◌, ◌<◌}
use native.Mathlib.Omega.{arith}
use borrow.Author.Tests.{le-leb, lt-leb, leb-true}
use lib.Dec.{leb}
use Rattle.base_lists.specs.Keep.{keep}
use Rattle.base_lists.specs.Sorted.{Under, Rises}
use Rattle.base_lists.proofs.Below.{and_left, and_right}
use Rattle.day_rows.specs.Check.{rows_judged, counts_in_range}
use Rattle.day_rows.specs.Row.{row_of}
use Rattle.day_rows.specs.declared.check.Counts.{Counts}
use Rattle.day_rows.specs.declared.check.Takes.TheVariants as takes
use Rattle.day_rows.specs.Told.{good}
use Rattle.day_rows.proofs.KeptLaws.{kept}
use Rattle.day_rows.proofs.KindLaws.{takes_scheduling, takes_assignment}
use Rattle.reduce_turn.specs.Turn.{kind_of}
use Rattle.reduce.specs.Reduction.{reduced_rows, search_list, roster_list}
use Rattle.reduce.proofs.Result.{result_rises}
use Rattle.reduce.proofs.TableKept.{Taken, result_taken}

-- the tests of the two lists: kinds 1 to 6, and kinds 10 to 13
abbrev searched : ℕ → Bool
searched number = leb 1 (kind_of number) && leb (kind_of number) 6

abbrev rostered : ℕ → Bool
rostered number = leb 10 (kind_of number) && leb (kind_of number) 13

-- a later row has no smaller kind
later-kind : (x y : ℕ) → x < y → kind_of x ≤ kind_of y
unfolding row_of
later-kind x y h = omega arith

-- a row belongs to one of the two lists
Sorted : ℕ → Type 0
Sorted number = ((searched number ≡ true) × (rostered number ≡ false)) ⊎ ((searched number ≡ false) × (rostered number ≡ true))

taken_sorted : (counts : Counts) (number : ℕ) → Taken counts number → Sorted number
unfolding Taken Sorted
taken_sorted counts number t =
    ⊎_elim
    (λ k. let e : searched number ≡ true = sym (takes_scheduling (kind_of number)) ∙ (kept counts takes.Scheduling number k).kind in
    let h : kind_of number ≤ 6 = leb-true (kind_of number) 6 (and_right (leb 1 (kind_of number)) _ e) in
    inl (e, rw (lt-leb 10 (kind_of number) (omega arith))))
    (λ k. let e : rostered number ≡ true = sym (takes_assignment (kind_of number)) ∙ (kept counts takes.Assignment number k).kind in
    let h : 10 ≤ kind_of number = leb-true 10 (kind_of number) (and_left _ _ e) in
    inr (rw (le-leb 1 (kind_of number) (omega arith)) (lt-leb (kind_of number) 6 (omega arith)), e))
    t

-- after a row of the roster's no row is the search's
none-searched : (x : ℕ) (l : List ℕ) → 10 ≤ kind_of x → Under x l → keep searched l ≡ []
unfolding Under keep
none-searched x [] h u = refl
none-searched x (y ∷ l) h u =
    let k : kind_of x ≤ kind_of y = later-kind x y u.0 in
    rw (le-leb 1 (kind_of y) (omega arith), lt-leb (kind_of y) 6 (omega arith)) (none-searched x l h u.1)

parts : (l : List ℕ) → Rises l → ((number : ℕ) → Memᴰ number l → Sorted number) → l ≡ keep searched l ++ keep rostered l
unfolding Rises Sorted keep
parts [] r s = refl
parts (x ∷ l) r s =
    let ih = parts l r.1 (λ n m. s n (Memᴰ.tail m)) in
    ⊎_elim
    (λ k. rw (k.0, k.1) (ap (λ (z : List ℕ). x ∷ z) ih))
    (λ k. let h : 10 ≤ kind_of x = leb-true 10 (kind_of x) (and_left _ _ k.1) in
    let e = none-searched x l h r.0 in
    rw (k.0, k.1, e) (ap (λ (z : List ℕ). x ∷ z) (ih ∙ ap (λ (z : List ℕ). z ++ keep rostered l) e)))
    (s x (Memᴰ.head refl))

-- the search's list, then the roster's, are the whole reduction
pub result_lists : (counts : Counts) (rows : List ℕ) → counts_in_range counts takes.Given ≡ true → rows_judged counts takes.Given rows ≡ good
    → reduced_rows counts rows ≡ search_list (reduced_rows counts rows) ++ roster_list (reduced_rows counts rows)
unfolding search_list roster_list
result_lists counts rows c g =
    parts (reduced_rows counts rows) (result_rises counts rows) (λ n m. taken_sorted counts n (result_taken counts rows c g m))
