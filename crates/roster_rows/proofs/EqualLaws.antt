-- Sorted lists told by how often each number stands in them: equal exactly if the counts are.
use mathlib.Core.Path.{◌≡◌, refl, sym, ◌∙◌, ap, ap₂}
use mathlib.Core.Bool.{Bool, true, false, false≢true}
use mathlib.Core.List.{List, [], ◌∷◌, ◌++◌}
use Prim.Native.Nat.{ℕ, zero, suc, ◌+◌, ◌≤◌, ◌<◌}
use native.Mathlib.Decide.{ℕ_discrete}
use native.Mathlib.Nat.{zero-add, add_assoc, not-suc-le-zero}
use native.Mathlib.Omega.{arith}
use borrow.Author.Tests.{eq-eqb, eqb-true}
use lib.Dec.{eqb}
use lib.ListN.{replicate}
use Rattle.base_lists.specs.Below.{all_below}
use Rattle.base_lists.specs.Flat.{join_below}
use Rattle.base_lists.specs.Group.{times_in}
use Rattle.base_lists.proofs.Below.{and_both, and_left, and_right, all-each, each_all}
use Rattle.base_lists.proofs.Flat.{join_ext}
use Rattle.roster_rows.specs.Rows.{sorted_by, equal_lists}
use Rattle.roster_rows.proofs.TallyLaws.{one_true, one_false}

-- two tests that follow from each other are one
pub same_test : (a b : Bool) → (a ≡ true → b ≡ true) → (b ≡ true → a ≡ true) → a ≡ b
same_test true b f g = sym (f refl)
same_test false true f g = g refl
same_test false false f g = refl

-- the test of two lists says whether they are equal
pub equal_means : (l m : List ℕ) → equal_lists l m ≡ true → l ≡ m
unfolding equal_lists
equal_means [] [] h = refl
equal_means [] (y ∷ m) h = absurd (false≢true h)
equal_means (x ∷ l) [] h = absurd (false≢true h)
equal_means (x ∷ l) (y ∷ m) h =
    ap₂ (λ (z : ℕ) (k : List ℕ). z ∷ k) (eqb-true x y (and_left (eqb x y) (equal_lists l m) h)) (equal_means l m (and_right (eqb x y) (equal_lists l m) h))

pub equal_self : (l : List ℕ) → equal_lists l l ≡ true
unfolding equal_lists
equal_self [] = refl
equal_self (x ∷ l) = and_both (eqb x x) (equal_lists l l) (eq-eqb x x refl) (equal_self l)

pub equal_by : (l m : List ℕ) → l ≡ m → equal_lists l m ≡ true
equal_by l m e = ap (λ (k : List ℕ). equal_lists l k) (sym e) ∙ equal_self l

times_append : (x : ℕ) (l m : List ℕ) → times_in x (l ++ m) ≡ times_in x l + times_in x m
unfolding times_in
times_append x [] m = sym (zero-add _)
times_append x (y ∷ l) m = rw (times_append x l m, add_assoc)

times_same : (x n : ℕ) → times_in x (replicate n x) ≡ n
unfolding times_in
times_same x zero = refl
times_same x (suc n) = omega (arith, one_true x x refl, times_same x n)

times_other : (x y n : ℕ) → (x ≡ y → ⊥) → times_in x (replicate n y) ≡ 0
unfolding times_in
times_other x y zero d = refl
times_other x y (suc n) d = omega (arith, one_false x y d, times_other x y n d)

module _ (times : ℕ → ℕ) where
  -- a number past the bound doesn't stand in the list
  pub sorted_past : (n x : ℕ) → n ≤ x → times_in x (sorted_by n times) ≡ 0
  unfolding sorted_by join_below times_in
  sorted_past zero x h = refl
  sorted_past (suc n) x h =
      let d : x ≡ n → ⊥ = λ e. omega (arith, e, h) in
      times_append x (sorted_by n times) (replicate (times n) n) ∙ omega (arith, sorted_past n x (omega arith), times_other x n (times n) d)

  -- a number below the bound stands in the list as often as the function says
  pub sorted_times : (n x : ℕ) → x < n → times_in x (sorted_by n times) ≡ times x
  unfolding sorted_by join_below
  sorted_times zero x h = absurd (not-suc-le-zero h)
  sorted_times (suc n) x h =
      times_append x (sorted_by n times) (replicate (times n) n) ∙ elim (ℕ_discrete x n) [
        | yes e ↦ rw e (omega (arith, sorted_past n n (omega arith), times_same n (times n)))
        | no d ↦ omega (arith, sorted_times n x (omega arith), times_other x n (times n) d)
      ]

pub same_lists : (n : ℕ) (f g : ℕ → ℕ) → ((k : ℕ) → k < n → f k ≡ g k) → sorted_by n f ≡ sorted_by n g
unfolding sorted_by
same_lists n f g h = join_ext n (λ k. replicate (f k) k) (λ k. replicate (g k) k) λ k hk. ap (λ (m : ℕ). replicate m k) (h k hk)

-- two sorted lists are equal exactly if each number stands equally often in both
module _ (n : ℕ) (f g : ℕ → ℕ) where
  pub sorted_equal : equal_lists (sorted_by n f) (sorted_by n g) ≡ all_below n λ k. eqb (f k) (g k)
  sorted_equal = same_test (equal_lists (sorted_by n f) (sorted_by n g)) (all_below n λ k. eqb (f k) (g k)) counts lists
    where
      counts : equal_lists (sorted_by n f) (sorted_by n g) ≡ true → all_below n (λ k. eqb (f k) (g k)) ≡ true
      counts h =
          let e = equal_means (sorted_by n f) (sorted_by n g) h in
          each_all n (λ k. eqb (f k) (g k)) λ k hk.
          eq-eqb (f k) (g k) (sym (sorted_times f n k hk) ∙ ap (times_in k) e ∙ sorted_times g n k hk)

      lists : all_below n (λ k. eqb (f k) (g k)) ≡ true → equal_lists (sorted_by n f) (sorted_by n g) ≡ true
      lists h = equal_by (sorted_by n f) (sorted_by n g) (same_lists n f g λ k hk. eqb-true (f k) (g k) (all-each n (λ k. eqb (f k) (g k)) h k hk))
