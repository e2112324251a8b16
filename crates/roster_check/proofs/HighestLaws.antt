-- The highest preference met, one cell and one chooser at a time.
use mathlib.Core.Path.{◌≡◌, refl, sym, ◌∙◌, ap, ap₂}
use mathlib.Core.Bool.{Bool, true, false, ◌&&◌}
use mathlib.Core.List.{List}
use Prim.Native.Nat.{ℕ, zero, suc, ◌+◌, ◌*◌, ◌≤◌, ◌<◌, max}
use native.Mathlib.Nat.{mul-le-mul_right}
use native.Mathlib.Numerals.{add-one}
use native.Mathlib.Omega.{arith}
use borrow.Author.Tests.{le-leb, lt-leb, leb-true, leb-false}
use lib.Dec.{leb}
use lib.ListN.{length, get_or}
use Rattle.base_lists.specs.Below.{all_below}
use Rattle.roster_rows.specs.Cells.{cells_of}
use Rattle.roster_rows.specs.steps.Shapes.{Seated}
use Rattle.roster_rows.proofs.CellLaws.{cells-many}
use Rattle.base_lists.specs.All.{all_at_most}
use Rattle.roster_check.specs.Roster.{highest_below, preference_met}

pub highest-none : (f : ℕ → ℕ) → 0 ≡ highest_below 0 f
unfolding highest_below
highest-none f = refl

-- the highest after one number more, at the code's i + 1
pub highest-more : (f : ℕ → ℕ) (i : ℕ) {a b r : ℕ} → a ≡ highest_below i f → b ≡ f i → r ≡ max a b → r ≡ highest_below (i + 1) f
unfolding highest_below
highest-more f i p q e = e ∙ ap₂ max p q ∙ ap (λ (n : ℕ). highest_below n f) (sym (add-one i))

pub highest-done : (f : ℕ → ℕ) (n i : ℕ) {a : ℕ} → i ≤ n → n ≤ i → a ≡ highest_below i f → a ≡ highest_below n f
highest-done f n i a b e = let z : i ≡ n = omega arith in e ∙ ap (λ (k : ℕ). highest_below k f) z

pub highest_ext : (n : ℕ) (f g : ℕ → ℕ) → ((i : ℕ) → i < n → f i ≡ g i) → highest_below n f ≡ highest_below n g
unfolding highest_below
highest_ext zero f g h = refl
highest_ext (suc n) f g h = ap₂ max (highest_ext n f g (λ i k. h i (omega arith))) (h n (omega arith))

-- the highest of some numbers is at most a limit exactly if all of them are
pub highest-at-most : (n : ℕ) (f : ℕ → ℕ) (limit : ℕ) → leb (highest_below n f) limit ≡ all_below n λ i. leb (f i) limit
unfolding highest_below all_below
highest-at-most zero f limit = le-leb 0 limit (omega arith)
highest-at-most (suc n) f limit = larger-at-most (highest_below n f) (f n) limit ∙ ap (λ (b : Bool). b && leb (f n) limit) (highest-at-most n f limit)
  where
    larger-at-most : (a b limit : ℕ) → leb (max a b) limit ≡ (leb a limit && leb b limit)
    larger-at-most a b limit = go (leb a limit) (leb b limit) refl refl
      where
        go : (p q : Bool) → leb a limit ≡ p → leb b limit ≡ q → leb (max a b) limit ≡ (p && q)
        go true true p q = le-leb (max a b) limit (omega (arith, leb-true a limit p, leb-true b limit q))
        go true false p q = lt-leb (max a b) limit (omega (arith, leb-false b limit q))
        go false q p r = lt-leb (max a b) limit (omega (arith, leb-false a limit p))

pub all-at-most : (preferences : List ℕ) (last : ℕ) {highest : ℕ} → highest ≡ highest_below (length preferences) (λ i. get_or preferences i 0)
    → leb highest last ≡ all_at_most last preferences
unfolding all_at_most
all-at-most preferences last e = rw e (highest-at-most (length preferences) (λ i. get_or preferences i 0) last)

-- one chooser's highest preference met, as the code has read it
module _ (choices slots choosers : ℕ) (preferences roster : List ℕ) (chooser : ℕ) where
  pub chooser-highest : Seated slots choosers roster → chooser < choosers → {cells : List ℕ} → cells ≡ cells_of slots roster chooser → {from met : ℕ} → from ≡ chooser * choices
      → met ≡ highest_below (length cells) (λ s. get_or preferences (from + get_or cells s 0) 0)
      → met ≡ highest_below slots (preference_met choices slots preferences roster chooser)
  unfolding preference_met
  chooser-highest k h {cells} e {from} {met} f m =
      m ∙ ap (λ (l : List ℕ). highest_below (length l) (λ s. get_or preferences (from + get_or l s 0) 0)) e
      ∙ ap (λ (n : ℕ). highest_below n (λ s. get_or preferences (from + get_or (cells_of slots roster chooser) s 0) 0)) (cells-many slots roster chooser choosers k h)
      ∙ ap (λ (a : ℕ). highest_below slots (λ s. get_or preferences (a + get_or (cells_of slots roster chooser) s 0) 0)) f

-- a chooser's preferences start at a small place
pub from-few : (choices choosers chooser from : ℕ) → from ≡ chooser * choices → chooser ≤ choosers → choosers ≤ 200 → choices ≤ 64 → from ≤ 12800
from-few choices choosers chooser from e a b c =
    let m : chooser * choices ≤ 200 * choices = mul-le-mul_right choices (omega (arith, a, b)) in
    omega (arith, e, m, c)

-- the preference of one cell, as the code has read it
pub met_at : (preferences cells : List ℕ) (from s : ℕ) {met cell : ℕ} → met ≡ get_or preferences (from + cell) 0 → cell ≡ get_or cells s 0
    → met ≡ get_or preferences (from + get_or cells s 0) 0
met_at preferences cells from s m e = m ∙ ap (λ (x : ℕ). get_or preferences (from + x) 0) e
