-- A whole permutation of 0..C-1 is an order of the choices, each once.
use mathlib.Core.Path.{◌≡◌, refl, sym, ◌∙◌, ap}
use mathlib.Core.Bool.{Bool, true, false, or-true, false≢true}
use mathlib.Core.List.Memᴰ
use mathlib.Core.List.{List, [], ◌∷◌, Memᴰ}
use mathlib.Core.Logic.{⊎_elim}
use Prim.Native.Nat.{ℕ, ◌+◌, ◌<◌}
use native.Mathlib.Omega.{arith}
use borrow.Author.Tests.{lt-ltb, eq-eqb, eqb-true}
use lib.Dec.{eqb, ltb}
use lib.ListN.{get_or, take}
use Rattle.base_lists.specs.Below.{one}
use Rattle.base_lists.specs.Group.{times_in}
use Rattle.base_lists.specs.Keep.{any_of}
use Rattle.search_order.specs.Order.{is_permutation}
use Rattle.search_order.proofs.Times.{times_sum, sum-once}
use Rattle.search_order.proofs.OrderLaws as order-laws
use Rattle.search_rules.proofs.Along.{Arranged}

-- what stands in a list passes the search for it
pub any_in : (x : ℕ) (l : List ℕ) → Memᴰ x l → any_of (eqb x) l ≡ true
unfolding any_of
any_in x [] m = absurd (Memᴰ.not-nil m)
any_in x (y ∷ l) m =
    ⊎_elim (λ e. rw (eq-eqb x y e)) (λ k. rw (any_in x l k) (or-true (eqb x y))) (Memᴰ.cases_cons m)

-- what is counted in a list stands in it
pub counted_in : (x : ℕ) (l : List ℕ) → 0 < times_in x l → Memᴰ x l
unfolding times_in one
counted_in x [] h = absurd (omega arith)
counted_in x (y ∷ l) h = go (eqb x y) refl h (counted_in x l)
  where
    go : (b : Bool) → eqb x y ≡ b → 0 < one b + times_in x l → (0 < times_in x l → Memᴰ x l) → Memᴰ x (y ∷ l)
    go true t h ih = Memᴰ.head (eqb-true x y t)
    go false t h ih = let l : 0 < 0 + times_in x l = h in Memᴰ.tail (ih (omega arith))

module _ (choices : ℕ) (order : List ℕ) (p : is_permutation choices order ≡ true) where
  -- every choice stands in a permutation
  pub all_there : (choice : ℕ) → choice < choices → Memᴰ choice order
  unfolding one
  all_there choice h =
      let n : times_in choice order ≡ one (ltb choice choices) =
      times_sum choice order ∙ order-laws.sums-alike choices order p (λ k. one (eqb choice k)) ∙ sum-once choices choice in
      let o : one (ltb choice choices) ≡ 1 = ap one (lt-ltb choice choices h) in
      counted_in choice order (omega arith)

  pub permutation_arranged : Arranged choices order
  permutation_arranged =
      record {
        long = order-laws.permutation_length choices order p;
        below = order-laws.below choices order p;
        alone = λ i h m. false≢true (sym (order-laws.lone-before choices order p i h) ∙ any_in (get_or order i 0) (take i order) m);
        covers = all_there;
        sums = order-laws.sums-alike choices order p;
      }
