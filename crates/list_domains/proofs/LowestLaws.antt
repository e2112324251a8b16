-- The lowest place of a domain: the zeros below its lowest bit, and of a settled domain its one place.
use mathlib.Core.Path.{◌≡◌, refl, sym, ◌∙◌, ap}
use mathlib.Core.Bool.{Bool, true, false, cond, false≢true}
use Prim.Native.Nat.{ℕ, zero, suc, ◌+◌, ◌/◌, ◌%◌, ◌^◌, ◌≤◌, ◌<◌}
use native.Mathlib.Nat.{add-zero, zero-add, pow-suc, mod-lt, div-one, div-div-eq-div-mul}
use native.Mathlib.Decide.{ℕ_discrete}
use native.Mathlib.Omega.{arith}
use borrow.Author.Tests.{eq-eqb, eqb-true}
use lib.Count.{count_trailing_zeros, under}
use lib.Dec.{eqb}
use Rattle.base_choice_sets.specs.Sets.{has}
use Rattle.base_choice_sets.proofs.SetLaws.{same_test}
use Rattle.list_domains.specs.steps.Domains.{settled, lowest_from, lowest_place}
use Rattle.list_domains.proofs.DomainLaws.{settled-one}

-- the zeros below the lowest bit from a place on
pub trailing_from : (place n domain : ℕ) → place + count_trailing_zeros n (domain / 2 ^ place) ≡ lowest_from place n domain
unfolding count_trailing_zeros lowest_from has
trailing_from place zero domain = add-zero place
trailing_from place (suc n) domain = go (domain / 2 ^ place % 2) refl (trailing_from (suc place) n domain)
  where
    half : domain / 2 ^ place / 2 ≡ domain / 2 ^ suc place
    half = div-div-eq-div-mul domain (2 ^ place) 2 ∙ ap (λ (x : ℕ). domain / x) (sym (pow-suc 2 place))

    go : (r : ℕ) → domain / 2 ^ place % 2 ≡ r → suc place + count_trailing_zeros n (domain / 2 ^ suc place) ≡ lowest_from (suc place) n domain
        → place + under (domain / 2 ^ place % 2) (count_trailing_zeros n (domain / 2 ^ place / 2)) ≡ cond (eqb (domain / 2 ^ place % 2) 1) place (lowest_from (suc place) n domain)
    go zero e ih = rw (e, half) (omega (arith, ih))
    go (suc zero) e ih = rw e (add-zero place)
    go (suc (suc r)) e ih = absurd (omega (arith, e, mod-lt (domain / 2 ^ place) {m = 2} (omega arith)))

-- `trailing_zeros`
pub lowest_law : (domain : ℕ) → count_trailing_zeros 64 domain ≡ lowest_place domain
unfolding lowest_place
lowest_law domain = below 64
  where
    below : (n : ℕ) → count_trailing_zeros n domain ≡ lowest_from 0 n domain
    below n = ap (count_trailing_zeros n) (sym (div-one domain)) ∙ sym (zero-add (count_trailing_zeros n (domain / 2 ^ 0))) ∙ trailing_from 0 n domain

-- a domain has its lowest place, if that isn't past the places looked at
pub lowest-has : (place n domain : ℕ) → lowest_from place n domain < place + n → has domain (lowest_from place n domain) ≡ true
unfolding lowest_from
lowest-has place zero domain h = absurd (omega arith)
lowest-has place (suc n) domain h = go (has domain place) refl h (lowest-has (suc place) n domain)
  where
    go : (b : Bool) → has domain place ≡ b → cond b place (lowest_from (suc place) n domain) < place + suc n
        → (lowest_from (suc place) n domain < suc place + n → has domain (lowest_from (suc place) n domain) ≡ true)
        → has domain (cond b place (lowest_from (suc place) n domain)) ≡ true
    go true t h ih = t
    go false t h ih = ih (omega arith)

-- a domain has no place below its lowest one
pub lowest_le : (place n domain p : ℕ) → place ≤ p → p < place + n → has domain p ≡ true → lowest_from place n domain ≤ p
unfolding lowest_from
lowest_le place zero domain p l h t = absurd (omega arith)
lowest_le place (suc n) domain p l h t = go (has domain place) refl (lowest_le (suc place) n domain p)
  where
    go : (b : Bool) → has domain place ≡ b → (suc place ≤ p → p < suc place + n → has domain p ≡ true → lowest_from (suc place) n domain ≤ p)
        → cond b place (lowest_from (suc place) n domain) ≤ p
    go true u ih = l
    go false u ih = ih (next (ℕ_discrete place p)) (omega arith) t
      where
        next : Dec (place ≡ p) → suc place ≤ p
        next (yes e) = absurd (false≢true (sym u ∙ rw e t))
        next (no q) = omega (arith, q)

-- the lowest place of a settled domain is its one place
pub lowest_only : (domain place : ℕ) → settled domain ≡ true → place < 64 → has domain place ≡ eqb place (lowest_place domain)
unfolding lowest_place
lowest_only domain place s h = below 64 refl h
  where
    below : (n : ℕ) → n ≡ 64 → place < n → has domain place ≡ eqb place (lowest_from 0 n domain)
    below n e h = same_test (has domain place) (eqb place low) there here
      where
        low : ℕ
        low = lowest_from 0 n domain

        there : has domain place ≡ true → eqb place low ≡ true
        there t =
            let l : low ≤ place = lowest_le 0 n domain place (omega arith) (omega arith) t in
            eq-eqb place low (settled-one domain place low s (omega (arith, e)) (omega (arith, e)) t (lowest-has 0 n domain (omega arith)))

        here : eqb place low ≡ true → has domain place ≡ true
        here t =
            let q : place ≡ low = eqb-true place low t in
            rw q (lowest-has 0 n domain (omega (arith, q)))
