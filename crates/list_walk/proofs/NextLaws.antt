-- The next place that a domain has, by the bits of the domain.
use Rattle.std.proofs.Common.{◌≡◌, ℕ, zero, suc, ◌+◌, ◌-◌, ◌/◌, ◌%◌, ◌^◌, ◌<◌, ◌≤◌, cond, eqb, leb, List, length, take, drop, sym, refl, ap, ◌∙◌, mod-lt, add_comm, div-one, arith, length-drop, take_all, shr-shr, le-leb}
use mathlib.Core.Bool.{and-false}
use borrow.Author.Tests.{lt-leb}
use lib.Count.{under, count_trailing_zeros}
use Rattle.day_rows.specs.declared.check.Counts.{Counts}
use Rattle.list_look.specs.steps.Look.{opened_at}
use Rattle.base_choice_sets.specs.Sets.{has}
use Rattle.list_walk.specs.steps.Sight.{next_has, next_within}

-- a place of what is left of a domain without its first places
has_shift : (domain gone at : ℕ) → has domain (at + gone) ≡ has (domain / 2 ^ gone) at
unfolding has
has_shift domain gone at =
    ap (λ (x : ℕ). eqb (x % 2) 1) (ap (λ (k : ℕ). domain / 2 ^ k) (add_comm at gone) ∙ sym (shr-shr domain gone at))

-- the first place of a domain is its lowest bit
has_first : (domain : ℕ) → has domain 0 ≡ eqb (domain % 2) 1
unfolding has
has_first domain = ap (λ (x : ℕ). eqb (x % 2) 1) (div-one domain)

-- the next place of what is left of a domain
next_shift : (gone slots domain left : ℕ) → left ≤ slots + 1 → next_has (slots + gone) domain left ≡ next_has slots (domain / 2 ^ gone) left
unfolding next_has
next_shift gone slots domain zero h = refl
next_shift gone slots domain (suc left) h =
    let e : slots + gone - left ≡ (slots - left) + gone = omega arith in
    rw (e, has_shift domain gone (slots - left), next_shift gone slots domain left (omega arith))

-- a domain without its first place is halved
next_one : (left rest : ℕ) → next_has left rest left ≡ next_has (left - 1) (rest / 2) left
unfolding next_has
next_one zero rest = refl
next_one (suc left) rest =
    let e : suc left ≡ left + 1 = omega arith in
    let m : suc left - 1 ≡ left = omega arith in
    ap (λ (k : ℕ). next_has k rest (suc left)) e
    ∙ next_shift 1 left rest (suc left) (omega arith)
    ∙ ap (λ (k : ℕ). next_has k (rest / 2) (suc left)) (sym m)

-- as many places are passed over as the number has zeros at its end
next-bits : (k left rest : ℕ) → left ≤ k → next_has (left - 1) rest left ≡ left - count_trailing_zeros k rest
unfolding next_has count_trailing_zeros
next-bits k zero rest h = omega arith
next-bits zero (suc left) rest h = absurd (omega arith)
next-bits (suc k) (suc left) rest h =
    ap (λ (x : ℕ). next_has x rest (suc left)) m ∙ go (rest % 2) refl (mod-lt rest (omega arith)) (next-bits k left (rest / 2) (omega arith))
  where
    m : suc left - 1 ≡ left
    m = omega arith

    z : left - left ≡ 0
    z = omega arith

    go : (d : ℕ) → rest % 2 ≡ d → d < 2 → next_has (left - 1) (rest / 2) left ≡ left - count_trailing_zeros k (rest / 2)
        → cond (has rest (left - left)) (suc left) (next_has left rest left) ≡ suc left - under (rest % 2) (count_trailing_zeros k (rest / 2))
    go zero e l ih = rw (z, has_first rest, e) (next_one left rest ∙ ih ∙ omega arith)
    go (suc zero) e l ih = rw (z, has_first rest, e) (omega arith)
    go (suc (suc d)) e l ih = absurd (omega arith)

-- of the places that are left the first ones that the domain lacks are passed over
next-zeros : (slots domain left : ℕ) → left ≤ slots + 1 → slots ≤ 24 → next_has slots domain left ≡ left - count_trailing_zeros 64 (domain / 2 ^ (slots + 1 - left))
unfolding next_has
next-zeros slots domain zero h few = omega arith
next-zeros slots domain (suc left) h few =
    let e : slots ≡ left + (slots - left) = omega arith in
    let p : slots + 1 - suc left ≡ slots - left = omega arith in
    let m : suc left - 1 ≡ left = omega arith in
    rw p
    (ap (λ (k : ℕ). next_has k domain (suc left)) e
    ∙ next_shift (slots - left) left domain (suc left) (omega arith)
    ∙ ap (λ (k : ℕ). next_has k (domain / 2 ^ (slots - left)) (suc left)) (sym m)
    ∙ next-bits 64 (suc left) (domain / 2 ^ (slots - left)) (omega (arith, few, h)))

-- ---- the ways through next_open

module _ (slots domain left : ℕ) where
  -- with more slots than a day has no place is found
  pub next-wide : 24 < slots → 0 ≡ next_within slots domain left
  unfolding next_within
  next-wide h = sym (rw (lt-leb slots 24 h))

  -- with more left than there are places no place is found
  pub next_past : slots + 1 < left → 0 ≡ next_within slots domain left
  unfolding next_within
  next_past h = sym (rw (lt-leb left (slots + 1) h, and-false (leb slots 24)))

  -- else the next place is the next that the domain has
  pub next-within : slots ≤ 24 → left ≤ slots + 1 → next_within slots domain left ≡ next_has slots domain left
  unfolding next_within
  next-within few h = rw (le-leb slots 24 few, le-leb left (slots + 1) h)

  -- the next place is the first member of what is left
  pub next-found : slots ≤ 24 → left ≤ slots + 1 → {next : ℕ} → next ≡ left - count_trailing_zeros 64 (domain / 2 ^ (slots + 1 - left)) → next ≡ next_within slots domain left
  next-found few h n = n ∙ sym (next-within few h ∙ next-zeros slots domain left h few)

-- the places that are open by the rows in front, by how many these are
pub opened-front : (counts : Counts) (mins maxs optional rows tables plan : List ℕ) (choice : ℕ) (sums fills : List ℕ) (domain : ℕ) {front decided places : ℕ} → front ≡ decided
    → places ≡ opened_at counts mins maxs optional (take front rows) tables plan choice sums fills domain
    → places ≡ opened_at counts mins maxs optional (take decided rows) tables plan choice sums fills domain
opened-front counts mins maxs optional rows tables plan choice sums fills domain e p =
    p ∙ ap (λ (n : ℕ). opened_at counts mins maxs optional (take n rows) tables plan choice sums fills domain) e

-- the rest of a list from a place on
pub rest-whole : (l : List ℕ) (n : ℕ) → n ≤ length l → take (length l - n) (drop n l) ≡ drop n l
rest-whole l n h = take_all (length l - n) (drop n l) (rw length-drop (omega arith))
