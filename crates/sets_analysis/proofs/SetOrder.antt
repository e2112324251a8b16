-- Sets of choices: one set within another of the same size is that set.
use mathlib.Core.Path.{◌≡◌, refl}
use mathlib.Core.Bool.{Bool, true, false}
use Prim.Native.Nat.{ℕ, zero, suc, ◌≤◌, ◌<◌}
use native.Mathlib.Decide.{ℕ_discrete}
use native.Mathlib.Nat.{not-suc-le-zero}
use native.Mathlib.Omega.{arith}
use Rattle.base_lists.specs.Below.{one, count_below}
use Rattle.base_lists.proofs.Below.{and_both, and_left, and_right}
use Rattle.base_choice_sets.specs.Sets.{has, size_of, within, same_choices}
use Rattle.base_choice_sets.proofs.SetLaws.{within_has, has_within, within_refl, count_mono}

-- a test that follows from another counts no less
one_grows : (a b : Bool) → (a ≡ true → b ≡ true) → one a ≤ one b
unfolding one
one_grows true b h = rw (h refl) (omega arith)
one_grows false b h = omega arith

-- a test that counts no less than one that holds, holds
one-back : (a b : Bool) → one b ≤ one a → b ≡ true → a ≡ true
unfolding one
one-back true b h e = refl
one-back false true h e = absurd (not-suc-le-zero h)
one-back false false h e = e

-- where the wider test counts no more, it is the same test
pub count-back : (n : ℕ) (p q : ℕ → Bool) → ((c : ℕ) → c < n → p c ≡ true → q c ≡ true) → count_below n q ≤ count_below n p
    → (c : ℕ) → c < n → q c ≡ true → p c ≡ true
unfolding count_below
count-back zero p q h l c k e = absurd (not-suc-le-zero k)
count-back (suc n) p q h l c k e =
    let below : count_below n p ≤ count_below n q = count_mono n p q (λ i m. h i (omega arith)) in
    let last : one (p n) ≤ one (q n) = one_grows (p n) (q n) (h n (omega arith)) in
    elim (ℕ_discrete c n) [
      | yes d ↦ rw d (one-back (p n) (q n) (omega arith) (rw d at e))
      | no d ↦ count-back n p q (λ i m. h i (omega arith)) (omega arith) c (omega arith) e
    ]

-- a set within another that has no more members: the other is within it too
pub same_size : (a b : ℕ) → within a b ≡ true → size_of b ≤ size_of a → within b a ≡ true
unfolding size_of
same_size a b h l = has_within b a (count-back 64 (has a) (has b) (within_has a b h) l)

-- two sets, each within the other, have the same choices
pub same-both : (a b : ℕ) → within a b ≡ true → within b a ≡ true → same_choices a b ≡ true
unfolding same_choices
same-both a b h k = and_both (within a b) (within b a) h k

-- of two sets with the same choices the first is within the second
pub same-there : (a b : ℕ) → same_choices a b ≡ true → within a b ≡ true
unfolding same_choices
same-there a b h = and_left (within a b) (within b a) h

-- of two sets with the same choices the second is within the first
pub same_back : (a b : ℕ) → same_choices a b ≡ true → within b a ≡ true
unfolding same_choices
same_back a b h = and_right (within a b) (within b a) h

-- every set has the choices of itself
pub same_self : (a : ℕ) → same_choices a a ≡ true
same_self a = same-both a a (within_refl a) (within_refl a)

-- sets with the same choices have them either way round
pub same-turned : (a b : ℕ) → same_choices a b ≡ true → same_choices b a ≡ true
same-turned a b h = same-both b a (same_back a b h) (same-there a b h)
