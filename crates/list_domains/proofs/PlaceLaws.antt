-- What the code does to a domain's number is done to its set of places.
use mathlib.Core.Path.{◌≡◌, refl, sym, ◌∙◌, ap, ap₂}
use mathlib.Core.Bool.{Bool, true, false, ◌&&◌, ◌||◌, not, cond}
use Prim.Native.Nat.{ℕ, zero, suc, ◌+◌, ◌-◌, ◌*◌, ◌%◌, ◌^◌, ◌≤◌, ◌<◌}
use native.Mathlib.Nat.{add_comm, zero-mul, add-zero, one-mul, pow-suc, mul_comm, two-mul, mod_self, zero-add}
use native.Mathlib.Decide.{ℕ_discrete}
use native.Mathlib.Omega.{arith}
use borrow.Author.Tests.{lt-ltb, le-ltb, le-leb, lt-leb, leb-true, leb-false, eq-eqb, ne_eqb}
use lib.Bits.{bit_and, bit_xor, and_block, and_mask, xor_block}
use lib.Count.{ones}
use lib.Dec.{eqb, ltb, leb}
use lib.Pow.{pow_pos}
use Rattle.base_lists.specs.Below.{one, count_below}
use Rattle.base_choice_sets.specs.Sets.{has, set_of, size_of, with_choice}
use Rattle.base_choice_sets.proofs.SetLaws.{has-set, set_lt, set_ext, set_back, set_wider, set-none, set-empty, and_set, ones-set, size_law, pow-set, bit_fits}
use Rattle.list_domains.specs.steps.Domains.{first_domain, only_place, kept_places, both_places, settled, in_one_slot}

-- ---- one place

-- `1 << place`
pub only_law : (place : ℕ) → place < 64 → (1 * 2 ^ place) % 18446744073709551616 ≡ only_place place
unfolding only_place
only_law place h = bit_fits place h ∙ pow-set 64 place h

-- no place is past 63
pub only_past : (place : ℕ) → 64 ≤ place → 0 ≡ only_place place
unfolding only_place
only_past place h = below 64 h
  where
    below : (n : ℕ) → n ≤ place → 0 ≡ set_of n λ p. eqb p place
    below n h = sym (set-empty n (λ p. eqb p place) λ c l. ne_eqb c place (λ e. omega arith))

-- ---- two domains

-- `one & other`
pub both_law : (a b : ℕ) → a < 2 ^ 64 → b < 2 ^ 64 → bit_and a b ≡ both_places a b
unfolding both_places
both_law a b h k = below 64 h k
  where
    below : (n : ℕ) → a < 2 ^ n → b < 2 ^ n → bit_and a b ≡ set_of n λ c. has a c && has b c
    below n h k = ap₂ (λ (x y : ℕ). bit_and x y) (set_back n a h) (set_back n b k) ∙ and_set n (has a) (has b)

bit-xor : (a b : Bool) → bit_xor (one a) (one b) ≡ one (cond a (not b) b)
unfolding one
bit-xor true true = refl
bit-xor true false = refl
bit-xor false true = refl
bit-xor false false = refl

set_more : (n : ℕ) (p : ℕ → Bool) → set_of (suc n) p ≡ one (p n) * 2 ^ n + set_of n p
unfolding set_of
set_more n p = add_comm (set_of n p) (one (p n) * 2 ^ n)

count-suc : (n : ℕ) (p : ℕ → Bool) → count_below (suc n) p ≡ count_below n p + one (p n)
unfolding count_below
count-suc n p = refl

-- the places of one alone
xor_set : (n : ℕ) (p q : ℕ → Bool) → bit_xor (set_of n p) (set_of n q) ≡ set_of n λ c. cond (p c) (not (q c)) (q c)
unfolding set_of
xor_set zero p q = refl
xor_set (suc n) p q =
    ap₂ (λ (x y : ℕ). bit_xor x y) (set_more n p) (set_more n q)
    ∙ xor_block n (one (p n)) (one (q n)) (set_of n p) (set_of n q) (set_lt n p) (set_lt n q)
    ∙ ap₂ (λ (x y : ℕ). x * 2 ^ n + y) (bit-xor (p n) (q n)) (xor_set n p q)
    ∙ sym (set_more n λ c. cond (p c) (not (q c)) (q c))

-- `one ^ (one & other)`
pub minus_law : (n a : ℕ) (q : ℕ → Bool) → a < 2 ^ n → bit_xor a (bit_and a (set_of n q)) ≡ set_of n λ c. has a c && not (q c)
minus_law n a q h =
    ap (λ (x : ℕ). bit_xor x (bit_and x (set_of n q))) (set_back n a h)
    ∙ ap (bit_xor (set_of n (has a))) (and_set n (has a) q)
    ∙ xor_set n (has a) (λ c. has a c && q c)
    ∙ set_ext n _ _ λ c l. bits (has a c) (q c)
  where
    bits : (a b : Bool) → cond a (not (a && b)) (a && b) ≡ (a && not b)
    bits true true = refl
    bits true false = refl
    bits false b = refl

-- ---- what is left of a domain

cond_same : (t : Bool) (b : Bool) → cond t b b ≡ b
cond_same true b = refl
cond_same false b = refl

and_true : (a : Bool) → (a && true) ≡ a
and_true true = refl
and_true false = refl

and_false : (a : Bool) → (a && false) ≡ false
and_false true = refl
and_false false = refl

-- a choice that may stand anywhere keeps its domain
pub kept-all : (domain slot : ℕ) → domain < 2 ^ 64 → domain ≡ kept_places domain slot true true
unfolding kept_places
kept-all domain slot h = below 64 h
  where
    below : (n : ℕ) → domain < 2 ^ n → domain ≡ set_of n λ p. has domain p && cond (eqb p slot) true true
    below n h = set_back n domain h ∙ set_ext n _ _ λ c l. rw (cond_same (eqb c slot) true) (sym (and_true (has domain c)))

-- a choice that may stand in the slot alone keeps at most the slot
pub kept_in : (domain slot only : ℕ) → domain < 2 ^ 64 → only ≡ only_place slot → bit_and domain only ≡ kept_places domain slot true false
unfolding kept_places only_place
kept_in domain slot only h e = ap (bit_and domain) e ∙ below 64 h
  where
    bits : (a b : Bool) → (a && b) ≡ (a && cond b true false)
    bits a true = refl
    bits a false = refl

    below : (n : ℕ) → domain < 2 ^ n → bit_and domain (set_of n λ p. eqb p slot) ≡ set_of n λ p. has domain p && cond (eqb p slot) true false
    below n h =
        ap (λ (x : ℕ). bit_and x (set_of n λ p. eqb p slot)) (set_back n domain h)
        ∙ and_set n (has domain) (λ p. eqb p slot)
        ∙ set_ext n _ _ λ c l. bits (has domain c) (eqb c slot)

-- a choice that may stand anywhere but in the slot keeps its domain without the slot
pub kept_out : (domain slot only : ℕ) → domain < 2 ^ 64 → only ≡ only_place slot → bit_xor domain (bit_and domain only) ≡ kept_places domain slot false true
unfolding kept_places only_place
kept_out domain slot only h e = ap (λ (x : ℕ). bit_xor domain (bit_and domain x)) e ∙ below 64 h
  where
    bits : (a b : Bool) → (a && not b) ≡ (a && cond b false true)
    bits a true = refl
    bits a false = refl

    below : (n : ℕ) → domain < 2 ^ n → bit_xor domain (bit_and domain (set_of n λ p. eqb p slot)) ≡ set_of n λ p. has domain p && cond (eqb p slot) false true
    below n h = minus_law n domain (λ p. eqb p slot) h ∙ set_ext n _ _ λ c l. bits (has domain c) (eqb c slot)

-- a choice that may stand nowhere keeps no place
pub kept-none : (domain slot : ℕ) → 0 ≡ kept_places domain slot false false
unfolding kept_places
kept-none domain slot = below 64
  where
    below : (n : ℕ) → 0 ≡ set_of n λ p. has domain p && cond (eqb p slot) false false
    below n = sym (set-empty n _ λ c l. rw (cond_same (eqb c slot) false) (and_false (has domain c)))

-- ---- one place left, one slot

-- a set that no place passes is the number 0
count_none : (n : ℕ) (p : ℕ → Bool) → count_below n p ≡ 0 → set_of n p ≡ 0
unfolding set_of count_below one
count_none zero p e = refl
count_none (suc n) p e = go (p n) refl e (count_none n p)
  where
    go : (b : Bool) → p n ≡ b → count_below n p + one (p n) ≡ 0 → (count_below n p ≡ 0 → set_of n p ≡ 0) → set_of n p + one (p n) * 2 ^ n ≡ 0
    go true t e ih = absurd (omega (arith, ap (λ (b : Bool). count_below n p + one b) (sym t) ∙ e))
    go false t e ih =
        let c : count_below n p ≡ 0 = sym (add-zero (count_below n p)) ∙ ap (λ (b : Bool). count_below n p + one b) (sym t) ∙ e in
        rw (t, zero-mul (2 ^ n), ih c)

-- of the number 0 no place passes
none-count : (n : ℕ) (p : ℕ → Bool) → set_of n p ≡ 0 → count_below n p ≡ 0
unfolding ones
none-count n p e = sym (ones-set n p) ∙ ap ones e

-- a number and the one before it share no place exactly if it has one place alone
lone : (n : ℕ) (p : ℕ → Bool) → (set_of n p ≡ 0 → ⊥) → eqb (bit_and (set_of n p) (set_of n p - 1)) 0 ≡ leb (count_below n p) 1
unfolding one
lone zero p h = absurd (h (set-none p))
lone (suc n) p h = go (p n) refl (lone n p)
  where
    r : ℕ
    r = set_of n p

    top : p n ≡ true → Dec (r ≡ 0) → eqb (bit_and (set_of (suc n) p) (set_of (suc n) p - 1)) 0 ≡ leb (count_below (suc n) p) 1
    top t (yes e) =
        let d : set_of (suc n) p ≡ 2 ^ n = set_more n p ∙ rw (t, one-mul (2 ^ n), e) (add-zero (2 ^ n)) in
        let c : count_below (suc n) p ≡ 1 = count-suc n p ∙ rw (t, none-count n p e) in
        rw (d, c, and_mask (2 ^ n) n, mod_self (2 ^ n))
    top t (no e) =
        let d : set_of (suc n) p ≡ 1 * 2 ^ n + r = set_more n p ∙ rw t in
        let l : r < 2 ^ n = set_lt n p in
        let g : (1 * 2 ^ n + r) - 1 ≡ 1 * 2 ^ n + (r - 1) = rw (one-mul (2 ^ n)) (less (2 ^ n) r e) in
        let a : bit_and (set_of (suc n) p) (set_of (suc n) p - 1) ≡ 1 * 2 ^ n + bit_and r (r - 1) =
        ap (λ (x : ℕ). bit_and x (x - 1)) d
        ∙ ap (bit_and (1 * 2 ^ n + r)) g
        ∙ and_block n 1 1 r (r - 1) l (omega arith)
        in
        let m : count_below (suc n) p ≡ count_below n p + 1 = count-suc n p ∙ rw t in
        rw (a, one-mul (2 ^ n), ne_eqb (2 ^ n + bit_and r (r - 1)) 0 (λ z. absurd (omega (arith, z, pow_pos n))), m)
        (sym (lt-leb (count_below n p + 1) 1 (some (count_below n p) λ z. e (count_none n p z))))
      where
        less : (x y : ℕ) → (y ≡ 0 → ⊥) → x + y - 1 ≡ x + (y - 1)
        less x zero f = absurd (f refl)
        less x (suc y) f = omega arith

        some : (x : ℕ) → (x ≡ 0 → ⊥) → 1 < x + 1
        some zero f = absurd (f refl)
        some (suc x) f = omega arith

    go : (b : Bool) → p n ≡ b → ((set_of n p ≡ 0 → ⊥) → eqb (bit_and (set_of n p) (set_of n p - 1)) 0 ≡ leb (count_below n p) 1)
        → eqb (bit_and (set_of (suc n) p) (set_of (suc n) p - 1)) 0 ≡ leb (count_below (suc n) p) 1
    go true t ih = top t (ℕ_discrete r 0)
    go false t ih =
        let d : set_of (suc n) p ≡ set_of n p = set_more n p ∙ rw (t, zero-mul (2 ^ n)) (zero-add (set_of n p)) in
        let c : count_below (suc n) p ≡ count_below n p = count-suc n p ∙ rw t (add-zero (count_below n p)) in
        rw (d, c) (ih λ e. h (d ∙ e))

-- `domain & (domain - 1) == 0`
pub settled_law : (domain : ℕ) → domain < 2 ^ 64 → (domain ≡ 0 → ⊥) → eqb (bit_and domain (domain - 1)) 0 ≡ settled domain
unfolding settled size_of
settled_law domain h n = below 64 h
  where
    below : (m : ℕ) → domain < 2 ^ m → eqb (bit_and domain (domain - 1)) 0 ≡ leb (count_below m (has domain)) 1
    below m h =
        let e : domain ≡ set_of m (has domain) = set_back m domain h in
        ap (λ (x : ℕ). eqb (bit_and x (x - 1)) 0) e ∙ lone m (has domain) λ z. n (e ∙ z)

-- a domain with nothing left is settled, and in no slot
pub settled-none : (domain : ℕ) → domain < 2 ^ 64 → domain ≡ 0 → true ≡ settled domain
unfolding settled ones
settled-none domain h e =
    let s : size_of domain ≡ 0 = sym (size_law domain h) ∙ ap ones e in
    sym (le-leb (size_of domain) 1 (omega (arith, s)))

pub empty-not-one : (slots domain : ℕ) → domain < 2 ^ 64 → domain ≡ 0 → false ≡ in_one_slot slots domain
unfolding in_one_slot ones
empty-not-one slots domain h e =
    let s : size_of domain ≡ 0 = sym (size_law domain h) ∙ ap ones e in
    sym (simp (ne_eqb (size_of domain) 1 (λ f. absurd (omega (arith, s, f)))))

pub not-one : (slots domain : ℕ) → settled domain ≡ false → false ≡ in_one_slot slots domain
unfolding in_one_slot settled
not-one slots domain t =
    let s : 1 < size_of domain = leb-false (size_of domain) 1 t in
    sym (simp (ne_eqb (size_of domain) 1 (λ f. absurd (omega (arith, s, f)))))

-- a set of none is 0
size_none : (domain : ℕ) → domain < 2 ^ 64 → size_of domain ≡ 0 → domain ≡ 0
unfolding size_of
size_none domain h e = below 64 h e
  where
    below : (m : ℕ) → domain < 2 ^ m → count_below m (has domain) ≡ 0 → domain ≡ 0
    below m h z = set_back m domain h ∙ count_none m (has domain) z

pub one-by : (slots domain : ℕ) → domain < 2 ^ 64 → (domain ≡ 0 → ⊥) → settled domain ≡ true → not (has domain slots) ≡ in_one_slot slots domain
unfolding in_one_slot settled
one-by slots domain h n t = sym (simp (eq-eqb (size_of domain) 1 (size_is (size_of domain) (leb-true (size_of domain) 1 t) λ z. n (size_none domain h z))))
  where
    size_is : (x : ℕ) → x ≤ 1 → (x ≡ 0 → ⊥) → x ≡ 1
    size_is zero l f = absurd (f refl)
    size_is (suc x) l f = omega arith

-- ---- every slot

set_full : (n : ℕ) → set_of n (λ c. true) ≡ 2 ^ n - 1
unfolding set_of one
set_full zero = refl
set_full (suc n) = rw (set_full n, one-mul (2 ^ n), pow-suc 2 n, mul_comm (2 ^ n) 2, two-mul (2 ^ n)) (omega (arith, pow_pos n))

-- the slots below a number, under any larger one
every_set : (n slots : ℕ) → slots ≤ n → set_of n (λ p. ltb p slots) ≡ 2 ^ slots - 1
every_set n slots h =
    set_wider slots n (λ p. ltb p slots) (λ c l. le-ltb c slots l) h
    ∙ set_ext slots (λ p. ltb p slots) (λ c. true) (λ c l. lt-ltb c slots l)
    ∙ set_full slots

-- `(1 << slots) - 1`
pub every_law : (slots : ℕ) → slots < 64 → (1 * 2 ^ slots) % 18446744073709551616 - 1 ≡ set_of 64 λ p. ltb p slots
every_law slots h = ap (λ (x : ℕ). x - 1) (bit_fits slots h) ∙ sym (every_set 64 slots (omega arith))

pub every-past : (slots : ℕ) → 64 ≤ slots → 18446744073709551615 ≡ set_of 64 λ p. ltb p slots
every-past slots h = sym (below 64 h)
  where
    below : (n : ℕ) → n ≤ slots → set_of n (λ p. ltb p slots) ≡ 2 ^ n - 1
    below n h = set_ext n (λ p. ltb p slots) (λ c. true) (λ c l. lt-ltb c slots (omega arith)) ∙ set_full n

-- a first domain without omission, and with it
pub first-without : (slots flag every : ℕ) → every ≡ set_of 64 (λ p. ltb p slots) → (flag ≡ 1 → ⊥) → every ≡ first_domain slots flag
unfolding first_domain
first-without slots flag every e n = e ∙ below 64
  where
    bits : (a b : Bool) → a ≡ (a || (b && false))
    bits true b = refl
    bits false true = refl
    bits false false = refl

    below : (m : ℕ) → set_of m (λ p. ltb p slots) ≡ set_of m λ p. ltb p slots || (eqb p slots && eqb flag 1)
    below m = set_ext m _ _ λ c l. rw (ne_eqb flag 1 n) (bits (ltb c slots) (eqb c slots))

pub first_with : (slots flag every : ℕ) → every ≡ set_of 64 (λ p. ltb p slots) → flag ≡ 1 → with_choice every slots ≡ first_domain slots flag
unfolding first_domain with_choice
first_with slots flag every e t = ap (λ (x : ℕ). set_of 64 λ c. has x c || eqb c slots) e ∙ below 64
  where
    below : (m : ℕ) → set_of m (λ c. has (set_of m λ p. ltb p slots) c || eqb c slots) ≡ set_of m λ p. ltb p slots || (eqb p slots && eqb flag 1)
    below m = set_ext m _ _ λ c l. rw (has-set m (λ p. ltb p slots) c l, eq-eqb flag 1 t, and_true (eqb c slots))

-- what the two answers are is known by now
pub kept_by : (domain slot : ℕ) (stands leaves s l : Bool) (x : ℕ) → stands ≡ s → leaves ≡ l → x ≡ kept_places domain slot s l → x ≡ kept_places domain slot stands leaves
kept_by domain slot stands leaves s l x e f h = h ∙ ap₂ (λ (a b : Bool). kept_places domain slot a b) (sym e) (sym f)
