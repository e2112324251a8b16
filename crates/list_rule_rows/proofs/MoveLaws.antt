-- Slots moved by a shift: which places the moved set has, and that it is what the other side can face.
use mathlib.Core.Path.{◌≡◌, refl, sym, ◌∙◌, ap, ap₂}
use mathlib.Core.Bool.{Bool, true, false, ◌&&◌, ◌||◌, cond}
use Prim.Native.Nat.{ℕ, suc, ◌+◌, ◌-◌, ◌*◌, ◌/◌, ◌%◌, ◌^◌, ◌≤◌, ◌<◌}
use native.Mathlib.Nat.{add_comm, mul_assoc, mod-lt, lt_of_le_of_lt}
use native.Mathlib.Omega.{arith}
use borrow.Author.Tests.{lt-ltb, le-ltb, ltb-true, ltb-false, le-leb, lt-leb, leb-true, leb-false, eqb-true}
use lib.Bits.{bit_and, bit_or, shifted_even}
use lib.Dec.{eqb, ltb, leb}
use lib.Pow.{pow-add, pow_pos, shl-shr, shr-shr, shr_le}
use Rattle.base_choice_sets.specs.Sets.{has, set_of}
use Rattle.base_choice_sets.proofs.SetLaws.{has-mod, has-past, has-set, set_ext, set_back, set_wider, set-none, set_lt, and_set, or_set}
use Rattle.list_domains.specs.steps.Domains.{first_domain, only_place, both_places}
use Rattle.list_domains.proofs.PlaceLaws.{first-without}
use Rattle.list_rule_rows.specs.steps.RowRules.{facing, facing_places}
use Rattle.list_rule_rows.specs.steps.Moves.{slots_up, slots_down, with_omission}

-- ---- shifted numbers

-- shifted up, a number has c where it had c - by
has-up : (a by c : ℕ) → has (a * 2 ^ by) c ≡ (leb by c && has a (c - by))
unfolding has
has-up a by c = go (leb by c) refl
  where
    go : (b : Bool) → leb by c ≡ b → eqb (a * 2 ^ by / 2 ^ c % 2) 1 ≡ (leb by c && eqb (a / 2 ^ (c - by) % 2) 1)
    go true t =
        let h : by ≤ c = leb-true by c t in
        let e : c ≡ by + (c - by) = omega arith in
        let f : a * 2 ^ by / 2 ^ c ≡ a / 2 ^ (c - by) =
        ap (λ (x : ℕ). a * 2 ^ by / 2 ^ x) e
        ∙ sym (shr-shr (a * 2 ^ by) by (c - by))
        ∙ ap (λ (x : ℕ). x / 2 ^ (c - by)) (shl-shr a by)
        in
        rw t (ap (λ (x : ℕ). eqb (x % 2) 1) f)
    go false t =
        let h : c < by = leb-false by c t in
        let k = by - c - 1 in
        let e : by ≡ suc k + c = omega arith in
        let f : a * 2 ^ by / 2 ^ c ≡ a * 2 ^ suc k =
        ap (λ (x : ℕ). a * 2 ^ x / 2 ^ c) e
        ∙ ap (λ (x : ℕ). a * x / 2 ^ c) (pow-add 2 (suc k) c)
        ∙ ap (λ (x : ℕ). x / 2 ^ c) (sym (mul_assoc a (2 ^ suc k) (2 ^ c)))
        ∙ shl-shr (a * 2 ^ suc k) c
        in
        rw t (ap (λ (x : ℕ). eqb (x % 2) 1) f ∙ ap (λ (x : ℕ). eqb x 1) (shifted_even a k))

-- shifted down, a number has c where it had c + by
has-down : (a by c : ℕ) → has (a / 2 ^ by) c ≡ has a (c + by)
unfolding has
has-down a by c = ap (λ (x : ℕ). eqb (x % 2) 1) (shr-shr a by c ∙ ap (λ (x : ℕ). a / 2 ^ x) (add_comm by c))

-- a test that nothing passes has the empty set
empty : (n : ℕ) (p : ℕ → Bool) → ((c : ℕ) → c < n → p c ≡ false) → 0 ≡ set_of n p
empty n p h = sym (set_ext n p (λ c. false) h ∙ set_wider 0 n (λ c. false) (λ c l. refl) (omega arith) ∙ set-none (λ c. false))

and_false : (a : Bool) → (a && false) ≡ false
and_false true = refl
and_false false = refl

and_swap : (a b : Bool) → (a && b) ≡ (b && a)
and_swap true b = sym (and_true b)
  where
    and_true : (a : Bool) → (a && true) ≡ a
    and_true true = refl
    and_true false = refl
and_swap false b = sym (and_false b)

-- ---- the functions' laws

-- every slot, without omission
every-slot : (slots every : ℕ) → every ≡ first_domain slots 0 → every ≡ set_of 64 λ p. ltb p slots
every-slot slots every e = e ∙ sym (first-without slots 0 (set_of 64 λ p. ltb p slots) refl λ f. absurd (omega (arith, f)))

-- `(domain << by) & every`
pub up_law : (slots domain by every : ℕ) → every ≡ first_domain slots 0
    → bit_and ((domain * 2 ^ by) % 18446744073709551616) every ≡ slots_up slots domain by
unfolding slots_up
up_law slots domain by every e = ap (bit_and ((domain * 2 ^ by) % 18446744073709551616)) (every-slot slots every e) ∙ below 64
  where
    below : (n : ℕ) → bit_and ((domain * 2 ^ by) % 2 ^ n) (set_of n λ p. ltb p slots) ≡ set_of n λ p. ltb p slots && (leb by p && has domain (p - by))
    below n =
        ap (λ (x : ℕ). bit_and x (set_of n λ p. ltb p slots)) (set_back n ((domain * 2 ^ by) % 2 ^ n) (mod-lt (domain * 2 ^ by) (pow_pos n)))
        ∙ and_set n (has ((domain * 2 ^ by) % 2 ^ n)) (λ p. ltb p slots)
        ∙ set_ext n _ _ λ c l. rw (has-mod (domain * 2 ^ by) n c l, has-up domain by c) (and_swap (leb by c && has domain (c - by)) (ltb c slots))

-- moved past every place
pub up-past : (slots domain by : ℕ) → 64 ≤ by → 0 ≡ slots_up slots domain by
unfolding slots_up
up-past slots domain by h = below 64 h
  where
    below : (n : ℕ) → n ≤ by → 0 ≡ set_of n λ p. ltb p slots && (leb by p && has domain (p - by))
    below n h = empty n _ λ c l. rw (lt-leb by c (omega arith)) (and_false (ltb c slots))

-- `(domain & every) >> by`
pub down_law : (slots domain by every : ℕ) → domain < 2 ^ 64 → every ≡ first_domain slots 0
    → bit_and domain every / 2 ^ by ≡ slots_down slots domain by
unfolding slots_down
down_law slots domain by every h e = ap (λ (x : ℕ). bit_and domain x / 2 ^ by) (every-slot slots every e) ∙ below 64 h
  where
    below : (n : ℕ) → domain < 2 ^ n → bit_and domain (set_of n λ p. ltb p slots) / 2 ^ by ≡ set_of n λ p. ltb (p + by) slots && has domain (p + by)
    below n h =
        ap (λ (x : ℕ). x / 2 ^ by)
        (ap (λ (x : ℕ). bit_and x (set_of n λ p. ltb p slots)) (set_back n domain h) ∙ and_set n (has domain) (λ p. ltb p slots))
        ∙ set_back n (x / 2 ^ by) (lt_of_le_of_lt (shr_le x by) (set_lt n λ p. has domain p && ltb p slots))
        ∙ set_ext n _ _ λ c l. has-down x by c ∙ at (c + by) (ltb (c + by) n) refl
      where
        x : ℕ
        x = set_of n λ p. has domain p && ltb p slots

        at : (c : ℕ) (b : Bool) → ltb c n ≡ b → has x c ≡ (ltb c slots && has domain c)
        at c true t = has-set n (λ p. has domain p && ltb p slots) c (ltb-true c n t) ∙ and_swap (has domain c) (ltb c slots)
        at c false t =
            let l : n ≤ c = ltb-false c n t in
            has-past x n c (set_lt n λ p. has domain p && ltb p slots) l
            ∙ sym (rw (has-past domain n c h l) (and_false (ltb c slots)))

pub down-past : (slots domain by : ℕ) → domain < 2 ^ 64 → 64 ≤ by → 0 ≡ slots_down slots domain by
unfolding slots_down
down-past slots domain by h k = below 64 h k
  where
    below : (n : ℕ) → domain < 2 ^ n → n ≤ by → 0 ≡ set_of n λ p. ltb (p + by) slots && has domain (p + by)
    below n h k = empty n _ λ c l. rw (has-past domain n (c + by) h (omega arith)) (and_false (ltb (c + by) slots))

-- `moved | (domain & only)`
pub omission_law : (slots moved domain only : ℕ) → moved < 2 ^ 64 → domain < 2 ^ 64 → only ≡ only_place slots
    → bit_or moved (bit_and domain only) ≡ with_omission slots moved domain
unfolding with_omission only_place
omission_law slots moved domain only h k e = ap (λ (x : ℕ). bit_or moved (bit_and domain x)) e ∙ below 64 h k
  where
    below : (n : ℕ) → moved < 2 ^ n → domain < 2 ^ n
        → bit_or moved (bit_and domain (set_of n λ p. eqb p slots)) ≡ set_of n λ p. has moved p || (eqb p slots && has domain p)
    below n h k =
        ap₂ (λ (x y : ℕ). bit_or x y) (set_back n moved h)
        (ap (λ (x : ℕ). bit_and x (set_of n λ p. eqb p slots)) (set_back n domain k) ∙ and_set n (has domain) (λ p. eqb p slots))
        ∙ or_set n (has moved) (λ p. has domain p && eqb p slots)
        ∙ set_ext n _ _ λ c l. ap (λ (b : Bool). has moved c || b) (and_swap (has domain c) (eqb c slots))

-- ---- what the other side can face

-- a slot lower by down - up
face_up : (slots other up down c : ℕ) → up ≤ down → (ltb c slots && (leb (down - up) c && has other (c - (down - up)))) ≡ facing slots other up down c
unfolding facing
face_up slots other up down c h = go (ltb c slots) (leb (down - up) c) refl refl
  where
    go : (a b : Bool) → ltb c slots ≡ a → leb (down - up) c ≡ b
        → (ltb c slots && (leb (down - up) c && has other (c - (down - up)))) ≡ (ltb c slots && leb down (c + up) && ltb (c + up - down) slots && has other (c + up - down))
    go false b s t = rw s
    go true false s t =
        let k : c < down - up = leb-false (down - up) c t in
        rw (s, t, lt-leb down (c + up) (omega arith))
    go true true s t =
        let k : down - up ≤ c = leb-true (down - up) c t in
        let m : c < slots = ltb-true c slots s in
        let e : c + up - down ≡ c - (down - up) = omega arith in
        rw (e, s, t, le-leb down (c + up) (omega arith), lt-ltb (c - (down - up)) slots (omega arith))

-- a slot higher by up - down
face_down : (slots other up down c : ℕ) → down < up → (ltb (c + (up - down)) slots && has other (c + (up - down))) ≡ facing slots other up down c
unfolding facing
face_down slots other up down c h = go (ltb (c + (up - down)) slots) refl
  where
    e : c + up - down ≡ c + (up - down)
    e = omega arith

    go : (a : Bool) → ltb (c + (up - down)) slots ≡ a
        → (ltb (c + (up - down)) slots && has other (c + (up - down))) ≡ (ltb c slots && leb down (c + up) && ltb (c + up - down) slots && has other (c + up - down))
    go true s =
        let m : c + (up - down) < slots = ltb-true (c + (up - down)) slots s in
        rw (e, s, le-leb down (c + up) (omega arith), lt-ltb c slots (omega arith))
    go false s = rw (e, s) (sym (ap (λ (b : Bool). b && has other (c + (up - down))) (and_false (ltb c slots && leb down (c + up)))))

-- omission is no slot
past : (slots other up down c : ℕ) → c ≡ slots → facing slots other up down c ≡ false
unfolding facing
past slots other up down c e = rw (le-ltb c slots (omega (arith, e)))

-- both sides' places, where the moved slots are those that face
faced : (slots domain other up down moved : ℕ) → ((c : ℕ) → c < 64 → has moved c ≡ facing slots other up down c)
    → both_places domain (with_omission slots moved other) ≡ facing_places slots domain other up down
unfolding both_places with_omission facing_places
faced slots domain other up down moved h = below 64 h
  where
    or_false : (b : Bool) → (b || false) ≡ b
    or_false true = refl
    or_false false = refl

    at : (c : ℕ) → has moved c ≡ facing slots other up down c → (b : Bool) → eqb c slots ≡ b
        → (has moved c || (eqb c slots && has other c)) ≡ cond (eqb c slots) (has other slots) (facing slots other up down c)
    at c e true t =
        let q : c ≡ slots = eqb-true c slots t in
        rw (t, e, past slots other up down c q) (ap (has other) q)
    at c e false t = rw (t, e) (or_false (facing slots other up down c))

    below : (n : ℕ) → ((c : ℕ) → c < n → has moved c ≡ facing slots other up down c)
        → set_of n (λ p. has domain p && has (set_of n λ p. has moved p || (eqb p slots && has other p)) p) ≡ set_of n λ p. has domain p && cond (eqb p slots) (has other slots) (facing slots other up down p)
    below n h =
        set_ext n _ _ λ c l. ap (λ (b : Bool). has domain c && b)
        (has-set n (λ p. has moved p || (eqb p slots && has other p)) c l ∙ at c (h c l) (eqb c slots) refl)

-- the places that the other side can face, moved up or moved down
pub faced-up : (slots domain other up down moved joined : ℕ) → up ≤ down → moved ≡ slots_up slots other (down - up) → joined ≡ with_omission slots moved other
    → both_places domain joined ≡ facing_places slots domain other up down
unfolding slots_up
faced-up slots domain other up down moved joined h e j =
    ap (both_places domain) j
    ∙ faced slots domain other up down moved λ c l.
    ap (λ (x : ℕ). has x c) e
    ∙ has-set 64 (λ p. ltb p slots && (leb (down - up) p && has other (p - (down - up)))) c l
    ∙ face_up slots other up down c h

pub faced-down : (slots domain other up down moved joined : ℕ) → down < up → moved ≡ slots_down slots other (up - down) → joined ≡ with_omission slots moved other
    → both_places domain joined ≡ facing_places slots domain other up down
unfolding slots_down
faced-down slots domain other up down moved joined h e j =
    ap (both_places domain) j
    ∙ faced slots domain other up down moved λ c l.
    ap (λ (x : ℕ). has x c) e
    ∙ has-set 64 (λ p. ltb (p + (up - down)) slots && has other (p + (up - down))) c l
    ∙ face_down slots other up down c h
