-- A number below 2^n is the set of the choices that it has; what is done to the numbers is done to the sets.
use mathlib.Core.Path.{◌≡◌, refl, sym, ◌∙◌, ap, ap₂}
use mathlib.Core.Bool.{Bool, true, false, ◌&&◌, ◌||◌, not, cond, false≢true}
use mathlib.Core.Logic.{⊎_elim}
use Prim.Native.Nat.{ℕ, zero, suc, ◌+◌, ◌-◌, ◌*◌, ◌/◌, ◌%◌, ◌^◌, ◌≤◌, ◌<◌}
use native.Mathlib.Nat.{add_comm, mod-lt, eq-or-lt_of_le, le_of_suc-le-suc, not-suc-le-zero, one-mul, zero-mul, pow-suc, mul_comm, two-mul, add-zero, zero-add, lt_of_lt_of_le, div-eq_of_lt}
use native.Mathlib.Numerals.{add-one}
use native.Mathlib.Omega.{arith}
use borrow.Author.Tests.{ltb-true, ltb-false, eq-eqb, ne_eqb, eqb-true}
use lib.Bits.{bit_and, bit_or, and_block, or_block, and_mask}
use lib.Count.{ones, ones_cat}
use lib.Dec.{eqb, ltb}
use lib.Pow.{field, mod-mod-pow, high, low, split, pow_pos, pow_mono, shr_lt, shl_exact}
use Rattle.base_lists.specs.Below.{one, all_below, count_below}
use Rattle.base_lists.proofs.Below.{all-each, each_all, and_both}
use Rattle.base_lists.proofs.CountBelow.{count_le}
use Rattle.base_lists.proofs.Sums.{all_ext}
use Rattle.base_choice_sets.specs.Sets.{has, set_of, size_of, within, same_choices, with_choice, meets}

-- two tests are one where each follows from the other
pub same_test : (a b : Bool) → (a ≡ true → b ≡ true) → (b ≡ true → a ≡ true) → a ≡ b
same_test true b f g = sym (f refl)
same_test false true f g = absurd (false≢true (g refl))
same_test false false f g = refl

-- ---- which choices a number has

-- the first n bits tell of the choices below n
pub has-mod : (m n c : ℕ) → c < n → has (m % 2 ^ n) c ≡ has m c
unfolding has
has-mod m n c h =
    let j = n - c - 1 in
    let e : n ≡ (j + 1) + c = omega arith in
    ap (λ (x : ℕ). eqb (m % 2 ^ x / 2 ^ c % 2) 1) e
    ∙ ap (λ (x : ℕ). eqb (x % 2) 1) (field m (j + 1) c)
    ∙ ap (λ (x : ℕ). eqb x 1) (mod-mod-pow (m / 2 ^ c) j 1)

-- a number below 2^n has no choice from n on
pub has-past : (m n c : ℕ) → m < 2 ^ n → n ≤ c → has m c ≡ false
unfolding has
has-past m n c h l =
    let e : m / 2 ^ c ≡ 0 = div-eq_of_lt (lt_of_lt_of_le h (pow_mono l)) in
    ap (λ (x : ℕ). eqb (x % 2) 1) e

-- ---- the set of the choices that pass a test

one_lt : (b : Bool) → one b < 2
unfolding one
one_lt true = omega arith
one_lt false = omega arith

-- a set of the choices below n + 1 is bit n on top of that of the choices below n
set_more : (n : ℕ) (p : ℕ → Bool) → set_of (suc n) p ≡ one (p n) * 2 ^ n + set_of n p
unfolding set_of
set_more n p = add_comm (set_of n p) (one (p n) * 2 ^ n)

pub set_lt : (n : ℕ) (p : ℕ → Bool) → set_of n p < 2 ^ n
unfolding set_of one
set_lt zero p = omega arith
set_lt (suc n) p = go (p n) (set_lt n p)
  where
    twice : 2 ^ suc n ≡ 2 ^ n + 2 ^ n
    twice = pow-suc 2 n ∙ mul_comm (2 ^ n) 2 ∙ two-mul (2 ^ n)

    go : (b : Bool) → set_of n p < 2 ^ n → set_of n p + one b * 2 ^ n < 2 ^ suc n
    go true h = rw (one-mul (2 ^ n), twice) (omega arith)
    go false h = rw (zero-mul (2 ^ n), twice) (omega arith)

-- a bit as a number of one bit
bit_odd : (b : Bool) → eqb (one b % 2) 1 ≡ b
unfolding one
bit_odd true = refl
bit_odd false = refl

bit_back : (x : ℕ) → x < 2 ^ 1 → x ≡ one (eqb (x % 2) 1)
unfolding one
bit_back zero l = refl
bit_back (suc zero) l = refl
bit_back (suc (suc x)) l = absurd (not-suc-le-zero (le_of_suc-le-suc (le_of_suc-le-suc l)))

bit-and : (a b : Bool) → bit_and (one a) (one b) ≡ one (a && b)
unfolding one
bit-and true true = refl
bit-and true false = refl
bit-and false true = refl
bit-and false false = refl

bit-or : (a b : Bool) → bit_or (one a) (one b) ≡ one (a || b)
unfolding one
bit-or true true = refl
bit-or true false = refl
bit-or false true = refl
bit-or false false = refl

bit_ones : (b : Bool) → ones (one b) ≡ one b
unfolding one ones lib.Count.ones_in
bit_ones true = refl
bit_ones false = refl

-- the set of the choices that pass a test has those
pub has-set : (n : ℕ) (p : ℕ → Bool) (c : ℕ) → c < n → has (set_of n p) c ≡ p c
unfolding has
has-set zero p c h = absurd (not-suc-le-zero h)
has-set (suc n) p c h =
    ⊎_elim (λ e. rw e top) (λ l. under l ∙ has-set n p c l)
    (eq-or-lt_of_le (le_of_suc-le-suc h))
  where
    top : has (set_of (suc n) p) n ≡ p n
    top =
        ap (λ (x : ℕ). eqb (x % 2) 1) (ap (λ (x : ℕ). x / 2 ^ n) (set_more n p) ∙ high (one (p n)) n (set_lt n p))
        ∙ bit_odd (p n)

    under : c < n → has (set_of (suc n) p) c ≡ has (set_of n p) c
    under l =
        sym (has-mod (set_of (suc n) p) n c l)
        ∙ ap (λ (x : ℕ). has x c) (ap (λ (x : ℕ). x % 2 ^ n) (set_more n p) ∙ low (one (p n)) n (set_lt n p))

-- the set of the choices below n that pass a test has none from n on
pub has-set-past : (n : ℕ) (p : ℕ → Bool) (c : ℕ) → n ≤ c → has (set_of n p) c ≡ false
has-set-past n p c h = has-past (set_of n p) n c (set_lt n p) h

-- tests that agree below n have one set
pub set_ext : (n : ℕ) (p q : ℕ → Bool) → ((c : ℕ) → c < n → p c ≡ q c) → set_of n p ≡ set_of n q
unfolding set_of
set_ext zero p q h = refl
set_ext (suc n) p q h = rw (set_ext n p q (λ c l. h c (omega arith)), h n (omega arith))

-- a number below 2^n is the set of what it has
pub set_back : (n m : ℕ) → m < 2 ^ n → m ≡ set_of n (has m)
unfolding set_of has
set_back zero m h = omega arith
set_back (suc n) m h =
    sym (split m n)
    ∙ ap₂ (λ (x y : ℕ). x * 2 ^ n + y) (bit_back (m / 2 ^ n) (shr_lt 1 n (rw (add_comm 1 n, add-one n) h)))
    (set_back n (m % 2 ^ n) (mod-lt m (pow_pos n)) ∙ set_ext n (has (m % 2 ^ n)) (has m) (has-mod m n))
    ∙ sym (set_more n (has m))

-- ---- two sets

-- the bits of both sets are the choices of both
pub and_set : (n : ℕ) (p q : ℕ → Bool) → bit_and (set_of n p) (set_of n q) ≡ set_of n λ c. p c && q c
unfolding set_of
and_set zero p q = refl
and_set (suc n) p q =
    ap₂ (λ (x y : ℕ). bit_and x y) (set_more n p) (set_more n q)
    ∙ and_block n (one (p n)) (one (q n)) (set_of n p) (set_of n q) (set_lt n p) (set_lt n q)
    ∙ ap₂ (λ (x y : ℕ). x * 2 ^ n + y) (bit-and (p n) (q n)) (and_set n p q)
    ∙ sym (set_more n λ c. p c && q c)

-- the bits of either set are the choices of either
pub or_set : (n : ℕ) (p q : ℕ → Bool) → bit_or (set_of n p) (set_of n q) ≡ set_of n λ c. p c || q c
unfolding set_of
or_set zero p q = refl
or_set (suc n) p q =
    ap₂ (λ (x y : ℕ). bit_or x y) (set_more n p) (set_more n q)
    ∙ or_block n (one (p n)) (one (q n)) (set_of n p) (set_of n q) (set_lt n p) (set_lt n q)
    ∙ ap₂ (λ (x y : ℕ). x * 2 ^ n + y) (bit-or (p n) (q n)) (or_set n p q)
    ∙ sym (set_more n λ c. p c || q c)

-- as many bits of a set are 1 as choices pass its test
pub ones-set : (n : ℕ) (p : ℕ → Bool) → ones (set_of n p) ≡ count_below n p
unfolding set_of count_below ones lib.Count.ones_in
ones-set zero p = refl
ones-set (suc n) p =
    ap ones (set_more n p)
    ∙ ones_cat n (one (p n)) (set_of n p) (set_lt n p)
    ∙ ap₂ (λ (x y : ℕ). x + y) (bit_ones (p n)) (ones-set n p)
    ∙ add_comm (one (p n)) (count_below n p)

-- the number 2^c is the set of the one choice c
pub pow-set : (n c : ℕ) → c < n → 2 ^ c ≡ set_of n λ k. eqb k c
unfolding set_of one
pow-set zero c h = absurd (not-suc-le-zero h)
pow-set (suc n) c h =
    ⊎_elim (λ e. rw e (sym (rw (eq-eqb n n refl, one-mul (2 ^ n), none n n (omega arith)) (zero-add (2 ^ n)))))
    (λ l. rw (ne_eqb n c (λ e. omega arith), zero-mul (2 ^ n)) (pow-set n c l ∙ sym (add-zero _)))
    (eq-or-lt_of_le (le_of_suc-le-suc h))
  where
    none : (m c : ℕ) → m ≤ c → set_of m (λ k. eqb k c) ≡ 0
    none zero c l = refl
    none (suc m) c l = rw (ne_eqb m c (λ e. omega arith), zero-mul (2 ^ m), none m c (omega arith))

-- a set with nothing from n on is that of the choices below n
pub set_wider : (n m : ℕ) (p : ℕ → Bool) → ((c : ℕ) → n ≤ c → p c ≡ false) → n ≤ m → set_of m p ≡ set_of n p
unfolding set_of one
set_wider n zero p h l = let e : n ≡ 0 = omega arith in rw e
set_wider n (suc m) p h l =
    ⊎_elim (λ e. rw e) (λ k. rw (h m (le_of_suc-le-suc k), zero-mul (2 ^ m)) (add-zero _ ∙ set_wider n m p h (le_of_suc-le-suc k)))
    (eq-or-lt_of_le l)

pub set-none : (p : ℕ → Bool) → set_of 0 p ≡ 0
unfolding set_of
set-none p = refl

-- a test that no choice passes has the empty set
pub set-empty : (n : ℕ) (p : ℕ → Bool) → ((c : ℕ) → c < n → p c ≡ false) → set_of n p ≡ 0
unfolding set_of one
set-empty zero p h = refl
set-empty (suc n) p h = rw (h n (omega arith), zero-mul (2 ^ n), set-empty n p (λ c l. h c (omega arith)))

-- ---- the functions' laws

-- two answers agree
abbrev agree : Bool → Bool → Bool
agree a b = cond a b (not b)

agree_same : (a b : Bool) → agree a b ≡ true → a ≡ b
agree_same true true h = refl
agree_same true false h = sym h
agree_same false true h = h
agree_same false false h = refl

same-agree : (a : Bool) → agree a a ≡ true
same-agree true = refl
same-agree false = refl

-- two sets are one number where every choice is in both or in neither
eqb-set : (n : ℕ) (p q : ℕ → Bool) → eqb (set_of n p) (set_of n q) ≡ all_below n λ c. agree (p c) (q c)
eqb-set n p q =
    same_test (eqb (set_of n p) (set_of n q)) (all_below n λ c. agree (p c) (q c))
    (λ t. each_all n (λ c. agree (p c) (q c)) λ c l. both c l (eqb-true (set_of n p) (set_of n q) t))
    (λ t. eq-eqb (set_of n p) (set_of n q) (set_ext n p q λ c l. agree_same (p c) (q c) (all-each n (λ c. agree (p c) (q c)) t c l)))
  where
    both : (c : ℕ) → c < n → set_of n p ≡ set_of n q → agree (p c) (q c) ≡ true
    both c l e =
        let f : p c ≡ q c = sym (has-set n p c l) ∙ ap (λ (x : ℕ). has x c) e ∙ has-set n q c l in
        rw f (same-agree (q c))

-- two numbers are equal exactly if every choice is in both or in neither
eqb-has : (n a b : ℕ) → a < 2 ^ n → b < 2 ^ n → eqb a b ≡ all_below n λ c. agree (has a c) (has b c)
eqb-has n a b h k = ap₂ (λ (x y : ℕ). eqb x y) (set_back n a h) (set_back n b k) ∙ eqb-set n (has a) (has b)

-- the bits of both numbers are the set of the choices that both have
pub and_has : (n a b : ℕ) → a < 2 ^ n → b < 2 ^ n → bit_and a b ≡ set_of n λ c. has a c && has b c
and_has n a b h k = ap₂ (λ (x y : ℕ). bit_and x y) (set_back n a h) (set_back n b k) ∙ and_set n (has a) (has b)

-- `(outer & inner) == inner` tells whether the inner set is within the outer
pub within_law : (inner outer : ℕ) → inner < 2 ^ 64 → outer < 2 ^ 64 → eqb (bit_and outer inner) inner ≡ within inner outer
unfolding within
within_law inner outer h k = below 64 h k
  where
    bits : (a b : Bool) → agree (a && b) b ≡ (not b || a)
    bits true true = refl
    bits true false = refl
    bits false true = refl
    bits false false = refl

    below : (n : ℕ) → inner < 2 ^ n → outer < 2 ^ n → eqb (bit_and outer inner) inner ≡ all_below n λ c. not (has inner c) || has outer c
    below n h k =
        ap₂ (λ (x y : ℕ). eqb x y) (and_has n outer inner k h) (set_back n inner h)
        ∙ eqb-set n (λ c. has outer c && has inner c) (has inner)
        ∙ all_ext n _ _ λ c l. bits (has outer c) (has inner c)

-- every choice agrees where each set is within the other
all-agree : (n : ℕ) (p q : ℕ → Bool) → all_below n (λ c. agree (p c) (q c)) ≡ (all_below n (λ c. not (p c) || q c) && all_below n (λ c. not (q c) || p c))
unfolding all_below
all-agree zero p q = refl
all-agree (suc n) p q = ap (λ (x : Bool). x && agree (p n) (q n)) (all-agree n p q) ∙ bits (all_below n (λ c. not (p c) || q c)) (all_below n (λ c. not (q c) || p c)) (p n) (q n)
  where
    bits : (x y a b : Bool) → ((x && y) && agree a b) ≡ ((x && (not a || b)) && (y && (not b || a)))
    bits true true true true = refl
    bits true true true false = refl
    bits true true false true = refl
    bits true true false false = refl
    bits true false true true = refl
    bits true false true false = refl
    bits true false false true = refl
    bits true false false false = refl
    bits false y a b = refl

-- `one == other` tells whether two sets have the same choices
pub same_law : (a b : ℕ) → a < 2 ^ 64 → b < 2 ^ 64 → eqb a b ≡ same_choices a b
unfolding same_choices within
same_law a b h k = below 64 h k
  where
    below : (n : ℕ) → a < 2 ^ n → b < 2 ^ n → eqb a b ≡ (all_below n (λ c. not (has a c) || has b c) && all_below n (λ c. not (has b c) || has a c))
    below n h k = eqb-has n a b h k ∙ all-agree n (has a) (has b)

-- `(one & other) != 0` tells whether two sets meet
pub meets_law : (a b : ℕ) → a < 2 ^ 64 → b < 2 ^ 64 → not (eqb (bit_and a b) 0) ≡ meets a b
unfolding meets
meets_law a b h k = ap not (below 64 h k)
  where
    bits : (a : Bool) → agree a false ≡ not a
    bits true = refl
    bits false = refl

    below : (n : ℕ) → a < 2 ^ n → b < 2 ^ n → eqb (bit_and a b) 0 ≡ all_below n λ c. not (has a c && has b c)
    below n h k =
        ap₂ (λ (x y : ℕ). eqb x y) (and_has n a b h k) (sym (set_wider 0 n (λ c. false) (λ c l. refl) (omega arith) ∙ set-none (λ c. false)))
        ∙ eqb-set n (λ c. has a c && has b c) (λ c. false)
        ∙ all_ext n _ _ λ c l. bits (has a c && has b c)

-- `set | (1 << choice)` is the set with one choice more
pub with_law : (set choice : ℕ) → set < 2 ^ 64 → choice < 64 → bit_or set (2 ^ choice) ≡ with_choice set choice
unfolding with_choice
with_law set choice h k = below 64 h k
  where
    below : (n : ℕ) → set < 2 ^ n → choice < n → bit_or set (2 ^ choice) ≡ set_of n λ c. has set c || eqb c choice
    below n h k =
        ap₂ (λ (x y : ℕ). bit_or x y) (set_back n set h) (pow-set n choice k) ∙ or_set n (has set) (λ c. eqb c choice)

-- a choice past 63 adds nothing to a set
pub with_past : (set choice : ℕ) → set < 2 ^ 64 → 64 ≤ choice → set ≡ with_choice set choice
unfolding with_choice
with_past set choice h k = below 64 h k
  where
    below : (n : ℕ) → set < 2 ^ n → n ≤ choice → set ≡ set_of n λ c. has set c || eqb c choice
    below n h k =
        set_back n set h
        ∙ set_ext n _ _ λ c l. rw (ne_eqb c choice (λ e. omega arith)) (sym (or_false (has set c)))
      where
        or_false : (b : Bool) → (b || false) ≡ b
        or_false true = refl
        or_false false = refl

-- `(set >> choice) & 1 == 1` tells whether the choice is in the set
pub member_law : (set choice : ℕ) → eqb (bit_and (set / 2 ^ choice) 1) 1 ≡ has set choice
unfolding has
member_law set choice = ap (λ (x : ℕ). eqb x 1) (and_mask (set / 2 ^ choice) 1)

-- `count_ones` is the size of the set
pub size_law : (set : ℕ) → set < 2 ^ 64 → ones set ≡ size_of set
unfolding size_of
size_law set h = below 64 h
  where
    below : (n : ℕ) → set < 2 ^ n → ones set ≡ count_below n (has set)
    below n h = ap ones (set_back n set h) ∙ ones-set n (has set)

-- ---- laws for those above: a set by the choices that it has

-- a set made choice by choice: the next one is added
pub with_next : (n : ℕ) (p : ℕ → Bool) → n < 64 → p n ≡ true → with_choice (set_of n p) n ≡ set_of (n + 1) p
unfolding with_choice
with_next n p h t = below 64 h
  where
    past : (c : ℕ) → n + 1 ≤ c → (has (set_of n p) c || eqb c n) ≡ false
    past c l = rw (has-set-past n p c (omega arith), ne_eqb c n (λ e. omega arith))

    at : (c : ℕ) → c < n + 1 → (has (set_of n p) c || eqb c n) ≡ p c
    at c l =
        ⊎_elim (λ (e : c ≡ n). rw (e, has-set-past n p n (omega arith), eq-eqb n n refl, t))
        (λ (k : c < n). rw (has-set n p c k, ne_eqb c n (λ e. omega arith)) (or_false (p c)))
        (eq-or-lt_of_le (le_of_suc-le-suc (rw (add-one n) at l)))
      where
        or_false : (b : Bool) → (b || false) ≡ b
        or_false true = refl
        or_false false = refl

    below : (m : ℕ) → n < m → set_of m (λ c. has (set_of n p) c || eqb c n) ≡ set_of (n + 1) p
    below m h =
        set_wider (n + 1) m (λ c. has (set_of n p) c || eqb c n) past (omega arith)
        ∙ set_ext (n + 1) (λ c. has (set_of n p) c || eqb c n) p at

-- a set made choice by choice: the next one is not in it
pub set_skip : (n : ℕ) (p : ℕ → Bool) → p n ≡ false → set_of (n + 1) p ≡ set_of n p
unfolding set_of one
set_skip n p t = rw (add-one n, t, zero-mul (2 ^ n)) (add-zero (set_of n p))

-- a set with one choice more, or as it was
pub if_out : (set choice : ℕ) (inside : Bool) → inside ≡ false → set ≡ cond inside (with_choice set choice) set
if_out set choice inside t = rw t

pub if_in : (set choice result : ℕ) (inside : Bool) → inside ≡ true → result ≡ with_choice set choice → result ≡ cond inside (with_choice set choice) set
if_in set choice result inside t e = rw t e

-- a set made choice by choice: none is in it at the start, and the next one is added if it passes
pub set-start : (p : ℕ → Bool) → 0 ≡ set_of 0 p
set-start p = sym (set-none p)

pub set-step : (n : ℕ) (p : ℕ → Bool) (set result : ℕ) (inside : Bool) → n < 64 → set ≡ set_of n p → inside ≡ p n → result ≡ cond inside (with_choice set n) set → result ≡ set_of (n + 1) p
set-step n p set result inside h s t r = r ∙ go inside t
  where
    go : (b : Bool) → b ≡ p n → cond b (with_choice set n) set ≡ set_of (n + 1) p
    go true u = rw s (with_next n p h (sym u))
    go false u = s ∙ sym (set_skip n p (sym u))

-- what an inner set has the outer one has
pub within_has : (inner outer : ℕ) → within inner outer ≡ true → (c : ℕ) → c < 64 → has inner c ≡ true → has outer c ≡ true
unfolding within
within_has inner outer t c l h =
    ap (λ (x : Bool). not x || has outer c) (sym h) ∙ all-each 64 (λ c. not (has inner c) || has outer c) t c l

-- a set is within one that has all it has
pub has_within : (inner outer : ℕ) → ((c : ℕ) → c < 64 → has inner c ≡ true → has outer c ≡ true) → within inner outer ≡ true
unfolding within
has_within inner outer f = each_all 64 (λ c. not (has inner c) || has outer c) λ c l. go c (has inner c) refl (f c l)
  where
    go : (c : ℕ) (b : Bool) → has inner c ≡ b → (has inner c ≡ true → has outer c ≡ true) → (not b || has outer c) ≡ true
    go c true e g = g e
    go c false e g = refl

pub within_refl : (set : ℕ) → within set set ≡ true
within_refl set = has_within set set λ c l h. h

pub within_trans : (a b c : ℕ) → within a b ≡ true → within b c ≡ true → within a c ≡ true
within_trans a b c h k = has_within a c λ x l t. within_has b c k x l (within_has a b h x l t)

-- sets within each other are one number
pub within_both : (a b : ℕ) → a < 2 ^ 64 → b < 2 ^ 64 → within a b ≡ true → within b a ≡ true → a ≡ b
unfolding same_choices
within_both a b h k t u = eqb-true a b (same_law a b h k ∙ and_both (within a b) (within b a) t u)

one_mono : (x y : Bool) → (x ≡ true → y ≡ true) → one x ≤ one y
unfolding one
one_mono true y f = rw (f refl) (omega arith)
one_mono false y f = omega arith

-- where what passes one test passes another, no fewer pass that other
pub count_mono : (n : ℕ) (p q : ℕ → Bool) → ((c : ℕ) → c < n → p c ≡ true → q c ≡ true) → count_below n p ≤ count_below n q
unfolding count_below
count_mono zero p q f = omega arith
count_mono (suc n) p q f =
    omega (arith, count_mono n p q (λ c l. f c (omega arith)), one_mono (p n) (q n) (f n (omega arith)))

-- an inner set is no larger
pub within-size : (a b : ℕ) → within a b ≡ true → size_of a ≤ size_of b
unfolding size_of
within-size a b t = count_mono 64 (has a) (has b) (within_has a b t)

-- no set has over 64 choices
pub size_le : (set : ℕ) → size_of set ≤ 64
unfolding size_of
size_le set = count_le 64 (has set)

-- no bit under 64 is shifted out of a word
pub bit_fits : (c : ℕ) → c < 64 → (1 * 2 ^ c) % 18446744073709551616 ≡ 2 ^ c
bit_fits c h = shl_exact {a = 1} 1 c 64 (omega arith) (omega arith) ∙ one-mul (2 ^ c)

-- ---- bridges: sets given by tests, told by the tests

implied : (a b : Bool) → (not a || b) ≡ true → a ≡ true → b ≡ true
implied true b h e = h
implied false b h e = absurd (false≢true e)

implies : (a b : Bool) → (a ≡ true → b ≡ true) → (not a || b) ≡ true
implies true b f = f refl
implies false b f = refl

-- one set by a test is within another exactly where whatever passes its test passes the other's
pub within-set : (n : ℕ) (p q : ℕ → Bool) → n ≤ 64 → within (set_of n p) (set_of n q) ≡ all_below n λ c. not (p c) || q c
within-set n p q h =
    same_test (within (set_of n p) (set_of n q)) (all_below n λ c. not (p c) || q c)
    (λ t. each_all n (λ c. not (p c) || q c) λ c l. implies (p c) (q c) λ e. sym (has-set n q c l) ∙ within_has (set_of n p) (set_of n q) t c (omega arith) (has-set n p c l ∙ e))
    (λ t. has_within (set_of n p) (set_of n q) λ c l e. there t c e (ltb c n) refl)
  where
    there : (all_below n λ c. not (p c) || q c) ≡ true → (c : ℕ) → has (set_of n p) c ≡ true → (b : Bool) → ltb c n ≡ b → has (set_of n q) c ≡ true
    there t c e true k =
        let l : c < n = ltb-true c n k in
        has-set n q c l ∙ implied (p c) (q c) (all-each n (λ c. not (p c) || q c) t c l) (sym (has-set n p c l) ∙ e)
    there t c e false k = absurd (false≢true (sym (has-set-past n p c (ltb-false c n k)) ∙ e))

-- as many choices are in the set as pass its test
pub size-set : (n : ℕ) (p : ℕ → Bool) → n ≤ 64 → size_of (set_of n p) ≡ count_below n p
size-set n p h =
    sym (size_law (set_of n p) (lt_of_lt_of_le (set_lt n p) (pow_mono h))) ∙ ones-set n p

-- a set of choices below 64 is a word
pub set-fits : (n : ℕ) (p : ℕ → Bool) → n ≤ 64 → set_of n p < 2 ^ 64
set-fits n p h = lt_of_lt_of_le (set_lt n p) (pow_mono h)
