-- One law for each way through the functions of names: the sets of slots that rows tell from others.
use mathlib.Core.Path.{◌≡◌, refl, sym, ◌∙◌, ap, ap₂}
use mathlib.Core.Bool.{Bool, true, false, ◌&&◌, ◌||◌, not}
use mathlib.Core.List.{List, [], ◌∷◌, ◌++◌}
use Prim.Native.Nat.{ℕ, ◌+◌, ◌-◌, ◌≤◌, ◌<◌, ◌^◌, min}
use native.Mathlib.Numerals.{add-one}
use native.Mathlib.Omega.{arith}
use borrow.Author.Tests.{lt-ltb, le-ltb, eq-eqb, ne_eqb, eqb-true}
use lib.Bits.{bit_or}
use lib.Dec.{eqb, ltb}
use lib.ListN.{length, get_or, take, length-take}
use lib.Seq.{get_or-take, take-suc, take-length}
use Rattle.base_lists.specs.Keep.{any_of}
use Rattle.base_lists.proofs.Below as below_laws
use Rattle.day_rows.specs.Row.{row_of}
use Rattle.day_rows.specs.declared.row.Row.{Row}
use Rattle.plan_check.specs.Plan.{slot_of, omitted}
use Rattle.plan_check.proofs.PlanLaws.{slot-past}
use Rattle.base_choice_sets.specs.Sets.{has, set_of}
use Rattle.base_choice_sets.proofs.SetLaws.{same_test, has-set, set_ext, set_back, set-empty, or_set}
use Rattle.list_domains.specs.steps.Domains.{only_place}
use Rattle.list_domains.proofs.PlaceLaws.{every-past}
use Rattle.list_twins.specs.steps.Twins.{offset_names, row_names, named}
use Rattle.list_twins.specs.steps.Alike.{either_of, asked_of}

-- ---- tests and sets

-- two tests of equality are one where each equation follows from the other
pub same-equal : (a b c d : ℕ) → (a ≡ b → c ≡ d) → (c ≡ d → a ≡ b) → eqb a b ≡ eqb c d
same-equal a b c d f g =
    same_test (eqb a b) (eqb c d) (λ t. eq-eqb c d (f (eqb-true a b t))) (λ t. eq-eqb a b (g (eqb-true c d t)))

eqb_flip : (a b : ℕ) → eqb a b ≡ eqb b a
eqb_flip a b = same-equal a b b a sym sym

-- a test that no slot passes has the empty set
none_pass : (n : ℕ) (p : ℕ → Bool) → ((c : ℕ) → p c ≡ false) → 0 ≡ set_of n p
none_pass n p h = sym (set-empty n p λ c l. h c)

-- `one | other`
pub either_law : (a b : ℕ) → a < 2 ^ 64 → b < 2 ^ 64 → bit_or a b ≡ either_of a b
unfolding either_of
either_law a b h k = under 64 h k
  where
    under : (n : ℕ) → a < 2 ^ n → b < 2 ^ n → bit_or a b ≡ set_of n λ c. has a c || has b c
    under n h k = ap₂ (λ (x y : ℕ). bit_or x y) (set_back n a h) (set_back n b k) ∙ or_set n (has a) (has b)

-- sets of slots by their tests, joined
pub either-set : (a b : ℕ) (p q : ℕ → Bool) → a ≡ set_of 64 p → b ≡ set_of 64 q → either_of a b ≡ set_of 64 λ slot. p slot || q slot
unfolding either_of
either-set a b p q e f = rw (e, f) (under 64)
  where
    under : (n : ℕ) → set_of n (λ slot. has (set_of n p) slot || has (set_of n q) slot) ≡ set_of n λ slot. p slot || q slot
    under n =
        set_ext n (λ slot. has (set_of n p) slot || has (set_of n q) slot) (λ slot. p slot || q slot)
        λ c l. ap₂ (λ (a b : Bool). a || b) (has-set n p c l) (has-set n q c l)

-- every slot
pub every-slot : 18446744073709551615 ≡ set_of 64 λ slot. true
every-slot = every-past 64 (omega arith) ∙ set_ext 64 (λ p. ltb p 64) (λ slot. true) (λ c l. lt-ltb c 64 l)

-- one slot alone, as rows say it
pub only_set : (place read only : ℕ) → read ≡ place → only ≡ only_place read → only ≡ set_of 64 (eqb place)
unfolding only_place
only_set place read only r e = e ∙ ap only_place r ∙ under 64
  where
    under : (n : ℕ) → set_of n (λ p. eqb p place) ≡ set_of n (eqb place)
    under n = set_ext n (λ p. eqb p place) (eqb place) λ c l. eqb_flip c place

-- ---- which choices have their places, and where they stand

module _ (choice : ℕ) (plan : List ℕ) (of : ℕ) where
  pub later : choice ≤ of → false ≡ ltb of (length (take choice plan))
  later h = sym (le-ltb of (length (take choice plan)) (rw length-take (omega arith)))

  pub placed : of < choice → ltb of (length plan) ≡ ltb of (length (take choice plan))
  placed h =
      rw length-take (below_laws.same_test of (length plan) of (min choice (length plan)) (λ l. omega (arith, h, l)) (λ l. omega (arith, h, l)))

  pub stands-later : choice ≤ of → 255 ≡ slot_of (take choice plan) of
  stands-later h = slot-past (take choice plan) of (rw length-take (omega arith))

  pub stands-placed : of < choice → slot_of plan of ≡ slot_of (take choice plan) of
  unfolding slot_of
  stands-placed h = sym (get_or-take choice plan of 255 h)

-- ---- kind 5

module _ (place up down : ℕ) where
  pub asked-omitted : place ≡ 255 → 0 ≡ asked_of place up down
  unfolding asked_of
  asked-omitted e = none_pass 64 _ λ c. rw (eq-eqb place 255 e)

  -- the numbers as the code has widened them
  module _ (p u d : ℕ) (is-place : p ≡ place) (is_up : u ≡ up) (is_down : d ≡ down) (n : place ≡ 255 → ⊥) where
    pub asked-below : p + u < d → 0 ≡ asked_of place up down
    unfolding asked_of
    asked-below h =
        none_pass 64 _ λ c. rw (ne_eqb place 255 n) (ne_eqb (c + down) (place + up) λ e. absurd (omega (arith, e, h, is-place, is_up, is_down)))

    pub asked-slot : (slot : ℕ) → d ≤ p + u → slot ≡ only_place (p + u - d) → slot ≡ asked_of place up down
    unfolding asked_of only_place
    asked-slot slot h e = e ∙ under 64
      where
        under : (m : ℕ) → set_of m (λ q. eqb q (p + u - d)) ≡ set_of m λ slot. not (eqb place 255) && eqb (slot + down) (place + up)
        under m =
            set_ext m (λ q. eqb q (p + u - d)) (λ slot. not (eqb place 255) && eqb (slot + down) (place + up))
            λ c l. rw (ne_eqb place 255 n)
            (same-equal c (p + u - d) (c + down) (place + up) (λ f. omega (arith, f, h, is-place, is_up, is_down)) (λ f. omega (arith, f, h, is-place, is_up, is_down)))

-- ---- kinds 3 and 4

pub both-places : (start : List ℕ) (left right read_left read_right place_left place_right one other : ℕ) → read_left ≡ left → read_right ≡ right
    → place_left ≡ slot_of start read_left → place_right ≡ slot_of start read_right → one ≡ only_place place_left → other ≡ only_place place_right
    → either_of one other ≡ set_of 64 λ slot. eqb (slot_of start left) slot || eqb (slot_of start right) slot
both-places start left right read_left read_right place_left place_right one other l r e f g h =
    either-set one other (eqb (slot_of start left)) (eqb (slot_of start right))
    (only_set (slot_of start left) place_left one (e ∙ ap (slot_of start) l) g)
    (only_set (slot_of start right) place_right other (f ∙ ap (slot_of start) r) h)

module _ (start : List ℕ) (row : Row) where
  pub offset-left : (left place extra : ℕ) (known : Bool) → left ≡ row.left → place ≡ slot_of start left → extra ≡ row.extra → known ≡ ltb left (length start)
      → known ≡ true → asked_of place extra 32768 ≡ set_of 64 (offset_names start row)
  unfolding asked_of offset_names omitted
  offset-left left place extra known r p x k t =
      let u : ltb row.left (length start) ≡ true = ap (λ (n : ℕ). ltb n (length start)) (sym r) ∙ sym k ∙ t in
      rw (p, x, r)
      (set_ext 64 (λ slot. not (eqb (slot_of start row.left) 255) && eqb (slot + 32768) (slot_of start row.left + row.extra)) (offset_names start row) λ c l. rw u)

  module _ (left : ℕ) (first : Bool) (is-left : left ≡ row.left) (asks-left : first ≡ ltb left (length start)) (no_left : first ≡ false) where
    not_left : ltb row.left (length start) ≡ false
    not_left = ap (λ (n : ℕ). ltb n (length start)) (sym is-left) ∙ sym asks-left ∙ no_left

    pub offset-right : (right place extra : ℕ) (known : Bool) → right ≡ row.right → place ≡ slot_of start right → extra ≡ row.extra → known ≡ ltb right (length start)
        → known ≡ true → asked_of place 32768 extra ≡ set_of 64 (offset_names start row)
    unfolding asked_of offset_names omitted
    offset-right right place extra known r p x k t =
        let u : ltb row.right (length start) ≡ true = ap (λ (n : ℕ). ltb n (length start)) (sym r) ∙ sym k ∙ t in
        rw (p, x, r)
        (set_ext 64 (λ slot. not (eqb (slot_of start row.right) 255) && eqb (slot + row.extra) (slot_of start row.right + 32768)) (offset_names start row)
        λ c l. rw (not_left, u, eqb_flip (c + row.extra) (slot_of start row.right + 32768)))

    pub offset_neither : (right : ℕ) (known : Bool) → right ≡ row.right → known ≡ ltb right (length start) → known ≡ false
        → set_of 64 (λ slot. true) ≡ set_of 64 (offset_names start row)
    unfolding offset_names
    offset_neither right known r k t =
        let u : ltb row.right (length start) ≡ false = ap (λ (n : ℕ). ltb n (length start)) (sym r) ∙ sym k ∙ t in
        set_ext 64 (λ slot. true) (offset_names start row) λ c l. rw (not_left, u)

  -- ---- by the kind

  names-by : (p : ℕ → Bool) → ((slot : ℕ) → p slot ≡ row_names start row slot) → set_of 64 p ≡ set_of 64 (row_names start row)
  names-by p f = set_ext 64 p (row_names start row) λ c l. f c

  pub names_in_slot : row.kind ≡ 1 → set_of 64 (eqb row.right) ≡ set_of 64 (row_names start row)
  unfolding row_names
  names_in_slot e = names-by (eqb row.right) λ slot. rw e

  pub names-not_in_slot : row.kind ≡ 2 → set_of 64 (eqb row.right) ≡ set_of 64 (row_names start row)
  unfolding row_names
  names-not_in_slot e = names-by (eqb row.right) λ slot. rw e

  pub names-same-slot : row.kind ≡ 3 → set_of 64 (λ slot. eqb (slot_of start row.left) slot || eqb (slot_of start row.right) slot) ≡ set_of 64 (row_names start row)
  unfolding row_names
  names-same-slot e = names-by (λ slot. eqb (slot_of start row.left) slot || eqb (slot_of start row.right) slot) λ slot. rw e

  pub names-not-same-slot : row.kind ≡ 4 → set_of 64 (λ slot. eqb (slot_of start row.left) slot || eqb (slot_of start row.right) slot) ≡ set_of 64 (row_names start row)
  unfolding row_names
  names-not-same-slot e = names-by (λ slot. eqb (slot_of start row.left) slot || eqb (slot_of start row.right) slot) λ slot. rw e

  pub names-offset : row.kind ≡ 5 → set_of 64 (offset_names start row) ≡ set_of 64 (row_names start row)
  unfolding row_names
  names-offset e = names-by (offset_names start row) λ slot. rw e

  pub names-limit : row.kind ≡ 6 → set_of 64 (eqb row.left) ≡ set_of 64 (row_names start row)
  unfolding row_names
  names-limit e = names-by (eqb row.left) λ slot. rw e

  pub names-none : (row.kind ≡ 1 → ⊥) → (row.kind ≡ 2 → ⊥) → (row.kind ≡ 3 → ⊥) → (row.kind ≡ 4 → ⊥) → (row.kind ≡ 5 → ⊥) → (row.kind ≡ 6 → ⊥)
      → 0 ≡ set_of 64 (row_names start row)
  unfolding row_names
  names-none a b c d e f =
      none_pass 64 (row_names start row)
      λ slot. simp (ne_eqb row.kind 1 a, ne_eqb row.kind 2 b, ne_eqb row.kind 3 c, ne_eqb row.kind 4 d, ne_eqb row.kind 5 e, ne_eqb row.kind 6 f)

-- no arm named this kind
pub none_of : {x k n : ℕ} → x ≡ k → (x ≡ n → ⊥) → k ≡ n → ⊥
none_of e f g = f (e ∙ g)

-- ---- the pass over the rows: the slots named by the first of them

module _ (start : List ℕ) where
  named_snoc : (rows : List ℕ) (number slot : ℕ) → named start (rows ++ (number ∷ [])) slot ≡ (named start rows slot || row_names start (row_of number) slot)
  unfolding named any_of
  named_snoc [] number slot = or_none (row_names start (row_of number) slot)
    where
      or_none : (b : Bool) → (b || false) ≡ b
      or_none true = refl
      or_none false = refl
  named_snoc (first ∷ rows) number slot =
      ap (λ (b : Bool). row_names start (row_of first) slot || b) (named_snoc rows number slot)
      ∙ or_assoc (row_names start (row_of first) slot) (named start rows slot) (row_names start (row_of number) slot)
    where
      or_assoc : (a b c : Bool) → (a || (b || c)) ≡ ((a || b) || c)
      or_assoc true b c = refl
      or_assoc false b c = refl

  pub named_start : 0 ≡ set_of 64 (named start [])
  unfolding named any_of
  named_start = none_pass 64 (named start []) λ c. refl

  pub named_step : (rows : List ℕ) (i names more next : ℕ) → i < length rows → names ≡ set_of 64 (named start (take i rows))
      → more ≡ set_of 64 (row_names start (row_of (get_or rows i 0))) → next ≡ either_of names more → next ≡ set_of 64 (named start (take (i + 1) rows))
  named_step rows i names more next h e f g =
      g
      ∙ either-set names more (named start (take i rows)) (row_names start (row_of (get_or rows i 0))) e f
      ∙ set_ext 64 (λ slot. named start (take i rows) slot || row_names start (row_of (get_or rows i 0)) slot) (named start (take i rows ++ (get_or rows i 0 ∷ [])))
      (λ c l. sym (named_snoc (take i rows) (get_or rows i 0) c))
      ∙ ap (λ (l : List ℕ). set_of 64 (named start l)) (sym (ap (λ (n : ℕ). take n rows) (add-one i) ∙ take-suc rows i 0 h))

  pub named-done : (rows : List ℕ) (i names : ℕ) → i ≤ length rows → length rows ≤ i → names ≡ set_of 64 (named start (take i rows)) → names ≡ set_of 64 (named start rows)
  named-done rows i names h k e =
      let f : i ≡ length rows = omega arith in
      e ∙ ap (λ (n : ℕ). set_of 64 (named start (take n rows))) f ∙ ap (λ (l : List ℕ). set_of 64 (named start l)) (take-length rows)
