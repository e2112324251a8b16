-- What is still open of a choice's places once it has stood at one of them: all but its twins, and those too
-- where a plan was met or the end is near.
use Rattle.std.proofs.Common.{◌≡◌, ℕ, ◌^◌, ◌<◌, ◌≤◌, Bool, true, false, cond, not, ◌&&◌, eqb, ltb, List, sym, refl, ap, ◌∙◌, ltb-false, ltb-true, eq-eqb, eqb-true, le-leb}
use mathlib.Core.Bool.{false≢true}
use lib.Bits.{bit_and, bit_xor}
use Rattle.day_rows.specs.declared.check.Counts.{Counts}
use Rattle.base_lists.proofs.Below.{and_left}
use Rattle.base_choice_sets.specs.Sets.{has, set_of}
use Rattle.base_choice_sets.proofs.SetLaws.{has-set, has-set-past, set_back}
use Rattle.list_domains.proofs.PlaceLaws.{minus_law}
use Rattle.list_twins.specs.steps.Twins.{twins, twins_of, exchanged}
use Rattle.list_look.specs.steps.Look.{near_end}
use Rattle.list_walk.specs.steps.Sight.{passed_over, still_open}

-- a set without the members of another
pub minus_has : (one other : ℕ) → one < 2 ^ 64 → other < 2 ^ 64 → bit_xor one (bit_and one other) ≡ set_of 64 λ place. has one place && not (has other place)
minus_has one other a b =
    ap (λ (s : ℕ). bit_xor one (bit_and one s)) (set_back 64 other b) ∙ minus_law 64 one (has other) a

and_true : (b : Bool) → b ≡ (b && true)
and_true true = refl
and_true false = refl

-- ---- twins

-- a member of a slot's twins is a twin of it
pub twins-has : (counts : Counts) (start rows sums fills : List ℕ) (x y : ℕ) → counts.slots ≤ 24 → has (twins_of counts start rows sums fills x) y ≡ true
    → twins counts.slots counts.choosers start rows sums fills x y ≡ true
unfolding twins_of
twins-has counts start rows sums fills x y few t = go (ltb y counts.slots) refl
  where
    alike : ℕ → Bool
    alike = twins counts.slots counts.choosers start rows sums fills x

    member : has (set_of counts.slots alike) y ≡ true
    member = ap (λ (b : Bool). has (cond b (set_of counts.slots alike) 0) y) (sym (le-leb counts.slots 24 few)) ∙ t

    go : (b : Bool) → ltb y counts.slots ≡ b → alike y ≡ true
    go true l = sym (has-set counts.slots alike y (ltb-true y counts.slots l)) ∙ member
    go false l = absurd (false≢true (sym (has-set-past counts.slots alike y (ltb-false y counts.slots l)) ∙ member))

-- two twins are slots of the day
pub twins-slots : (slots choosers : ℕ) (start rows sums fills : List ℕ) (x y : ℕ) → twins slots choosers start rows sums fills x y ≡ true → (x < slots) × (y < slots)
unfolding twins
twins-slots slots choosers start rows sums fills x y t = go (ltb x slots) (ltb y slots) _ _ _ _ refl refl t
  where
    go : (a b c d e f : Bool) → ltb x slots ≡ a → ltb y slots ≡ b → (a && b && c && d && e && f) ≡ true → (x < slots) × (y < slots)
    go true true c d e f p q t = (ltb-true x slots p, ltb-true y slots q)
    go true false c d e f p q t = absurd (false≢true t)
    go false b c d e f p q t = absurd (false≢true t)

-- the exchange takes the later one to the first
pub exchanged-later : (x y : ℕ) → exchanged x y y ≡ x
unfolding exchanged
exchanged-later x y = go (eqb y x) refl
  where
    go : (b : Bool) → eqb y x ≡ b → cond b y (cond (eqb y y) x y) ≡ x
    go true t = eqb-true y x t
    go false t = rw (eq-eqb y y refl)

-- a set without a slot's twins, by the numbers that the day was counted with
pub twins_away : (counts : Counts) (start rows sums fills : List ℕ) (at opened : ℕ) {counted : Counts} {twins left : ℕ}
    → counted ≡ counts → twins ≡ twins_of counted start rows sums fills at → left ≡ set_of 64 (λ later. has opened later && not (has twins later))
    → left ≡ set_of 64 (λ later. has opened later && not (has (twins_of counts start rows sums fills at) later))
twins_away counts start rows sums fills at opened k w e = e ∙ rw (w, k)

-- ---- what is still open

-- the same places are still open with equal starts and sums
pub still_same : (counts : Counts) (choice : ℕ) {start start' : List ℕ} (rows : List ℕ) {sums sums' fills fills' : List ℕ} (at opened : ℕ) {unmet unmet' : Bool}
    → start ≡ start' → sums ≡ sums' → fills ≡ fills' → unmet ≡ unmet'
    → still_open counts choice start rows sums fills at unmet opened ≡ still_open counts choice start' rows sums' fills' at unmet' opened
still_same counts choice rows at opened s m f u = rw (s, m, f, u)

module _ (counts : Counts) (choice : ℕ) (start rows sums fills : List ℕ) (at opened : ℕ) where
  -- a place is still open if it was and isn't passed over
  pub still_has : (unmet : Bool) (later : ℕ) → later < 64
      → has (still_open counts choice start rows sums fills at unmet opened) later ≡ (has opened later && not (unmet && passed_over counts choice start rows sums fills at later))
  unfolding still_open passed_over
  still_has false later h = and_true (has opened later)
  still_has true later h = go (near_end counts.choices choice)
    where
      twins : ℕ
      twins = twins_of counts start rows sums fills at

      go : (b : Bool) → has (cond (true && not b) (set_of 64 λ place. has opened place && not (has twins place)) opened) later ≡ (has opened later && not (true && (not b && has twins later)))
      go true = and_true (has opened later)
      go false = has-set 64 (λ place. has opened place && not (has twins place)) later h

  -- no place is still open that wasn't
  pub still_less : (unmet : Bool) (later : ℕ) → later < 64 → has (still_open counts choice start rows sums fills at unmet opened) later ≡ true → has opened later ≡ true
  still_less unmet later h t =
      and_left (has opened later) (not (unmet && passed_over counts choice start rows sums fills at later)) (sym (still_has unmet later h) ∙ t)

  -- ---- the ways through pass_over

  -- a plan was met: every place is still open
  pub still_met : {unmet : Bool} → unmet ≡ false → opened ≡ still_open counts choice start rows sums fills at unmet opened
  unfolding still_open
  still_met f = rw f

  -- the end is near: every place is still open
  pub still_near : {unmet near : Bool} → unmet ≡ true → near ≡ near_end counts.choices choice → near ≡ true
      → opened ≡ still_open counts choice start rows sums fills at unmet opened
  unfolding still_open
  still_near u n t = rw (u, sym n ∙ t)

  -- no plan was met: the twins are passed over
  pub still_far : {unmet near : Bool} {left : ℕ} → unmet ≡ true → near ≡ near_end counts.choices choice → near ≡ false
      → left ≡ set_of 64 (λ later. has opened later && not (has (twins_of counts start rows sums fills at) later))
      → left ≡ still_open counts choice start rows sums fills at unmet opened
  unfolding still_open
  still_far u n f e = e ∙ rw (u, sym n ∙ f)
