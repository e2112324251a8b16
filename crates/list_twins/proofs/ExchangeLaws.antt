-- Two slots exchanged in the places of a plan's later choices: where these stand, and what that
-- makes of a slot's sums and counts.
use mathlib.Core.Path.{◌≡◌, refl, sym, ◌∙◌, ap, ap₂}
use mathlib.Core.Bool.{Bool, true, false, ◌&&◌, not, cond}
use mathlib.Core.List.{List, ◌++◌, map}
use Prim.Native.Nat.{ℕ, zero, suc, ◌+◌, ◌-◌, ◌≤◌, ◌<◌}
use native.Mathlib.Decide.{ℕ_discrete}
use native.Mathlib.Nat.{add-zero, add-suc}
use native.Mathlib.Omega.{arith}
use borrow.Author.Tests.{eq-eqb, ne_eqb, ltb-true, ltb-false}
use lib.Dec.{eqb, ltb}
use lib.ListN.{length, get_or, length-append, length-map, get_or-append, get_or-map}
use lib.Seq.{get_or-append-add}
use Rattle.base_lists.specs.Below.{sum_below}
use Rattle.base_lists.proofs.SumBelow.{sum_ext, sum-grows}
use Rattle.base_lists.proofs.CountBelow.{count_ext}
use Rattle.plan_check.specs.Plan.{slot_of, omitted, stands_in, count_in, sum_up_to, sum_in}
use Rattle.list_twins.specs.steps.Twins.{exchanged}
use Rattle.list_twins.proofs.NameLaws.{same-equal}

-- ---- one place

-- what becomes of a place: one of the two becomes the other, any other stays
pub data Moved (x y place : ℕ) : Type 0 where
  from-x : place ≡ x → exchanged x y place ≡ y → Moved x y place
  from_y : place ≡ y → exchanged x y place ≡ x → Moved x y place
  stays : (place ≡ x → ⊥) → (place ≡ y → ⊥) → exchanged x y place ≡ place → Moved x y place

module _ (x y : ℕ) where
  pub exchange_x : exchanged x y x ≡ y
  unfolding exchanged
  exchange_x = rw (eq-eqb x x refl)

  pub exchange_y : exchanged x y y ≡ x
  unfolding exchanged
  exchange_y = go (ℕ_discrete y x)
    where
      go : Dec (y ≡ x) → cond (eqb y x) y (cond (eqb y y) x y) ≡ x
      go (yes e) = rw (eq-eqb y x e) e
      go (no n) = rw (ne_eqb y x n, eq-eqb y y refl)

  pub exchange_other : (place : ℕ) → (place ≡ x → ⊥) → (place ≡ y → ⊥) → exchanged x y place ≡ place
  unfolding exchanged
  exchange_other place n m = rw (ne_eqb place x n, ne_eqb place y m)

  pub moved : (place : ℕ) → Moved x y place
  moved place = go (ℕ_discrete place x) (ℕ_discrete place y)
    where
      go : Dec (place ≡ x) → Dec (place ≡ y) → Moved x y place
      go (yes e) d = Moved.from-x e (ap (exchanged x y) e ∙ exchange_x)
      go (no n) (yes e) = Moved.from_y e (ap (exchanged x y) e ∙ exchange_y)
      go (no n) (no m) = Moved.stays n m (exchange_other place n m)

  -- exchanged twice, a place is as it was
  pub exchange_back : (place : ℕ) → exchanged x y (exchanged x y place) ≡ place
  exchange_back place = go (moved place)
    where
      go : Moved x y place → exchanged x y (exchanged x y place) ≡ place
      go (Moved.from-x e f) = ap (exchanged x y) f ∙ exchange_y ∙ sym e
      go (Moved.from_y e f) = ap (exchanged x y) f ∙ exchange_x ∙ sym e
      go (Moved.stays n m f) = ap (exchanged x y) f ∙ f

  -- an exchanged place is a slot exactly if the place is the exchanged slot
  pub exchange_equal : (place slot : ℕ) → eqb (exchanged x y place) slot ≡ eqb place (exchanged x y slot)
  exchange_equal place slot =
      same-equal (exchanged x y place) slot place (exchanged x y slot) (λ e. sym (exchange_back place) ∙ ap (exchanged x y) e)
      λ e. ap (exchanged x y) e ∙ exchange_back slot

  -- two exchanged places are one exactly if the places are
  pub exchange_both : (a b : ℕ) → eqb (exchanged x y a) (exchanged x y b) ≡ eqb a b
  exchange_both a b = exchange_equal a (exchanged x y b) ∙ ap (eqb a) (exchange_back b)

  pub exchange_lt : (n place : ℕ) → x < n → y < n → place < n → exchanged x y place < n
  exchange_lt n place a b h = go (moved place)
    where
      go : Moved x y place → exchanged x y place < n
      go (Moved.from-x e f) = omega (arith, f, b)
      go (Moved.from_y e f) = omega (arith, f, a)
      go (Moved.stays m o f) = omega (arith, f, h)

-- ---- sums whose first parts differ, and whose later terms agree

pub sums_cross : (k m : ℕ) (f g before after : ℕ → ℕ) → ((c : ℕ) → c < k → f c ≡ before c) → ((c : ℕ) → c < k → g c ≡ after c)
    → ((c : ℕ) → k ≤ c → f c ≡ g c) → sum_below (k + m) f + sum_below k after ≡ sum_below (k + m) g + sum_below k before
unfolding sum_below
sums_cross k zero f g before after p q r = rw (add-zero k, sum_ext k f before p, sum_ext k g after q) (omega arith)
sums_cross k (suc m) f g before after p q r =
    rw (add-suc k m, r (k + m) (omega arith)) (omega (arith, sums_cross k m f g before after p q r))

-- ---- a plan whose later places are exchanged

module _ (start rest : List ℕ) where
  pub slot-start : (choice : ℕ) → choice < length start → slot_of (start ++ rest) choice ≡ slot_of start choice
  unfolding slot_of
  slot-start choice h = get_or-append start rest 255 choice h

  stands-start : (choice slot : ℕ) → choice < length start → stands_in (start ++ rest) choice slot ≡ stands_in start choice slot
  unfolding stands_in omitted
  stands-start choice slot h = rw (slot-start choice h)

  -- the first choices' sums are part of the whole
  pub start_le : (amounts : List ℕ) (slot : ℕ) → sum_in amounts start slot ≤ sum_in amounts (start ++ rest) slot
  unfolding sum_in sum_up_to
  start_le amounts slot =
      let n = length start in
      let e : sum_below n (λ c. cond (stands_in (start ++ rest) c slot) (get_or amounts c 0) 0) ≡ sum_below n (λ c. cond (stands_in start c slot) (get_or amounts c 0) 0) =
      sum_ext n (λ c. cond (stands_in (start ++ rest) c slot) (get_or amounts c 0) 0) (λ c. cond (stands_in start c slot) (get_or amounts c 0) 0)
      (λ c h. ap (λ (b : Bool). cond b (get_or amounts c 0) 0) (stands-start c slot h))
      in
      rw length-append (omega (arith, e, sum-grows n (length rest) (λ c. cond (stands_in (start ++ rest) c slot) (get_or amounts c 0) 0)))

module _ (start rest : List ℕ) (x y : ℕ) (out : exchanged x y 255 ≡ 255) where
  -- the plan with the two exchanged in the places of the later choices
  abbrev pub other : List ℕ
  other = start ++ map (exchanged x y) rest

  pub other_length : length other ≡ length (start ++ rest)
  other_length = length-append start (map (exchanged x y) rest) ∙ ap (λ (n : ℕ). length start + n) (length-map rest (exchanged x y)) ∙ sym (length-append start rest)

  pub slot-before : (choice : ℕ) → choice < length start → slot_of other choice ≡ slot_of (start ++ rest) choice
  slot-before choice h = slot-start start (map (exchanged x y) rest) choice h ∙ sym (slot-start start rest choice h)

  pub slot-after : (choice : ℕ) → length start ≤ choice → slot_of other choice ≡ exchanged x y (slot_of (start ++ rest) choice)
  unfolding slot_of
  slot-after choice h =
      let e : choice ≡ length start + (choice - length start) = omega arith in
      ap (λ (c : ℕ). get_or other c 255) e
      ∙ get_or-append-add start (map (exchanged x y) rest) (choice - length start) 255
      ∙ ap (λ (d : ℕ). get_or (map (exchanged x y) rest) (choice - length start) d) (sym out)
      ∙ get_or-map (exchanged x y) rest (choice - length start) 255
      ∙ ap (exchanged x y) (sym (ap (λ (c : ℕ). get_or (start ++ rest) c 255) e ∙ get_or-append-add start rest (choice - length start) 255))

  -- every place that isn't one of the two among the first choices is exchanged
  pub slot-moved : (choice : ℕ) → (slot_of start choice ≡ x → ⊥) → (slot_of start choice ≡ y → ⊥) → slot_of other choice ≡ exchanged x y (slot_of (start ++ rest) choice)
  slot-moved choice n m = go (ltb choice (length start)) refl
    where
      go : (b : Bool) → ltb choice (length start) ≡ b → slot_of other choice ≡ exchanged x y (slot_of (start ++ rest) choice)
      go true t =
          let e : slot_of (start ++ rest) choice ≡ slot_of start choice = slot-start start rest choice (ltb-true choice (length start) t) in
          slot-before choice (ltb-true choice (length start) t)
          ∙ sym (exchange_other x y (slot_of (start ++ rest) choice) (λ f. n (sym e ∙ f)) λ f. m (sym e ∙ f))
      go false t = slot-after choice (ltb-false choice (length start) t)

  -- a slot or omission that stays is where it was
  pub slot_same : (choice place : ℕ) → exchanged x y place ≡ place → eqb (slot_of other choice) place ≡ eqb (slot_of (start ++ rest) choice) place
  slot_same choice place e = go (ltb choice (length start)) refl
    where
      go : (b : Bool) → ltb choice (length start) ≡ b → eqb (slot_of other choice) place ≡ eqb (slot_of (start ++ rest) choice) place
      go true t = ap (λ (p : ℕ). eqb p place) (slot-before choice (ltb-true choice (length start) t))
      go false t =
          ap (λ (p : ℕ). eqb p place) (slot-after choice (ltb-false choice (length start) t))
          ∙ exchange_equal x y (slot_of (start ++ rest) choice) place
          ∙ ap (eqb (slot_of (start ++ rest) choice)) e

  -- who stands in a slot
  stands-before : (choice slot : ℕ) → choice < length start → stands_in other choice slot ≡ stands_in (start ++ rest) choice slot
  unfolding stands_in omitted
  stands-before choice slot h = rw (slot-before choice h)

  stands_after : (choice slot : ℕ) → length start ≤ choice → stands_in other choice slot ≡ stands_in (start ++ rest) choice (exchanged x y slot)
  unfolding stands_in omitted
  stands_after choice slot h =
      ap₂ (λ (a b : Bool). not a && b) (slot_same choice 255 out)
      (ap (λ (p : ℕ). eqb p slot) (slot-after choice h) ∙ exchange_equal x y (slot_of (start ++ rest) choice) slot)

  -- a slot's sum has the later part of the other's
  pub sum-exchanged : (amounts : List ℕ) (slot : ℕ)
      → sum_in amounts other slot + sum_in amounts start (exchanged x y slot) ≡ sum_in amounts (start ++ rest) (exchanged x y slot) + sum_in amounts start slot
  unfolding sum_in sum_up_to
  sum-exchanged amounts slot =
      rw (other_length, length-append start rest)
      (sums_cross (length start) (length rest) (λ c. cond (stands_in other c slot) (get_or amounts c 0) 0) (λ c. cond (stands_in (start ++ rest) c (exchanged x y slot)) (get_or amounts c 0) 0)
      (λ c. cond (stands_in start c slot) (get_or amounts c 0) 0) (λ c. cond (stands_in start c (exchanged x y slot)) (get_or amounts c 0) 0)
      (λ c h. ap (λ (b : Bool). cond b (get_or amounts c 0) 0) (stands-start start (map (exchanged x y) rest) c slot h))
      (λ c h. ap (λ (b : Bool). cond b (get_or amounts c 0) 0) (stands-start start rest c (exchanged x y slot) h))
      λ c h. ap (λ (b : Bool). cond b (get_or amounts c 0) 0) (stands_after c slot h))

  -- the count of another slot stays
  pub count_same : (slot : ℕ) → exchanged x y slot ≡ slot → count_in other slot ≡ count_in (start ++ rest) slot
  unfolding count_in
  count_same slot e =
      rw other_length
      (count_ext (length (start ++ rest)) (λ c. stands_in other c slot) (λ c. stands_in (start ++ rest) c slot) λ c h. go c (ltb c (length start)) refl)
    where
      go : (c : ℕ) (b : Bool) → ltb c (length start) ≡ b → stands_in other c slot ≡ stands_in (start ++ rest) c slot
      go c true t = stands-before c slot (ltb-true c (length start) t)
      go c false t = stands_after c slot (ltb-false c (length start) t) ∙ ap (stands_in (start ++ rest) c) e
