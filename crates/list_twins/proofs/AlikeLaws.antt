-- One law for each way through the functions of twins: the slots that are alike.
use mathlib.Core.Path.{◌≡◌, refl, sym, ◌∙◌, ap, ap₂}
use mathlib.Core.Bool.{Bool, true, false, ◌&&◌, not}
use mathlib.Core.List.{List}
use Prim.Native.Nat.{ℕ, ◌≤◌, ◌<◌, min}
use native.Mathlib.Omega.{arith}
use borrow.Author.Tests.{lt-ltb, le-ltb, le-leb, lt-leb}
use lib.Dec.{eqb, ltb}
use lib.ListN.{get_or}
use Rattle.day_rows.specs.declared.check.Counts.{Counts}
use Rattle.base_choice_sets.specs.Sets.{has, set_of}
use Rattle.base_choice_sets.proofs.SetLaws.{has-set, set_ext, set-empty}
use Rattle.list_twins.specs.steps.Twins.{named, twins, twins_of}
use Rattle.list_twins.specs.steps.Alike.{alike}

-- ---- one slot beside another

module _ (choosers names : ℕ) (sums fills : List ℕ) (slot other : ℕ) where
  pub unlike_named : has names other ≡ true → false ≡ alike choosers names sums fills slot other
  unfolding alike
  unlike_named t = rw t

  pub unlike_sums : (same : Bool) → has names other ≡ false → same ≡ eqb (get_or sums slot 0) (get_or sums other 0) → same ≡ false
      → false ≡ alike choosers names sums fills slot other
  unfolding alike
  unlike_sums same t e f = rw (t, sym e ∙ f)

  pub alike-by : (same also : Bool) (fill room : ℕ) → has names other ≡ false → same ≡ eqb (get_or sums slot 0) (get_or sums other 0) → same ≡ true
      → fill ≡ min (get_or fills slot 0) choosers → room ≡ min (get_or fills other 0) choosers → also ≡ eqb fill room
      → also ≡ alike choosers names sums fills slot other
  unfolding alike
  alike-by same also fill room t e f g h s = s ∙ ap₂ (λ (a b : ℕ). eqb a b) g h ∙ rw (t, sym e ∙ f)

-- ---- a slot's twins

module _ (counts : Counts) (start rows sums fills : List ℕ) (slot : ℕ) where
  pub twins-many : 24 < counts.slots → 0 ≡ twins_of counts start rows sums fills slot
  unfolding twins_of
  twins-many h = rw (lt-leb counts.slots 24 h)

  none_alike : ((other : ℕ) → twins counts.slots counts.choosers start rows sums fills slot other ≡ false) → counts.slots ≤ 24
      → 0 ≡ twins_of counts start rows sums fills slot
  unfolding twins_of
  none_alike f h =
      rw (le-leb counts.slots 24 h) (sym (set-empty counts.slots (twins counts.slots counts.choosers start rows sums fills slot) λ other l. f other))

  pub twins-past : counts.slots ≤ 24 → counts.slots ≤ slot → 0 ≡ twins_of counts start rows sums fills slot
  unfolding twins
  twins-past h k = none_alike (λ other. rw (le-ltb slot counts.slots k)) h

  module _ (names : ℕ) (few : counts.slots ≤ 24) (l : slot < counts.slots) (e : names ≡ set_of 64 (named start rows)) where
    -- what the set of names tells of a slot
    name_at : (other : ℕ) → other < counts.slots → has names other ≡ named start rows other
    name_at other h = ap (λ (x : ℕ). has x other) e ∙ has-set 64 (named start rows) other (omega arith)

    pub twins-named : has names slot ≡ true → 0 ≡ twins_of counts start rows sums fills slot
    unfolding twins
    twins-named t =
        none_alike
        (λ other. rw (lt-ltb slot counts.slots l, sym (name_at slot l) ∙ t) (stopped (ltb other counts.slots) (not (named start rows other)) (eqb (get_or sums slot 0) (get_or sums other 0)) (eqb (min (get_or fills slot 0) counts.choosers) (min (get_or fills other 0) counts.choosers))))
        few
      where
        stopped : (a b c d : Bool) → (a && false && b && c && d) ≡ false
        stopped true b c d = refl
        stopped false b c d = refl

    pub twins-alike : has names slot ≡ false
        → set_of counts.slots (alike counts.choosers names sums fills slot) ≡ twins_of counts start rows sums fills slot
    unfolding twins_of twins alike
    twins-alike t =
        rw (le-leb counts.slots 24 few)
        (set_ext counts.slots (alike counts.choosers names sums fills slot) (twins counts.slots counts.choosers start rows sums fills slot)
        λ other h. rw (lt-ltb slot counts.slots l, lt-ltb other counts.slots h, sym (name_at slot l) ∙ t, name_at other h))
