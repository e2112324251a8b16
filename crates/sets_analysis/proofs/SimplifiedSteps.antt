-- Simplifying, a law for each way through the code.
use mathlib.Core.Path.{◌≡◌, refl, sym, ◌∙◌, ap, ap₂}
use mathlib.Core.Bool.{Bool, true, false}
use mathlib.Core.List.{List, [], ◌∷◌, ◌++◌, append-nil}
use Prim.Native.Nat.{ℕ, zero, suc, ◌+◌, ◌-◌, ◌≤◌, ◌<◌}
use native.Mathlib.Omega.{arith}
use borrow.Author.Tests.{lt-ltb, le-ltb}
use lib.ListN.{length, get_or, take, drop, set, length-set}
use lib.Seq.{get_or-set_other, length-take-le}
use Rattle.base_lists.specs.Flat.{list_below}
use Rattle.base_lists.specs.Keep.{keep}
use Rattle.base_lists.proofs.Keep.{keep_append}
use Rattle.sets_analysis.specs.Kept.{CriticalSet, critical_set, stays_beside, dropped_at, simplified_from, simplified}
use Rattle.sets_analysis.specs.Calls.{sets_in, sets_of}
use Rattle.sets_analysis.specs.steps.Pools.{Front, simplified_if}
use Rattle.sets_analysis.proofs.PoolSteps.{sets-length, sets-at, sets_more, sets-put, back-sets, back-masks, back-levels}

-- dropping at an index: the sets before place i are judged, the others are as they were
pub record Drops (here : CriticalSet) (count : ℕ) (masks₀ levels₀ : List ℕ) (stay i : ℕ) (masks levels : List ℕ) : Type 0 where
  pub so_far : i ≤ count
  pub behind : stay ≤ i
  pub same-masks : length masks ≡ length masks₀
  pub same-levels : length levels ≡ length levels₀
  pub sets : sets_in stay masks levels ≡ keep (stays_beside here) (sets_in i masks₀ levels₀)
  pub rest-masks : (k : ℕ) → i ≤ k → get_or masks k 0 ≡ get_or masks₀ k 0
  pub rest-levels : (k : ℕ) → i ≤ k → get_or levels k 0 ≡ get_or levels₀ k 0

keep-one_in : (p : CriticalSet → Bool) (xs : List CriticalSet) (x : CriticalSet) → p x ≡ true → keep p (xs ++ (x ∷ [])) ≡ keep p xs ++ (x ∷ [])
unfolding keep
keep-one_in p xs x t = keep_append p xs (x ∷ []) ∙ rw t

keep-one-out : (p : CriticalSet → Bool) (xs : List CriticalSet) (x : CriticalSet) → p x ≡ false → keep p (xs ++ (x ∷ [])) ≡ keep p xs
unfolding keep
keep-one-out p xs x t = keep_append p xs (x ∷ []) ∙ rw (t, append-nil)

module _ (here : CriticalSet) (count : ℕ) (masks₀ levels₀ : List ℕ) where
  pub drops_start : Drops here count masks₀ levels₀ 0 0 masks₀ levels₀
  unfolding sets_in list_below keep
  drops_start =
      record {
        so_far = omega arith;
        behind = omega arith;
        same-masks = refl;
        same-levels = refl;
        sets = refl;
        rest-masks = λ k h. refl;
        rest-levels = λ k h. refl;
      }

  module _ (stay i : ℕ) (masks levels : List ℕ) (s : Drops here count masks₀ levels₀ stay i masks levels) where
    is : critical_set (get_or levels i 0) (get_or masks i 0) ≡ critical_set (get_or levels₀ i 0) (get_or masks₀ i 0)
    is = ap₂ (λ (x y : ℕ). critical_set x y) (s.rest-levels i (omega arith)) (s.rest-masks i (omega arith))

    pub drops_out : i < count → stays_beside here (critical_set (get_or levels i 0) (get_or masks i 0)) ≡ false → Drops here count masks₀ levels₀ stay (i + 1) masks levels
    drops_out h t =
        record {
          so_far = omega arith;
          behind = omega (arith, s.behind);
          same-masks = s.same-masks;
          same-levels = s.same-levels;
          sets =
              s.sets
              ∙ sym (ap (keep (stays_beside here)) (sets_more i masks₀ levels₀) ∙ keep-one-out (stays_beside here) (sets_in i masks₀ levels₀) (critical_set (get_or levels₀ i 0) (get_or masks₀ i 0)) (ap (stays_beside here) (sym is) ∙ t));
          rest-masks = λ k l. s.rest-masks k (omega arith);
          rest-levels = λ k l. s.rest-levels k (omega arith);
        }

    pub drops_in : i < count → count ≤ length masks₀ → count ≤ length levels₀ → stays_beside here (critical_set (get_or levels i 0) (get_or masks i 0)) ≡ true
        → Drops here count masks₀ levels₀ (stay + 1) (i + 1) (set masks stay (get_or masks i 0)) (set levels stay (get_or levels i 0))
    drops_in h m l t =
        record {
          so_far = omega arith;
          behind = omega (arith, s.behind);
          same-masks = length-set masks stay (get_or masks i 0) ∙ s.same-masks;
          same-levels = length-set levels stay (get_or levels i 0) ∙ s.same-levels;
          sets =
              sets-put stay masks levels (get_or levels i 0) (get_or masks i 0) (omega (arith, s.behind, s.same-masks)) (omega (arith, s.behind, s.same-levels))
              ∙ ap₂ (λ (l : List CriticalSet) (x : CriticalSet). l ++ (x ∷ [])) s.sets is
              ∙ sym (ap (keep (stays_beside here)) (sets_more i masks₀ levels₀) ∙ keep-one_in (stays_beside here) (sets_in i masks₀ levels₀) (critical_set (get_or levels₀ i 0) (get_or masks₀ i 0)) (ap (stays_beside here) (sym is) ∙ t));
          rest-masks = λ k z. get_or-set_other masks stay k (get_or masks i 0) 0 (λ e. omega (arith, s.behind)) ∙ s.rest-masks k (omega arith);
          rest-levels = λ k z. get_or-set_other levels stay k (get_or levels i 0) 0 (λ e. omega (arith, s.behind)) ∙ s.rest-levels k (omega arith);
        }

-- once all sets are judged, those that stay are the ones that the definition keeps
pub drops_done : (index count : ℕ) (masks₀ levels₀ : List ℕ) (stay i : ℕ) (masks levels : List ℕ) → index < count → count ≤ i
    → Drops (critical_set (get_or levels₀ index 0) (get_or masks₀ index 0)) count masks₀ levels₀ stay i masks levels
    → (stay ≤ count) × (sets_in stay masks levels ≡ dropped_at index (sets_in count masks₀ levels₀))
unfolding dropped_at
drops_done index count masks₀ levels₀ stay i masks levels h k s =
    let e : i ≡ count = omega (arith, s.so_far) in (
      omega (arith, s.behind),
      s.sets
          ∙ ap₂ (λ (x : CriticalSet) (n : ℕ). keep (stays_beside x) (sets_in n masks₀ levels₀)) (sym (sets-at count masks₀ levels₀ index h)) e,
    )

-- ---- every index once

pub record Simplifies (count : ℕ) (masks₀ levels₀ : List ℕ) (left index : ℕ) (masks levels : List ℕ) : Type 0 where
  pub fewer : left ≤ count
  pub same-masks : length masks ≡ length masks₀
  pub same-levels : length levels ≡ length levels₀
  pub same : simplified_from (count - index) index (sets_in left masks levels) ≡ simplified (sets_in count masks₀ levels₀)

simplified-on : (n index : ℕ) (sets : List CriticalSet) → index < length sets → simplified_from (suc n) index sets ≡ simplified_from n (index + 1) (dropped_at index sets)
unfolding simplified_from
simplified-on n index sets h = rw (lt-ltb index (length sets) h)

simplified-end : (n index : ℕ) (sets : List CriticalSet) → length sets ≤ index → simplified_from n index sets ≡ sets
unfolding simplified_from
simplified-end zero index sets h = refl
simplified-end (suc n) index sets h = rw (le-ltb index (length sets) h)

module _ (count : ℕ) (masks₀ levels₀ : List ℕ) where
  pub simplifies_start : Simplifies count masks₀ levels₀ count 0 masks₀ levels₀
  unfolding simplified
  simplifies_start =
      record {
        fewer = omega arith;
        same-masks = refl;
        same-levels = refl;
        same = ap (λ (n : ℕ). simplified_from n 0 (sets_in count masks₀ levels₀)) (omega (arith, sets-length count masks₀ levels₀));
      }

  module _ (left index : ℕ) (masks levels : List ℕ) (s : Simplifies count masks₀ levels₀ left index masks levels) where
    simplifies_on : (left' : ℕ) (masks' levels' : List ℕ) → (left' ≤ left) × (sets_in left' masks' levels' ≡ dropped_at index (sets_in left masks levels))
        → index < left → length masks' ≡ length masks → length levels' ≡ length levels → Simplifies count masks₀ levels₀ left' (index + 1) masks' levels'
    simplifies_on left' masks' levels' e h ml ll =
        let z : count - index ≡ suc (count - (index + 1)) = omega (arith, s.fewer) in
        record {
          fewer = omega (arith, s.fewer, e.0);
          same-masks = ml ∙ s.same-masks;
          same-levels = ll ∙ s.same-levels;
          same =
              ap (simplified_from (count - (index + 1)) (index + 1)) e.1
              ∙ sym (simplified-on (count - (index + 1)) index (sets_in left masks levels) (rw (sets-length left masks levels) h))
              ∙ ap (λ (n : ℕ). simplified_from n index (sets_in left masks levels)) (sym z)
              ∙ s.same;
        }

    -- the sets at the front are what is left, in the pools' parts that are handed on
    pub simplifies_part : length levels₀ ≡ length masks₀ → count ≤ length masks₀ → (left' : ℕ) (part part' : List ℕ)
        → (left' ≤ length (take left masks)) × (sets_in left' part part' ≡ dropped_at index (sets_of (take left masks) (take left levels)))
        → index < left → length part ≡ length (take left masks) → length part' ≡ length (take left levels)
        → Simplifies count masks₀ levels₀ left' (index + 1) (part ++ drop left masks) (part' ++ drop left levels)
    simplifies_part p few left' part part' e h ml ll =
        let within : left ≤ length masks = omega (arith, s.fewer, s.same-masks) in
        let within' : left ≤ length levels = omega (arith, s.fewer, s.same-levels) in
        simplifies_on left' (part ++ drop left masks) (part' ++ drop left levels)
        (back-sets left masks levels within within' part part' ml ll left' (dropped_at index) e)
        h
        (back-masks left masks levels within within' part part' ml ll)
        (back-levels left masks levels within within' part part' ml ll)

    pub simplifies_done : left ≤ index → (left ≤ count) × (sets_in left masks levels ≡ simplified (sets_in count masks₀ levels₀))
    simplifies_done h =
        (s.fewer, sym (simplified-end (count - index) index (sets_in left masks levels) (rw (sets-length left masks levels) h)) ∙ s.same)

    -- the fronts of the pools are handed on with the sets that are left
    pub simplifies_front : length levels₀ ≡ length masks₀ → count ≤ length masks₀ → count ≤ 1024 → Front (take left masks) (take left levels)
    simplifies_front p few most =
        let n : length (take left masks) ≡ left = length-take-le left masks (omega (arith, s.fewer, s.same-masks)) in
        let n' : length (take left levels) ≡ left = length-take-le left levels (omega (arith, s.fewer, s.same-levels)) in
        record { paired = n' ∙ sym n; few = omega (arith, s.fewer) }

-- ---- simplified if asked

pub asked-simplified : (asked : Bool) (sets sets' : List CriticalSet) → asked ≡ true → sets' ≡ simplified sets → sets' ≡ simplified_if asked sets
unfolding simplified_if
asked-simplified asked sets sets' t e = rw t e

pub unasked : (asked : Bool) (sets : List CriticalSet) → asked ≡ false → sets ≡ simplified_if asked sets
unfolding simplified_if
unasked asked sets t = rw t
