-- The tests by maximums, a law for each way through their loop.
use mathlib.Core.Path.{◌≡◌, refl, sym, ◌∙◌, ap}
use mathlib.Core.Bool.{Bool, true, false, not, cond}
use mathlib.Core.List.{List, [], ◌∷◌, ◌++◌, append_assoc, append-nil}
use Prim.Native.Nat.{ℕ, zero, suc, ◌+◌, ◌-◌, ◌≤◌, ◌<◌}
use native.Mathlib.Nat.{add-zero, add-suc}
use native.Mathlib.Omega.{arith}
use borrow.Author.Tests.{lt-ltb, le-ltb, le-leb, lt-leb, ltb-true, ltb-false}
use lib.Dec.{leb, ltb}
use lib.ListN.{length, get_or}
use Rattle.base_lists.specs.Below.{all_below, count_below}
use Rattle.base_lists.specs.Group.{keep_below}
use Rattle.base_lists.proofs.Below.{one-fails, each_all}
use Rattle.base_lists.proofs.CountBelow.{count_misses}
use Rattle.base_lists.proofs.Group.{keep_in, keep_out, length-keep}
use Rattle.search_candidates.specs.Loads.{Loads, max_of}
use Rattle.search_candidates.specs.Tests.{some_short, critical_slots}
use Rattle.search_candidates.specs.steps.Maximums.{is_critical, Next}

-- ---- the next slot that is critical

module _ (choosers : ℕ) (slot_max : List ℕ) (rest : ℕ) where
  pub is-critical : (slot own sum : ℕ) → own ≡ get_or slot_max slot 0 → sum ≡ own + rest → sum < choosers → is_critical choosers slot_max rest slot ≡ true
  unfolding is_critical
  is-critical slot own sum d e h = lt-ltb (get_or slot_max slot 0 + rest) choosers (omega arith)

  pub not_critical : (slot own sum : ℕ) → own ≡ get_or slot_max slot 0 → sum ≡ own + rest → choosers ≤ sum → is_critical choosers slot_max rest slot ≡ false
  unfolding is_critical
  not_critical slot own sum d e h = le-ltb (get_or slot_max slot 0 + rest) choosers (omega arith)

-- 01's critical slots are the ones that the code looks for
pub critical_is : (slots choosers remaining max : ℕ) (loads : Loads) → critical_slots slots choosers loads remaining max ≡ keep_below slots (is_critical choosers loads.slot_max (remaining - max))
unfolding critical_slots is_critical max_of
critical_is slots choosers remaining max loads = refl

module _ (p : ℕ → Bool) where
  pub next-on : (from slot : ℕ) → keep_below slot p ≡ keep_below from p → p slot ≡ false → keep_below (slot + 1) p ≡ keep_below from p
  next-on from slot e f = keep_out slot p f ∙ e

  pub next_here : (from bound slot : ℕ) → from ≤ slot → slot < bound → keep_below slot p ≡ keep_below from p → p slot ≡ true → Next p from bound slot
  next_here from bound slot a l e t = record { after = a; within = omega arith; between = e; passes = λ h. t }

  -- from slot 0 on there is no critical slot
  pub none_critical : (bound first : ℕ) → Next p 0 bound first → bound ≤ first → keep_below bound p ≡ []
  unfolding keep_below
  none_critical bound first n h =
      let w = n.within in
      let z : first ≡ bound = omega arith in
      rw z at n.between

  first-kept : (bound first : ℕ) → Next p 0 bound first → first < bound → keep_below (first + 1) p ≡ first ∷ []
  unfolding keep_below
  first-kept bound first n h = keep_in first p (n.passes h) ∙ ap (λ l. l ++ (first ∷ [])) n.between

  -- there is one critical slot, and none after it
  pub one_critical : (bound first second : ℕ) → Next p 0 bound first → first < bound → Next p (first + 1) bound second → bound ≤ second → keep_below bound p ≡ first ∷ []
  one_critical bound first second n h m k =
      let w = m.within in
      let z : second ≡ bound = omega arith in
      (rw z at m.between) ∙ first-kept bound first n h

  keep_prefix : (n m : ℕ) → (more : List ℕ) × (keep_below (n + m) p ≡ keep_below n p ++ more)
  unfolding keep_below
  keep_prefix n zero = ([], rw add-zero (sym (append-nil (keep_below n p))))
  keep_prefix n (suc m) =
      let k = keep_prefix n m in
      (k.0 ++ cond (p (n + m)) ((n + m) ∷ []) [], rw add-suc (ap (λ l. l ++ cond (p (n + m)) ((n + m) ∷ []) []) k.1 ∙ append_assoc (keep_below n p) k.0 (cond (p (n + m)) ((n + m) ∷ []) [])))

  -- there are two critical slots, and perhaps more
  pub two_critical : (bound first second : ℕ) → Next p 0 bound first → first < bound → Next p (first + 1) bound second → second < bound → (more : List ℕ) × (keep_below bound p ≡ first ∷ second ∷ more)
  two_critical bound first second n h m k =
      let r = keep_prefix (second + 1) (bound - (second + 1)) in
      let z : second + 1 + (bound - (second + 1)) ≡ bound = omega arith in
      let e : keep_below (second + 1) p ≡ first ∷ second ∷ [] = keep_in second p (m.passes k) ∙ ap (λ l. l ++ (second ∷ [])) (m.between ∙ first-kept bound first n h) in
      (r.0, (rw z at r.1) ∙ ap (λ l. l ++ r.0) e)

-- ---- a slot that is short is one that is critical with this choice's max in what remains

module _ (choosers : ℕ) (loads : Loads) (remaining : ℕ) where
  is_enough : (slot : ℕ) → is_critical choosers loads.slot_max remaining slot ≡ false → leb choosers (max_of loads slot + remaining) ≡ true
  unfolding is_critical max_of
  is_enough slot t = le-leb choosers (get_or loads.slot_max slot 0 + remaining) (ltb-false (get_or loads.slot_max slot 0 + remaining) choosers t)

  too_little : (slot : ℕ) → is_critical choosers loads.slot_max remaining slot ≡ true → leb choosers (max_of loads slot + remaining) ≡ false
  unfolding is_critical max_of
  too_little slot t = lt-leb choosers (get_or loads.slot_max slot 0 + remaining) (ltb-true (get_or loads.slot_max slot 0 + remaining) choosers t)

  module _ (slots first : ℕ) (n : Next (is_critical choosers loads.slot_max remaining) 0 slots first) where
    each_enough : slots ≤ first → (k : ℕ) → k < slots → leb choosers (max_of loads k + remaining) ≡ true
    each_enough h k l = by (is_critical choosers loads.slot_max remaining k) refl
      where
        none : count_below slots (is_critical choosers loads.slot_max remaining) ≡ 0
        none = sym (length-keep slots (is_critical choosers loads.slot_max remaining)) ∙ ap length (none_critical (is_critical choosers loads.slot_max remaining) slots first n h)

        by : (b : Bool) → is_critical choosers loads.slot_max remaining k ≡ b → leb choosers (max_of loads k + remaining) ≡ true
        by true t = absurd (omega (arith, none, count_misses slots (is_critical choosers loads.slot_max remaining) k l t))
        by false t = is_enough k t

    pub short_is : ltb first slots ≡ some_short slots choosers loads remaining
    unfolding some_short
    short_is = by (ltb first slots) refl
      where
        by : (b : Bool) → ltb first slots ≡ b → b ≡ not (all_below slots (λ k. leb choosers (max_of loads k + remaining)))
        by true t =
            let h = ltb-true first slots t in
            sym (ap not (one-fails slots (λ k. leb choosers (max_of loads k + remaining)) first h (too_little first (n.passes h))))
        by false t = sym (ap not (each_all slots (λ k. leb choosers (max_of loads k + remaining)) (each_enough (ltb-false first slots t))))
