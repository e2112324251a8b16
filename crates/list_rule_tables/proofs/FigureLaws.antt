-- The figures as the code comes by them.
use mathlib.Core.Path.{◌≡◌, refl, sym, ◌∙◌, ap}
use mathlib.Core.Bool.{Bool, true, false, not, cond}
use mathlib.Core.List.{List}
use Prim.Native.Nat.{ℕ, zero, suc, ◌+◌, ◌≤◌, ◌<◌, ◌^◌}
use native.Mathlib.Decide.{ℕ_discrete}
use native.Mathlib.Nat.{not-suc-le-zero}
use native.Mathlib.Omega.{arith}
use borrow.Author.Tests.{lt-ltb, le-ltb, ltb-true, ltb-false, lt-leb, le-leb, eq-eqb, ne_eqb}
use lib.Dec.{ltb, leb}
use lib.ListN.{length, get_or, replicate}
use Rattle.day_rows.specs.declared.check.Counts.{Counts}
use Rattle.base_choice_sets.specs.Sets.{has, with_choice}
use Rattle.base_choice_sets.proofs.SetLaws.{has-past, set-start, set-step}
use Rattle.list_domains.specs.steps.Domains.{settled, lowest_place}
use Rattle.list_domains.proofs.LowestLaws.{lowest-has, lowest_le}
use Rattle.list_rule_tables.specs.steps.Figures.{free_of, first_in, lacks_of, lacks_in}

-- the free choices, one choice more
pub free_step : (domains : List ℕ) (n free result : ℕ) (is : Bool) → n < 64 → free ≡ free_of n domains → is ≡ settled (get_or domains n 0)
    → result ≡ cond (not is) (with_choice free n) free → result ≡ free_of (n + 1) domains
unfolding free_of
free_step domains n free result is h f s r =
    set-step n (λ choice. not (settled (get_or domains choice 0))) free result (not is) h f (ap not s) r

pub free-start : (domains : List ℕ) → 0 ≡ free_of 0 domains
unfolding free_of
free-start domains = set-start λ choice. not (settled (get_or domains choice 0))

-- the first of a set: none of the first so many is in it, or the lowest one
first-all : (n set : ℕ) → ((choice : ℕ) → choice < n → has set choice ≡ false) → first_in n set ≡ n
unfolding first_in
first-all zero set h = refl
first-all (suc n) set h =
    let e : first_in n set ≡ n = first-all n set (λ choice l. h choice (omega arith)) in
    rw (e, le-ltb n n (omega arith), h n (omega arith))

first_found : (n set : ℕ) → first_in n set ≡ n → has set n ≡ true → (m : ℕ) → n < m → n ≡ first_in m set
unfolding first_in
first_found n set e t zero h = absurd (not-suc-le-zero h)
first_found n set e t (suc m) h = go (ℕ_discrete n m) (first_found n set e t m)
  where
    go : Dec (n ≡ m) → (n < m → n ≡ first_in m set) → n ≡ cond (ltb (first_in m set) m) (first_in m set) (cond (has set m) m (suc m))
    go (yes q) ih =
        let a : first_in m set ≡ m = rw (sym q) e in
        let c : has set m ≡ true = rw (sym q) t in
        rw (a, le-ltb m m (omega arith), c) q
    go (no q) ih =
        let a : n ≡ first_in m set = ih (omega (arith, q)) in
        let l : first_in m set < m = omega (arith, a, q) in
        rw (lt-ltb (first_in m set) m l) a

module _ (choices set first : ℕ) (e : first ≡ lowest_place set) where
  not-below : (choice : ℕ) → choice < 64 → choice < first → has set choice ≡ false
  unfolding lowest_place
  not-below choice h l = go (has set choice) refl
    where
      go : (b : Bool) → has set choice ≡ b → b ≡ false
      go true t = absurd (omega (arith, e, l, lowest_le 0 64 set choice (omega arith) (omega arith) t))
      go false t = refl

  -- an empty set has no first choice
  pub first_of-none : set < 2 ^ 64 → 64 ≤ first → choices ≡ first_in choices set
  first_of-none f h = sym (first-all choices set λ choice l. out choice (ltb choice 64) refl)
    where
      out : (choice : ℕ) (b : Bool) → ltb choice 64 ≡ b → has set choice ≡ false
      out choice true t = let k : choice < 64 = ltb-true choice 64 t in not-below choice k (omega (arith, k, h))
      out choice false t = has-past set 64 choice f (ltb-false choice 64 t)

  module _ (low : first < 64) where
    -- of a set that lies past the day's choices none is the first
    pub first_past : choices ≤ first → choices ≡ first_in choices set
    first_past h = sym (first-all choices set λ choice l. not-below choice (omega (arith, low, h)) (omega (arith, h)))

    pub first-is : first < choices → first ≡ first_in choices set
    unfolding lowest_place
    first-is h =
        first_found first set (first-all first set λ choice l. not-below choice (omega (arith, low)) l)
        (ap (has set) e ∙ lowest-has 0 64 set (omega (arith, e, low))) choices h

-- the first choice of a set: no choice before it is in the set
pub first_le : (n set : ℕ) → first_in n set ≤ n
unfolding first_in
first_le zero set = omega arith
first_le (suc n) set = go (ltb (first_in n set) n) refl (has set n) (first_le n set)
  where
    go : (b : Bool) → ltb (first_in n set) n ≡ b → (c : Bool) → first_in n set ≤ n → cond b (first_in n set) (cond c n (suc n)) ≤ suc n
    go true t c h = omega arith
    go false t true h = omega arith
    go false t false h = omega arith

pub first-none : (n set choice : ℕ) → choice < first_in n set → has set choice ≡ false
unfolding first_in
first-none zero set choice h = absurd (not-suc-le-zero h)
first-none (suc n) set choice h = go (ltb (first_in n set) n) refl (has set n) refl h (first-none n set choice)
  where
    go : (b : Bool) → ltb (first_in n set) n ≡ b → (c : Bool) → has set n ≡ c → choice < cond b (first_in n set) (cond c n (suc n))
        → (choice < first_in n set → has set choice ≡ false) → has set choice ≡ false
    go true t c u h ih = ih h
    go false t true u h ih = ih (omega (arith, ltb-false (first_in n set) n t))
    go false t false u h ih =
        elim (ℕ_discrete choice n) [
          | yes e ↦ rw e u
          | no q ↦ ih (omega (arith, ltb-false (first_in n set) n t, q))
        ]

-- no choice before the first one is in the set, as the code has it: by a number that is the first choice
pub first-within : (n set from : ℕ) → from ≡ first_in n set → from ≤ n
first-within n set from e = rw e (first_le n set)

pub first-before : (n set from : ℕ) → from ≡ first_in n set → (choice : ℕ) → choice < from → has set choice ≡ false
first-before n set from e choice h = first-none n set choice (omega (arith, e, h))

-- the free choices as other crates ask for them
module _ (choices : ℕ) (domains : List ℕ) where
  pub free-many : 64 < choices → 0 ≡ cond (leb choices 64) (free_of choices domains) 0
  free-many h = rw (lt-leb _ _ h)

  pub free-few : (result : ℕ) → choices ≤ 64 → result ≡ free_of choices domains → result ≡ cond (leb choices 64) (free_of choices domains) 0
  free-few result h e = rw (le-leb _ _ h) e

-- the lacks as other crates ask for them
module _ (counts : Counts) (maxs domains : List ℕ) where
  pub lacks-many-choices : (none : List ℕ) → none ≡ replicate 24 0 → 64 < counts.choices → none ≡ lacks_in counts maxs domains
  unfolding lacks_in
  lacks-many-choices none n h = rw (lt-leb _ _ h) n

  pub lacks-other-length : (none : List ℕ) → none ≡ replicate 24 0 → counts.choices ≤ 64 → (length maxs ≡ counts.choices → ⊥) → none ≡ lacks_in counts maxs domains
  unfolding lacks_in
  lacks-other-length none n h e = rw (le-leb _ _ h, ne_eqb _ _ e) n

  pub lacks-many-slots : (none : List ℕ) → none ≡ replicate 24 0 → counts.choices ≤ 64 → length maxs ≡ counts.choices → 24 < counts.slots → none ≡ lacks_in counts maxs domains
  unfolding lacks_in
  lacks-many-slots none n h e s = rw (le-leb _ _ h, eq-eqb _ _ e, lt-leb _ _ s) n

  -- of a day that has the shape the lacks are those of its settled choices
  pub lacks-in : counts.choices ≤ 64 → length maxs ≡ counts.choices → counts.slots ≤ 24
      → lacks_in counts maxs domains ≡ lacks_of counts.slots counts.choices counts.choosers maxs (free_of counts.choices domains) domains
  unfolding lacks_in
  lacks-in h e s = rw (le-leb _ _ h, eq-eqb _ _ e, le-leb _ _ s)
