-- The sets of undecided choices and of those in each slot, made choice by choice.
use mathlib.Core.Path.{◌≡◌, refl, sym, ◌∙◌, ap, ap₂}
use mathlib.Core.Bool.{false}
use mathlib.Core.List.{List, [], ◌∷◌}
use Prim.Native.Nat.{ℕ, ◌+◌, ◌-◌, ◌≤◌, ◌<◌}
use native.Mathlib.Decide.{ℕ_discrete}
use native.Mathlib.Omega.{arith}
use borrow.Author.Tests.{eq-eqb, ne_eqb}
use lib.Dec.{eqb}
use lib.ListN.{length, get_or, set, take, replicate, length-set}
use lib.Seq.{ext_get_or, get_or-set_same, get_or-set_other, get_or-take, length-take-le}
use Rattle.base_lists.specs.Flat.{list_below}
use Rattle.base_lists.specs.Keep.{any_of}
use Rattle.base_lists.proofs.Flat.{length-list, get_d_list, list_ext}
use Rattle.base_choice_sets.specs.Sets.{set_of, with_choice}
use Rattle.base_choice_sets.specs.Reach.{some_stuck}
use Rattle.base_choice_sets.proofs.SetLaws.{with_next, set_skip, set-none}
use Rattle.search_candidates.specs.Allow.{decision_of, is_undecided}
use Rattle.search_candidates.specs.Tests.{held_by, undecided_of, sets_stuck}

-- ---- the undecided choices

module _ (decisions : List ℕ) where
  pub undecided-start : 0 ≡ undecided_of 0 decisions
  unfolding undecided_of
  undecided-start = sym (set-none (is_undecided decisions))

  pub undecided_in : (choice undecided decision : ℕ) → choice < 64 → undecided ≡ undecided_of choice decisions → decision ≡ decision_of decisions choice → decision ≡ 254
      → with_choice undecided choice ≡ undecided_of (choice + 1) decisions
  unfolding undecided_of is_undecided
  undecided_in choice undecided decision h e d t =
      ap (λ x. with_choice x choice) e ∙ with_next choice (λ c. eqb (decision_of decisions c) 254) h (eq-eqb (decision_of decisions choice) 254 (sym d ∙ t))

  pub undecided-out : (choice undecided decision : ℕ) → undecided ≡ undecided_of choice decisions → decision ≡ decision_of decisions choice → (decision ≡ 254 → ⊥)
      → undecided ≡ undecided_of (choice + 1) decisions
  unfolding undecided_of is_undecided
  undecided-out choice undecided decision e d t =
      e ∙ sym (set_skip choice (λ c. eqb (decision_of decisions c) 254) (ne_eqb (decision_of decisions choice) 254 (λ k. t (d ∙ k))))

-- ---- the choices in each slot

-- one entry of a list made by place is another
list_set : (n : ℕ) (f g : ℕ → ℕ) (k v : ℕ) → v ≡ g k → ((j : ℕ) → (j ≡ k → ⊥) → f j ≡ g j) → k < n → set (list_below n f) k v ≡ list_below n g
list_set n f g k v e h l =
    ext_get_or 0 (set (list_below n f) k v) (list_below n g) (length-set (list_below n f) k v ∙ length-list n f ∙ sym (length-list n g))
    (λ i m. at i (rw (length-set (list_below n f) k v, length-list n f) at m))
  where
    at : (i : ℕ) → i < n → get_or (set (list_below n f) k v) i 0 ≡ get_or (list_below n g) i 0
    at i m =
        elim (ℕ_discrete i k) [
          | yes z ↦ rw z (get_or-set_same (list_below n f) k v 0 (rw (length-list n f) l) ∙ e ∙ sym (get_d_list n g k 0 l))
          | no z ↦ get_or-set_other (list_below n f) k i v 0 z ∙ get_d_list n f i 0 m ∙ h i z ∙ sym (get_d_list n g i 0 m)
        ]

-- the first entries of a list made by place
list-take : (n m : ℕ) (f : ℕ → ℕ) → n ≤ m → take n (list_below m f) ≡ list_below n f
list-take n m f h =
    let e : length (take n (list_below m f)) ≡ n = length-take-le n (list_below m f) (rw (length-list m f) h) in
    ext_get_or 0 (take n (list_below m f)) (list_below n f) (e ∙ sym (length-list n f))
    (λ i l. at i (rw e at l))
  where
    at : (i : ℕ) → i < n → get_or (take n (list_below m f)) i 0 ≡ get_or (list_below n f) i 0
    at i l = get_or-take n (list_below m f) i 0 l ∙ get_d_list m f i 0 (omega arith) ∙ sym (get_d_list n f i 0 l)

module _ (decisions : List ℕ) where
  pub held_start : replicate 24 0 ≡ held_by 0 24 decisions
  unfolding held_by list_below set_of
  held_start = refl

  module _ (n choice decision : ℕ) (held : List ℕ) (before : held ≡ held_by choice n decisions) (told : decision ≡ decision_of decisions choice) where
    pub held_at : (slot : ℕ) → slot < n → get_or held slot 0 ≡ set_of choice (λ c. eqb (decision_of decisions c) slot)
    unfolding held_by
    held_at slot l = ap (λ x. get_or x slot 0) before ∙ get_d_list n (λ slot. set_of choice (λ c. eqb (decision_of decisions c) slot)) slot 0 l

    pub held_in : (slot : ℕ) → choice < 64 → slot ≡ decision → slot < n → set held slot (with_choice (get_or held slot 0) choice) ≡ held_by (choice + 1) n decisions
    unfolding held_by
    held_in slot h e l =
        ap (λ x. set x slot (with_choice (get_or held slot 0) choice)) before
        ∙ list_set n (λ slot. set_of choice (λ c. eqb (decision_of decisions c) slot)) (λ slot. set_of (choice + 1) (λ c. eqb (decision_of decisions c) slot)) slot (with_choice (get_or held slot 0) choice)
        (ap (λ x. with_choice x choice) (held_at slot l) ∙ with_next choice (λ c. eqb (decision_of decisions c) slot) h (eq-eqb (decision_of decisions choice) slot (sym told ∙ sym e)))
        (λ j d. sym (set_skip choice (λ c. eqb (decision_of decisions c) j) (ne_eqb (decision_of decisions choice) j (λ k. d (sym k ∙ sym told ∙ sym e)))))
        l

    pub held_out : (slot : ℕ) → slot ≡ decision → n ≤ slot → held ≡ held_by (choice + 1) n decisions
    unfolding held_by
    held_out slot e l =
        before
        ∙ list_ext n (λ slot. set_of choice (λ c. eqb (decision_of decisions c) slot)) (λ slot. set_of (choice + 1) (λ c. eqb (decision_of decisions c) slot))
        (λ j m. sym (set_skip choice (λ c. eqb (decision_of decisions c) j) (ne_eqb (decision_of decisions choice) j (λ k. apart j m (sym k ∙ sym told ∙ sym e)))))
      where
        apart : (j : ℕ) → j < n → j ≡ slot → ⊥
        apart j m z = omega arith

  -- the choices in each of the day's slots
  pub held-part : (choices slots n : ℕ) (held : List ℕ) → slots ≤ n → held ≡ held_by choices n decisions → take slots held ≡ held_by choices slots decisions
  unfolding held_by
  held-part choices slots n held h e =
      ap (take slots) e ∙ list-take slots n (λ slot. set_of choices (λ c. eqb (decision_of decisions c) slot)) h

-- the sets are held against the slots that the day has
pub stuck-by : (choices slots n undecided : ℕ) (decisions sets held : List ℕ) → slots ≤ n → held ≡ held_by choices n decisions → undecided ≡ undecided_of choices decisions
    → some_stuck (take (slots - 0) held) undecided sets ≡ sets_stuck choices slots decisions sets
unfolding sets_stuck
stuck-by choices slots n undecided decisions sets held h e u =
    let z : slots - 0 ≡ slots = omega arith in
    ap₂ (λ (x : List ℕ) (y : ℕ). some_stuck x y sets) (ap (λ k. take k held) z ∙ held-part decisions choices slots n held h e) u

-- no set is stuck where there is none
pub none_stuck : (choices slots : ℕ) (decisions sets : List ℕ) → length sets ≡ 0 → false ≡ sets_stuck choices slots decisions sets
unfolding sets_stuck some_stuck any_of
none_stuck choices slots decisions [] e = refl
none_stuck choices slots decisions (x ∷ l) e = absurd (omega arith)
