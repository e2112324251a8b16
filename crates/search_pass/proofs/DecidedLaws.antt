-- What is decided along a pass: a choice that comes later in the order is undecided, and a step back undoes a
-- step down.
use mathlib.Core.Path.{◌≡◌, refl, sym, ◌∙◌, ap}
use mathlib.Core.List.{List, [], ◌∷◌}
use Prim.Native.Nat.{ℕ, ◌≤◌, ◌<◌}
use native.Mathlib.Omega.{arith}
use lib.ListN.{length, get_or, set, replicate, length-replicate, length-set, get_or-replicate}
use lib.Seq.{get_or-set_other, set-set, set-get_or}
use Rattle.search_rules.specs.Decided.{decided}

-- an entry for each choice that there may be
pub decided-length : (order places : List ℕ) → length (decided order places) ≡ 64
unfolding decided
decided-length order [] = length-replicate {A = ℕ} 64 254
decided-length order (place ∷ places) = length-set (decided order places) (get_or order (length places) 0) place ∙ decided-length order places

-- nothing is decided at depth 0
pub decided-none : (order : List ℕ) → decided order [] ≡ replicate 64 254
unfolding decided
decided-none order = refl

-- a step down
pub decided-more : (order places : List ℕ) (place : ℕ) → decided order (place ∷ places) ≡ set (decided order places) (get_or order (length places) 0) place
unfolding decided
decided-more order places place = refl

module _ (choices : ℕ) (order : List ℕ) (few : choices ≤ 64) (within : (i : ℕ) → i < choices → get_or order i 0 < choices)
    (apart : (i j : ℕ) → i < j → j < choices → get_or order i 0 ≡ get_or order j 0 → ⊥) where
  -- a choice that comes later in the order is undecided
  pub later-undecided : (places : List ℕ) (i : ℕ) → length places ≤ i → i < choices → get_or (decided order places) (get_or order i 0) 254 ≡ 254
  unfolding decided
  later-undecided [] i l h = get_or-replicate {A = ℕ} 64 (get_or order i 0) 254 254 (omega (arith, within i h))
  later-undecided (place ∷ places) i l h =
      get_or-set_other (decided order places) (get_or order (length places) 0) (get_or order i 0) place 254 (λ e. apart (length places) i (omega arith) h (sym e))
      ∙ later-undecided places i (omega arith) h

  -- a step back undoes a step down
  pub step_back_lem : (place : ℕ) (places : List ℕ) → length places < choices
      → set (decided order (place ∷ places)) (get_or order (length places) 0) 254 ≡ decided order places
  step_back_lem place places h =
      let at = get_or order (length places) 0 in
      ap (λ (l : List ℕ). set l at 254) (decided-more order places place)
      ∙ set-set (decided order places) at place 254
      ∙ ap (λ (byte : ℕ). set (decided order places) at byte) (sym (later-undecided places (length places) (omega arith) h))
      ∙ set-get_or (decided order places) at 254
