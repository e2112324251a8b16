-- A pass with enough turns decides: it ends at a goal, or there is no good plan.
use mathlib.Core.Path.{◌≡◌, refl}
use mathlib.Core.List.{List, []}
use mathlib.Core.Logic.{◌⊎◌, inl, inr}
use Prim.Native.Nat.{ℕ, ◌≤◌}
use lib.ListN.{length}
use Rattle.search_rules.specs.Walk.{Sight, goal, over, on, Out, hit, dry, cut, pass}
use Rattle.search_rules.specs.Turns.{turns_enough}
use Rattle.search_rules.proofs.Sound.{hit-goal}
use Rattle.search_rules.proofs.Complete.{Next, NoneGood, dry-none}
use Rattle.search_rules.proofs.Spent.{pass_uncut}

-- a plan is found at a goal, with the turns left and the draws used
pub record FoundIn (sight : List ℕ → Sight) (out : Out) : Type 0 where
  pub left : ℕ
  pub places : List ℕ
  pub drawn : ℕ
  pub ends : out ≡ hit left places drawn
  pub at-goal : sight places ≡ goal

-- no plan is found, and there is no good one
pub record NoneIn (None : Type 0) (out : Out) : Type 0 where
  pub left : ℕ
  pub drawn : ℕ
  pub ends : out ≡ dry left drawn
  pub none-good : None

module _ (sight : List ℕ → Sight) (bucket : List ℕ → ℕ → List ℕ) (draws : List ℕ → ℕ → ℕ)
    {Q : Type 0} (Good : Q → Type 0) (GoesOn : List ℕ → Q → Type 0)
    (grow : (places : List ℕ) (drawn : ℕ) → sight places ≡ on → (plan : Q) → Good plan → GoesOn places plan → Next GoesOn (bucket places drawn) places plan)
    (lone : (places : List ℕ) → sight places ≡ over → (plan : Q) → Good plan → GoesOn [] plan → ⊥)
    (b C : ℕ)
    (small : (places : List ℕ) (drawn : ℕ) → length (bucket places drawn) ≤ b)
    (bottom : (places : List ℕ) (drawn : ℕ) → length places ≡ C → bucket places drawn ≡ []) where
  -- a pass with enough turns ends at a goal, or there is no good plan
  pub pass-decides : (budget drawn : ℕ) → turns_enough b C ≤ budget → FoundIn sight (pass sight bucket draws budget drawn) ⊎ NoneIn (NoneGood Good GoesOn) (pass sight bucket draws budget drawn)
  pass-decides budget drawn h = go (pass sight bucket draws budget drawn) refl
    where
      go : (out : Out) → pass sight bucket draws budget drawn ≡ out → FoundIn sight (pass sight bucket draws budget drawn) ⊎ NoneIn (NoneGood Good GoesOn) (pass sight bucket draws budget drawn)
      go (hit left places drawn') e =
          inl (record { left = left; places = places; drawn = drawn'; ends = e; at-goal = hit-goal sight bucket draws budget drawn left places drawn' e })
      go (dry left drawn') e =
          inr (record { left = left; drawn = drawn'; ends = e; none-good = dry-none sight bucket draws Good GoesOn grow lone budget drawn left drawn' e })
      go (cut drawn') e = absurd (pass_uncut sight bucket draws b C small bottom budget drawn drawn' h e)
