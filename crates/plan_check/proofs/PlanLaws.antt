-- Where choices stand: each case of a plan's byte.
use mathlib.Core.Path.{◌≡◌, sym}
use mathlib.Core.Bool.{true, false}
use mathlib.Core.List.{List}
use Prim.Native.Nat.{ℕ, ◌≤◌, ◌<◌}
use borrow.Author.Tests.{eq-eqb, ne_eqb, eqb-true}
use lib.Dec.{eqb}
use lib.ListN.{length, get_or, get_or-eq_default}
use Rattle.base_lists.proofs.Lists.{get_d_any}
use Rattle.base_lists.proofs.Below.{and_left}
use Rattle.plan_check.specs.Plan.{slot_of, omitted, stands_in, omission_allowed}

module _ (plan : List ℕ) (choice : ℕ) where
  -- past the plan's end a choice is omitted; within it the byte decides
  pub slot-past : length plan ≤ choice → 255 ≡ slot_of plan choice
  unfolding slot_of
  slot-past h = sym (get_or-eq_default plan 255 h)

  pub slot-at : choice < length plan → get_or plan choice 0 ≡ slot_of plan choice
  unfolding slot_of
  slot-at h = get_d_any plan choice 0 255 h

  -- omitted or not, by the byte
  pub is-omitted : slot_of plan choice ≡ 255 → omitted plan choice ≡ true
  unfolding omitted
  is-omitted e = eq-eqb _ _ e

  pub not-omitted : (slot_of plan choice ≡ 255 → ⊥) → omitted plan choice ≡ false
  unfolding omitted
  not-omitted n = ne_eqb _ _ n

  -- an omitted choice stands in no slot
  pub stands-omitted : (slot : ℕ) → slot_of plan choice ≡ 255 → stands_in plan choice slot ≡ false
  unfolding stands_in
  stands-omitted slot e = rw (is-omitted e)

  -- a scheduled one stands where its byte says
  pub stands_by : (slot : ℕ) → (slot_of plan choice ≡ 255 → ⊥) → stands_in plan choice slot ≡ eqb (slot_of plan choice) slot
  unfolding stands_in
  stands_by slot n = rw (not-omitted n)

-- an allowed omission is a byte of 255
pub omission_is : (place flag : ℕ) → omission_allowed place flag ≡ true → place ≡ 255
unfolding omission_allowed
omission_is place flag t = eqb-true place 255 (and_left (eqb place 255) (eqb flag 1) t)

-- another byte is no omission that is allowed
pub omission_not : (place flag : ℕ) → (place ≡ 255 → ⊥) → false ≡ omission_allowed place flag
unfolding omission_allowed
omission_not place flag n = rw (ne_eqb _ _ n)

-- for a byte of 255 the flag decides
pub omission_flag : (place flag : ℕ) → place ≡ 255 → eqb flag 1 ≡ omission_allowed place flag
unfolding omission_allowed
omission_flag place flag e = rw e
