-- The part of a roster that a chooser has, and the seats of a choice.
use mathlib.Core.Path.{◌≡◌, sym, ◌∙◌, ap}
use mathlib.Core.Bool.{Bool, true, false, ◌&&◌, ◌||◌}
use mathlib.Core.List.{List}
use Prim.Native.Nat.{ℕ, ◌+◌, ◌*◌, ◌-◌, ◌≤◌, ◌<◌}
use native.Mathlib.Omega.{arith}
use lib.Dec.{eqb, leb}
use lib.ListN.{length, get_or, take, drop}
use Rattle.base_lists.specs.Below.{all_below}
use Rattle.base_lists.proofs.Below.{all_more, one-fails}
use Rattle.base_lists.proofs.Lists.{get_d_any}
use Rattle.plan_check.specs.Plan.{slot_of, omitted}
use Rattle.roster_rows.specs.Cells.{cells_of}
use Rattle.roster_rows.specs.steps.Shapes.{Seated, Tally}
use Rattle.roster_rows.proofs.CellLaws.{cells-part, cells-small}
use Rattle.roster_rows.specs.Seats.{slots_apart}
use Rattle.roster_check.specs.Roster.{seats_of, seats_fit}

-- the part of the roster that the code hands to a chooser
module _ (slots : ℕ) (roster : List ℕ) (chooser at : ℕ) (e : at ≡ chooser * slots) where
  pub part_at : take (at + slots - at) (drop at roster) ≡ cells_of slots roster chooser
  part_at = rw e (cells-part slots roster chooser)

  pub part_small : (choosers : ℕ) → Seated slots choosers roster → chooser < choosers → at + slots ≤ 4800
  part_small choosers k h = rw e (cells-small slots roster chooser choosers k h)

-- the loop over the choosers: one whose slots don't differ ends it, and the others go on
module _ (slots choosers : ℕ) (plan roster : List ℕ) (chooser : ℕ) {cells : List ℕ} (e : cells ≡ cells_of slots roster chooser) {b : Bool} (p : b ≡ slots_apart plan cells) where
  pub one-meets : chooser < choosers → b ≡ false → false ≡ all_below choosers λ k. slots_apart plan (cells_of slots roster k)
  one-meets h f = sym (one-fails choosers (λ k. slots_apart plan (cells_of slots roster k)) chooser h (sym (p ∙ ap (slots_apart plan) e) ∙ f))

  pub none-meets : b ≡ true → all_below chooser (λ k. slots_apart plan (cells_of slots roster k)) ≡ true
      → all_below (chooser + 1) (λ k. slots_apart plan (cells_of slots roster k)) ≡ true
  none-meets t a = all_more (λ k. slots_apart plan (cells_of slots roster k)) chooser a (sym (p ∙ ap (slots_apart plan) e) ∙ t)

-- the test of a choice's seats, as the code has counted them
module _ (mins maxs plan roster : List ℕ) (choice : ℕ) (h : choice < length plan) (few : length plan ≤ 64) {seats : List ℕ} (tally : Tally roster seats)
    {b : Bool} (p : b ≡ (eqb (get_or plan choice 0) 255 || (leb (get_or mins choice 0) (get_or seats choice 0) && leb (get_or seats choice 0) (get_or maxs choice 0)))) where
  seats_say : b ≡ seats_fit mins maxs plan roster choice
  unfolding seats_fit seats_of omitted slot_of
  seats_say = p ∙ rw (get_d_any plan choice 0 255 h, tally.counts choice (omega (arith, h, few)))

  pub seat-fails : {n : ℕ} → choice < n → b ≡ false → false ≡ all_below n (seats_fit mins maxs plan roster)
  seat-fails {n} l f = sym (one-fails n (seats_fit mins maxs plan roster) choice l (sym seats_say ∙ f))

  pub seat-fits : b ≡ true → all_below choice (seats_fit mins maxs plan roster) ≡ true → all_below (choice + 1) (seats_fit mins maxs plan roster) ≡ true
  seat-fits t a = all_more (seats_fit mins maxs plan roster) choice a (sym seats_say ∙ t)
