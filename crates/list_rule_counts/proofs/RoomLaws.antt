-- What the slots have room for, as the code comes by it.
use mathlib.Core.Path.{◌≡◌, refl, sym, ◌∙◌, ap}
use mathlib.Core.Bool.{Bool, true, false, ◌&&◌, cond}
use mathlib.Core.List.{List}
use Prim.Native.Nat.{ℕ, suc, ◌+◌, ◌-◌, ◌≤◌, ◌<◌}
use native.Mathlib.Numerals.{add-one}
use native.Mathlib.Omega.{arith}
use borrow.Author.Tests.{lt-ltb, le-ltb}
use lib.Dec.{leb}
use lib.ListN.{get_or, set}
use Rattle.base_choice_sets.specs.Sets.{has}
use Rattle.list_domains.specs.steps.Domains.{kept_places, each_below}
use Rattle.list_domains.proofs.DomainLaws.{each_same}
use Rattle.list_rule_tables.specs.steps.Figures.{first_in}
use Rattle.list_rule_tables.proofs.FigureLaws.{first-before}
use Rattle.list_rule_counts.specs.steps.CountRule.{room_rule, slot_rule, rooms_below}
use Rattle.list_rule_counts.proofs.WantLaws.{each_more}

-- ---- one choice

module _ (entry : ℕ → ℕ → ℕ → ℕ) (free : Bool) (from lack most room slot domain : ℕ) where
  pub left-settled : free ≡ false
      → domain ≡ cond (free && leb room (suc (entry 0 from (lack - most)))) (kept_places domain slot false true) domain
  left-settled f = rw f

  module _ (wide rest others : ℕ) (full : Bool) (f : free ≡ true) (w : wide ≡ most) (r : rest ≡ lack - wide) (o : others ≡ entry 0 from rest)
      (e : full ≡ leb room (others + 1)) where
    full_is : leb room (suc (entry 0 from (lack - most))) ≡ full
    full_is =
        ap (λ (x : ℕ). leb room (suc (entry 0 from (lack - x)))) (sym w) ∙ ap (λ (x : ℕ). leb room (suc (entry 0 from x))) (sym r)
        ∙ ap (λ (x : ℕ). leb room (suc x)) (sym o) ∙ ap (λ (x : ℕ). leb room x) (sym (add-one others)) ∙ sym e

    pub left-room : full ≡ false → domain ≡ cond (free && leb room (suc (entry 0 from (lack - most)))) (kept_places domain slot false true) domain
    left-room t = rw (f, full_is, t)

    pub left-full : (result : ℕ) → full ≡ true → result ≡ kept_places domain slot false true
        → result ≡ cond (free && leb room (suc (entry 0 from (lack - most)))) (kept_places domain slot false true) domain
    left-full result t k = rw (f, full_is, t) k

-- ---- every choice, and every slot

module _ (entry : ℕ → ℕ → ℕ → ℕ) (maxs : List ℕ) (free from : ℕ) (lacks rooms : List ℕ) where
  -- no choice before the first free one loses a place
  pub slot-start : (choices slot : ℕ) (domains : List ℕ) → from ≡ first_in choices free → domains ≡ each_below from (room_rule entry maxs free from lacks rooms slot) domains
  unfolding room_rule
  slot-start choices slot domains e =
      sym (each_same from (room_rule entry maxs free from lacks rooms slot) domains λ choice h. rw (first-before choices free from e choice h))

  pub slot_step : (n slot room lack most : ℕ) (first domains : List ℕ) (v : ℕ) (inside : Bool) → room ≡ get_or rooms slot 0 → lack ≡ get_or lacks slot 0 → most ≡ get_or maxs n 0
      → domains ≡ each_below n (room_rule entry maxs free from lacks rooms slot) first → inside ≡ has free n
      → v ≡ cond (inside && leb room (suc (entry 0 from (lack - most)))) (kept_places (get_or domains n 0) slot false true) (get_or domains n 0)
      → set domains n v ≡ each_below (n + 1) (room_rule entry maxs free from lacks rooms slot) first
  unfolding room_rule
  slot_step n slot room lack most first domains v inside r l m e i h =
      each_more n (room_rule entry maxs free from lacks rooms slot) first domains v e (h ∙ rw (i, r, l, m))

module _ (entry : ℕ → ℕ → ℕ → ℕ) (choices : ℕ) (maxs : List ℕ) (free from : ℕ) (lacks rooms : List ℕ) where
  pub slot-wide : (slot room : ℕ) (domains : List ℕ) → room ≡ get_or rooms slot 0 → 64 < room → domains ≡ slot_rule entry choices maxs free from lacks rooms slot domains
  unfolding slot_rule
  slot-wide slot room domains e h = rw (lt-ltb 64 (get_or rooms slot 0) (omega (arith, e)))

  pub slot-end : (slot room n : ℕ) (first domains : List ℕ) → room ≡ get_or rooms slot 0 → room ≤ 64 → n ≡ choices
      → domains ≡ each_below n (room_rule entry maxs free from lacks rooms slot) first → domains ≡ slot_rule entry choices maxs free from lacks rooms slot first
  unfolding slot_rule
  slot-end slot room n first domains e h k d =
      rw (le-ltb 64 (get_or rooms slot 0) (omega (arith, e)))
      (d ∙ ap (λ (x : ℕ). each_below x (room_rule entry maxs free from lacks rooms slot) first) k)

  pub rooms_start : (domains : List ℕ) → domains ≡ rooms_below entry choices maxs free from lacks rooms 0 domains
  unfolding rooms_below
  rooms_start domains = refl

  pub rooms_step : (slot : ℕ) (first domains after : List ℕ) → domains ≡ rooms_below entry choices maxs free from lacks rooms slot first
      → after ≡ slot_rule entry choices maxs free from lacks rooms slot domains → after ≡ rooms_below entry choices maxs free from lacks rooms (slot + 1) first
  unfolding rooms_below
  rooms_step slot first domains after d a = rw (add-one slot) (a ∙ ap (λ (x : List ℕ). slot_rule entry choices maxs free from lacks rooms slot x) d)
