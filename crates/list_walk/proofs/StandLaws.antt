-- A choice takes a place and leaves it again: a law for each way through, and what it is to the walk.
use Rattle.std.proofs.Common.{◌≡◌, ℕ, ◌+◌, ◌-◌, ◌*◌, ◌%◌, ◌^◌, ◌<◌, ◌≤◌, Bool, true, false, ltb, List, [], length, get_or, set, sym, refl, ap, ◌∙◌, arith, ltb-false, ltb-true, le-ltb, lt-ltb, le-leb}
use borrow.Author.Tests.{lt-leb}
use lib.Arith.{digits_mod}
use lib.Seq.{set_out}
use Rattle.day_rows.specs.declared.check.Counts.{Counts}
use Rattle.list_nodes.specs.steps.Walk.{place_of, sums_with, sums_without}
use Rattle.list_nodes.proofs.PlaceLaws.{with_omission, with_slot, without_omission, without-slot}
use Rattle.list_walk.specs.steps.Sight.{still_open}
use Rattle.list_walk.specs.steps.Stand.{has_sum, put_at, added_at, taken_at, Taken, LeftPlace}

-- the plan with a choice at a place: the ways through put_place
module _ (slots choice at : ℕ) (plan : List ℕ) where
  pub put-past : 24 < slots → plan ≡ put_at slots choice at plan
  unfolding put_at
  put-past h = rw (lt-leb _ _ h)

  pub put-none : slots ≤ 24 → length plan ≤ choice → plan ≡ put_at slots choice at plan
  unfolding put_at
  put-none h n = rw (le-leb _ _ h) (sym (set_out plan choice (place_of slots at) n))

  pub put-out : slots ≤ 24 → slots ≤ at → set plan choice 255 ≡ put_at slots choice at plan
  unfolding put_at place_of
  put-out h n = rw (le-leb _ _ h, le-ltb _ _ n)

  pub put_in : slots ≤ 24 → at < slots → set plan choice at ≡ put_at slots choice at plan
  unfolding put_at place_of
  put_in h n = rw (le-leb _ _ h, lt-ltb _ _ n)

-- the sums with an amount more or less at a place: the ways through add_at and take_at
module _ (slots at amount : ℕ) (sums : List ℕ) where
  pub added-past : 24 < slots → sums ≡ added_at slots at amount sums
  unfolding added_at has_sum
  added-past h = rw (lt-leb _ _ h)

  pub added_out : slots ≤ 24 → slots ≤ at → sums ≡ added_at slots at amount sums
  unfolding added_at has_sum
  added_out h n = rw (le-leb _ _ h, le-ltb _ _ n)

  pub added_in : {sum : ℕ} → slots ≤ 24 → at < slots → sum ≡ (get_or sums at 0 + amount) % 2 ^ 64 → set sums at sum ≡ added_at slots at amount sums
  unfolding added_at has_sum
  added_in h n e = rw (le-leb _ _ h, lt-ltb _ _ n, e)

  pub taken-past : 24 < slots → sums ≡ taken_at slots at amount sums
  unfolding taken_at has_sum
  taken-past h = rw (lt-leb _ _ h)

  pub taken_out : slots ≤ 24 → slots ≤ at → sums ≡ taken_at slots at amount sums
  unfolding taken_at has_sum
  taken_out h n = rw (le-leb _ _ h, le-ltb _ _ n)

  pub taken_in : {sum : ℕ} → slots ≤ 24 → at < slots → sum ≡ get_or sums at 0 - amount → set sums at sum ≡ taken_at slots at amount sums
  unfolding taken_at has_sum
  taken_in h n e = rw (le-leb _ _ h, lt-ltb _ _ n, e)

-- on a day, with sums that a day can have, the sums with a choice at its place are the walk's sums
module _ (slots at choice : ℕ) (amounts sums : List ℕ) {amount : ℕ} (few : slots ≤ 24) (h : at ≤ slots) (e : amount ≡ get_or amounts choice 0) where
  pub added_with : amount < 2 ^ 16 → get_or sums at 0 ≤ 2 ^ 32 → added_at slots at amount sums ≡ sums_with slots amounts sums choice (place_of slots at)
  added_with a b = go (ltb at slots) refl
    where
      whole : (get_or sums at 0 + amount) % 2 ^ 64 ≡ get_or sums at 0 + amount
      whole =
          let z : get_or sums at 0 + amount ≡ 0 * 2 ^ 64 + (get_or sums at 0 + amount) = omega arith in
          ap (λ (n : ℕ). n % 2 ^ 64) z ∙ digits_mod 0 {m = 2 ^ 64} (omega (arith, a, b))

      go : (c : Bool) → ltb at slots ≡ c → added_at slots at amount sums ≡ sums_with slots amounts sums choice (place_of slots at)
      go true t =
          let n : at < slots = ltb-true _ _ t in
          sym (added_in slots at amount sums few n refl) ∙ ap (set sums at) whole ∙ with_slot slots 0 amounts [] sums choice at n e
      go false t =
          let n : slots ≤ at = ltb-false _ _ t in
          sym (added_out slots at amount sums few n) ∙ with_omission slots 0 amounts [] sums choice at (omega (arith, n)) few

  pub taken-without : taken_at slots at amount sums ≡ sums_without slots amounts sums choice (place_of slots at)
  taken-without = go (ltb at slots) refl
    where
      go : (c : Bool) → ltb at slots ≡ c → taken_at slots at amount sums ≡ sums_without slots amounts sums choice (place_of slots at)
      go true t =
          let n : at < slots = ltb-true _ _ t in
          sym (taken_in slots at amount sums few n refl) ∙ without-slot slots 0 amounts [] sums choice at n e
      go false t =
          let n : slots ≤ at = ltb-false _ _ t in
          sym (taken_out slots at amount sums few n) ∙ without_omission slots 0 amounts [] sums choice at (omega (arith, n)) few

-- a choice that has taken a place stands where the walk has it
pub stood_as : {slots choice left : ℕ} {mins maxs plan plan' sums sums' fills fills' : List ℕ} {at least most : ℕ}
    → Taken slots choice left mins maxs plan plan' sums sums' fills fills' at least most
    → (slots ≤ 24) × (0 < left) × (get_or sums (slots + 1 - left) 0 ≤ 2 ^ 32) × (get_or fills (slots + 1 - left) 0 ≤ 2 ^ 32)
    → (plan' ≡ set plan choice (place_of slots (slots + 1 - left))) × (sums' ≡ sums_with slots mins sums choice (place_of slots (slots + 1 - left)))
    × (fills' ≡ sums_with slots maxs fills choice (place_of slots (slots + 1 - left))) × (get_or maxs choice 0 < 2 ^ 16)
unfolding put_at
stood_as {slots} {choice} {left} {mins} {maxs} {plan} {plan'} {sums} {sums'} {fills} {fills'} {at} t k =
    let e : slots + 1 - left ≡ at = omega (arith, t.place, k.1) in
    let h : at ≤ slots = omega (arith, t.place) in
    rw e (
      t.placed ∙ rw (le-leb _ _ k.0),
      t.summed ∙ added_with slots at choice mins sums k.0 h t.minimum t.low.0 (rw e at k.2),
      t.filled ∙ added_with slots at choice maxs fills k.0 h t.maximum t.low.1 (rw e at k.3),
      rw (sym t.maximum) t.low.1,
    )

-- a choice that has left its place gives back what the walk says
pub left_as : {slots choice left : ℕ} {mins maxs plan plan' sums sums' fills fills' : List ℕ} {at least most : ℕ} {sums₁ sums₂ fills₁ fills₂ : List ℕ}
    → Taken slots choice left mins maxs plan plan' sums sums' fills fills' at least most
    → LeftPlace slots at least most sums₁ sums₂ fills₁ fills₂ → (slots ≤ 24) × (0 < left)
    → (sums₂ ≡ sums_without slots mins sums₁ choice (place_of slots (slots + 1 - left))) × (fills₂ ≡ sums_without slots maxs fills₁ choice (place_of slots (slots + 1 - left)))
left_as {slots} {choice} {left} {mins} {maxs} {at = at} {sums₁ = sums₁} {fills₁ = fills₁} t v k =
    let e : slots + 1 - left ≡ at = omega (arith, t.place, k.1) in
    let h : at ≤ slots = omega (arith, t.place) in
    rw e (
      v.summed ∙ taken-without slots at choice mins sums₁ k.0 h t.minimum,
      v.filled ∙ taken-without slots at choice maxs fills₁ k.0 h t.maximum,
    )

-- what is still open after the choice's place, by the number of places left
pub passed_as : (counts : Counts) (start rows sums₁ fills₁ : List ℕ) (opened : ℕ) {choice left : ℕ} {mins maxs plan plan' sums sums' fills fills' : List ℕ} {at least most : ℕ} {unmet none : Bool} {still : ℕ}
    → Taken counts.slots choice left mins maxs plan plan' sums sums' fills fills' at least most → (counts.slots ≤ 24) × (0 < left) → unmet ≡ none
    → still ≡ still_open counts choice start rows sums₁ fills₁ at unmet opened
    → still ≡ still_open counts choice start rows sums₁ fills₁ (counts.slots + 1 - left) none opened
passed_as counts start rows sums₁ fills₁ opened {left = left} {at = at} t k u w =
    let e : counts.slots + 1 - left ≡ at = omega (arith, t.place, k.1) in
    rw (e, sym u) w
