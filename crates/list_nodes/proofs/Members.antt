-- What stands in the list of placements and in the list of plans: each placement of its length, and nothing
-- else.
use mathlib.Core.Path.{◌≡◌, refl, sym, ap, ◌∙◌}
use mathlib.Core.Bool.{Bool, true, false, ◌||◌}
use mathlib.Core.List.Memᴰ
use mathlib.Core.List.{List, [], ◌∷◌, map, Memᴰ}
use mathlib.Core.Logic.{◌⊎◌, inl, inr, ⊎_elim}
use Prim.Native.Nat.{ℕ, zero, suc, ◌+◌, ◌≤◌, ◌<◌}
use native.Mathlib.Decide.{ℕ_discrete}
use native.Mathlib.Omega.{arith}
use borrow.Author.Tests.{ltb-true}
use lib.Arith.{lt_of_le-ne}
use lib.Dec.{ltb}
use lib.ListN.{length, get_or}
use Rattle.base_lists.proofs.Below.{all-each}
use Rattle.base_lists.proofs.Keep.{in_map, map_in, in_flat_map, flat_map_in, kept_in, in_kept}
use Rattle.plan_check.specs.Day.{Day}
use Rattle.plan_check.specs.Plan.{slot_of}
use Rattle.plan_check.specs.Feasible.{omission_allowed, place_allowed, places_allowed, feasible}
use Rattle.plan_check.proofs.PlanLaws.{omission_is}
use Rattle.list_nodes.specs.Placements.{slots_from, places, placements, plans}
use Rattle.list_nodes.proofs.PageLaws.{Sized, none, more}
use Rattle.list_nodes.proofs.StartLaws.{node_facts, feasible-node}

-- every placement of n choices has n places
pub placement_length : (slots n : ℕ) (plan : List ℕ) → Memᴰ plan (placements slots n) → length plan ≡ n
unfolding placements
placement_length slots zero plan m = ap length (Memᴰ.eq_of_singleton m)
placement_length slots (suc n) plan m =
    let r = in_flat_map (λ place. map (λ rest. place ∷ rest) (placements slots n)) (places slots) plan m in
    let q = in_map (λ rest. r.0 ∷ rest) (placements slots n) plan r.2 in
    ap length q.2 ∙ ap suc (placement_length slots n q.0 q.1)

-- nothing but feasible plans stands in the list: what does is feasible and has a place for each choice
pub listed-feasible : (day : Day) (plan : List ℕ) → Memᴰ plan (plans day) → (feasible day plan ≡ true) × (length plan ≡ day.counts.choices)
unfolding plans
listed-feasible day plan m =
    let k = kept_in (feasible day) (placements day.counts.slots day.counts.choices) plan m in
    (k.1, placement_length day.counts.slots day.counts.choices plan k.0)

sized_of : (size : ℕ) (l : List (List ℕ)) → ((plan : List ℕ) → Memᴰ plan l → length plan ≡ size) → Sized size l
sized_of size [] h = none
sized_of size (plan ∷ l) h = more (h plan (Memᴰ.head refl)) (sized_of size l λ p m. h p (Memᴰ.tail m))

pub sized-plans : (day : Day) → Sized day.counts.choices (plans day)
sized-plans day = sized_of day.counts.choices (plans day) λ plan m. (listed-feasible day plan m).1

-- ---- each placement stands in the list

slot_in : (n first slot : ℕ) → first ≤ slot → slot < first + n → Memᴰ slot (slots_from first n)
unfolding slots_from
slot_in zero first slot a b = absurd (omega arith)
slot_in (suc n) first slot a b =
    elim (ℕ_discrete slot first) [
      | yes e ↦ Memᴰ.head e
      | no m ↦ Memᴰ.tail (slot_in n (suc first) slot (lt_of_le-ne a (λ e. m (sym e))) (omega arith))
    ]

place_in : (slots place : ℕ) → (place < slots) ⊎ (place ≡ 255) → Memᴰ place (places slots)
unfolding places
place_in slots place w =
    ⊎_elim (λ h. Memᴰ.append_left (255 ∷ []) (slot_in slots 0 place (omega arith) (omega arith)))
    (λ e. Memᴰ.append_right (slots_from 0 slots) (Memᴰ.head e)) w

-- a plan of which each cell is a slot or 255 is a placement
pub placement_in : (slots : ℕ) (plan : List ℕ) → ((choice : ℕ) → choice < length plan → (slot_of plan choice < slots) ⊎ (slot_of plan choice ≡ 255))
    → Memᴰ plan (placements slots (length plan))
unfolding placements slot_of
placement_in slots [] h = Memᴰ.head refl
placement_in slots (place ∷ rest) h =
    flat_map_in (λ place. map (λ rest. place ∷ rest) (placements slots (length rest))) (places slots) place (place ∷ rest)
    (place_in slots place (h 0 (omega arith)))
    (map_in (λ rest. place ∷ rest) (placements slots (length rest)) rest (placement_in slots rest λ choice l. h (suc choice) (omega arith)))

feasible-cells : (day : Day) (plan : List ℕ) → feasible day plan ≡ true → (choice : ℕ) → choice < length plan
    → (slot_of plan choice < day.counts.slots) ⊎ (slot_of plan choice ≡ 255)
unfolding places_allowed place_allowed
feasible-cells day plan t choice h =
    go (ltb (slot_of plan choice) day.counts.slots) refl
    (all-each (length plan) (λ c. ltb (slot_of plan c) day.counts.slots || omission_allowed (slot_of plan c) (get_or day.optional c 0)) (node_facts day plan (feasible-node day plan t)).allowed choice h)
  where
    go : (b : Bool) → ltb (slot_of plan choice) day.counts.slots ≡ b → (b || omission_allowed (slot_of plan choice) (get_or day.optional choice 0)) ≡ true
        → (slot_of plan choice < day.counts.slots) ⊎ (slot_of plan choice ≡ 255)
    go true e t = inl (ltb-true _ _ e)
    go false e t = inr (omission_is _ _ t)

-- 'every feasible plan' stands in the list
pub feasible-listed : (day : Day) (plan : List ℕ) → length plan ≡ day.counts.choices → feasible day plan ≡ true → Memᴰ plan (plans day)
unfolding plans
feasible-listed day plan e t =
    in_kept (feasible day) (placements day.counts.slots day.counts.choices) plan
    (rw (sym e) (placement_in day.counts.slots plan (feasible-cells day plan t)))
    t
