-- The pass over the choices and the pass over the slots: each slot's sums as they grow, and what they decide.
use mathlib.Core.Path.{◌≡◌, refl, sym, ◌∙◌, ap}
use mathlib.Core.Bool.{Bool, true, false, ◌&&◌, cond, false≢true}
use mathlib.Core.List.{List}
use Prim.Native.Nat.{ℕ, zero, suc, ◌+◌, ◌*◌, ◌≤◌, ◌<◌, ◌^◌}
use native.Mathlib.Decide.{ℕ_discrete}
use native.Mathlib.Omega.{arith}
use borrow.Author.Tests.{lt-ltb, le-ltb, le-leb, lt-leb, eq-eqb, ne_eqb}
use lib.Dec.{leb}
use lib.ListN.{length, get_or, set, replicate, length-set}
use lib.Seq.{get_or-set_same, get_or-set_other}
use Rattle.base_lists.specs.Below.{all_below, sum_below}
use Rattle.base_lists.proofs.Below.{all_more, one-fails, sum_more}
use Rattle.base_lists.proofs.Sums.{all_ext, count-sum, sum-word}
use Rattle.plan_check.specs.Plan.{slot_of, stands_in, count_in, sum_up_to, sum_in}
use Rattle.plan_check.specs.Feasible.{omission_allowed, place_allowed, places_allowed, slot_fits}
use Rattle.plan_check.specs.steps.Sums.{Sums, Added, listed_fits}
use Rattle.plan_check.proofs.PlanLaws.{slot-at, stands-omitted, stands_by}

-- the first choices' sums stand in the list, slot by slot
unfoldable pub Summing : ℕ → (ℕ → ℕ) → List ℕ → List ℕ → Type 0
Summing choices amount plan sums = (slot : ℕ) → get_or sums slot 0 ≡ sum_up_to choices amount plan slot

zeros-at : (n i : ℕ) → get_or {A = ℕ} (replicate n 0) i 0 ≡ 0
zeros-at zero i = refl
zeros-at (suc n) zero = refl
zeros-at (suc n) (suc i) = zeros-at n i

module _ (amount : ℕ → ℕ) (plan : List ℕ) where
  pub summing_none : (n : ℕ) → Summing 0 amount plan (replicate n 0)
  unfolding Summing sum_up_to sum_below
  summing_none n slot = zeros-at n slot

  -- one choice more
  sum_step : (n slot : ℕ) → sum_up_to (n + 1) amount plan slot ≡ sum_up_to n amount plan slot + cond (stands_in plan n slot) (amount n) 0
  unfolding sum_up_to
  sum_step n slot = sum_more (λ choice. cond (stands_in plan choice slot) (amount choice) 0) n

  step_in : (n slot : ℕ) → stands_in plan n slot ≡ true → sum_up_to (n + 1) amount plan slot ≡ sum_up_to n amount plan slot + amount n
  step_in n slot t = rw (sum_step n slot, t)

  step-out : (n slot : ℕ) → stands_in plan n slot ≡ false → sum_up_to (n + 1) amount plan slot ≡ sum_up_to n amount plan slot
  step-out n slot t = rw (sum_step n slot, t) (omega arith)

  -- an omitted choice adds to no slot
  pub summing_skip : (n : ℕ) (sums : List ℕ) → Summing n amount plan sums → slot_of plan n ≡ 255 → Summing (n + 1) amount plan sums
  unfolding Summing
  summing_skip n sums h e slot = h slot ∙ sym (step-out n slot (stands-omitted plan n slot e))

  -- a scheduled one adds to its own slot
  pub summing_put : (n : ℕ) (sums : List ℕ) (at v : ℕ) → Summing n amount plan sums → length sums ≡ 24 → slot_of plan n ≡ at → at < 24 → v ≡ amount n
      → Summing (n + 1) amount plan (set sums at (get_or sums at 0 + v))
  unfolding Summing
  summing_put n sums at v h l e b a slot =
      elim (ℕ_discrete slot at) [
        | yes q ↦
            rw (q, get_or-set_same sums at (get_or sums at 0 + v) 0 (omega arith))
            (ap (λ (x : ℕ). x + v) (h at) ∙ ap (λ (x : ℕ). sum_up_to n amount plan at + x) a
            ∙ sym (step_in n at (stands_by plan n at (omega arith) ∙ eq-eqb _ _ e)))
        | no q ↦
            get_or-set_other sums at slot (get_or sums at 0 + v) 0 q ∙ h slot
            ∙ sym (step-out n slot (stands_by plan n slot (omega arith) ∙ ne_eqb _ _ λ z. q (sym z ∙ e)))
      ]

  -- sums fit in 32 bits: the first n choices' amounts of 16 bits sum to at most 65,535 each
  pub sum_fits : (n slot : ℕ) → ((k : ℕ) → amount k ≤ 65535) → sum_up_to n amount plan slot ≤ 65535 * n
  unfolding sum_up_to
  sum_fits n slot h = sum-word n (λ choice. cond (stands_in plan choice slot) (amount choice) 0) λ k hk. go (stands_in plan k slot) (h k)
    where
      go : (b : Bool) {x : ℕ} → x ≤ 65535 → cond b x 0 ≤ 65535
      go true h = h
      go false h = omega arith

  pub room : (n slot v : ℕ) (sums : List ℕ) → Summing n amount plan sums → ((k : ℕ) → amount k ≤ 65535) → n ≤ 64 → v ≤ 65535 → get_or sums slot 0 + v < 2 ^ 32
  unfolding Summing
  room n slot v sums h b f g = omega (arith, h slot, sum_fits n slot b)

-- the pass over the choices, after the first n of them: they are allowed, and their sums stand in the lists
pub record Adding (slots : ℕ) (mins maxs optional plan : List ℕ) (n : ℕ) (slot_min slot_max sizes : List ℕ) : Type 0 where
  pub within : n ≤ length plan
  pub allowed : all_below n (place_allowed slots optional plan) ≡ true
  pub min-length : length slot_min ≡ 24
  pub max-length : length slot_max ≡ 24
  pub sizes-length : length sizes ≡ 24
  pub min-sums : Summing n (λ choice. get_or mins choice 0) plan slot_min
  pub max-sums : Summing n (λ choice. get_or maxs choice 0) plan slot_max
  pub counted : Summing n (λ choice. 1) plan sizes

module _ (slots : ℕ) (mins maxs optional plan : List ℕ) where
  -- a choice in a slot of the day is allowed, another by the omission's test
  place-slot : (n : ℕ) → slot_of plan n < slots → place_allowed slots optional plan n ≡ true
  unfolding place_allowed
  place-slot n h = rw (lt-ltb _ _ h)

  place_other : (n : ℕ) → slots ≤ slot_of plan n → place_allowed slots optional plan n ≡ omission_allowed (slot_of plan n) (get_or optional n 0)
  unfolding place_allowed
  place_other n h = rw (le-ltb _ _ h)

  pub adding_start : (slot_min slot_max sizes : List ℕ) → slot_min ≡ replicate 24 0 → slot_max ≡ replicate 24 0 → sizes ≡ replicate 24 0
      → Adding slots mins maxs optional plan 0 slot_min slot_max sizes
  unfolding all_below
  adding_start slot_min slot_max sizes a b c =
      record {
        within = omega arith;
        allowed = refl;
        min-length = rw a;
        max-length = rw b;
        sizes-length = rw c;
        min-sums = rw a (summing_none (λ choice. get_or mins choice 0) plan 24);
        max-sums = rw b (summing_none (λ choice. get_or maxs choice 0) plan 24);
        counted = rw c (summing_none (λ choice. 1) plan 24);
      }

  module _ (n : ℕ) (slot_min slot_max sizes : List ℕ) (k : Adding slots mins maxs optional plan n slot_min slot_max sizes) (h : n < length plan) where
    -- a choice that stands in no slot of the day
    other-allowed : slots ≤ get_or plan n 0 → place_allowed slots optional plan n ≡ omission_allowed (get_or plan n 0) (get_or optional n 0)
    other-allowed o = rw (slot-at plan n h) (place_other n (rw (slot-at plan n h) at o))

    pub adding_skip : slots ≤ get_or plan n 0 → omission_allowed (get_or plan n 0) (get_or optional n 0) ≡ true → get_or plan n 0 ≡ 255
        → Adding slots mins maxs optional plan (n + 1) slot_min slot_max sizes
    adding_skip o t e =
        let e' : slot_of plan n ≡ 255 = sym (slot-at plan n h) ∙ e in
        record {
          within = omega arith;
          allowed = all_more (place_allowed slots optional plan) n k.allowed (other-allowed o ∙ t);
          min-length = k.min-length;
          max-length = k.max-length;
          sizes-length = k.sizes-length;
          min-sums = summing_skip (λ choice. get_or mins choice 0) plan n slot_min k.min-sums e';
          max-sums = summing_skip (λ choice. get_or maxs choice 0) plan n slot_max k.max-sums e';
          counted = summing_skip (λ choice. 1) plan n sizes k.counted e';
        }

    pub adding_put : (at a b : ℕ) (slot_min' slot_max' sizes' : List ℕ) → at ≡ get_or plan n 0 → at < slots → slots ≤ 24 → a ≡ get_or mins n 0 → b ≡ get_or maxs n 0
        → slot_min' ≡ set slot_min at (get_or slot_min at 0 + a) → slot_max' ≡ set slot_max at (get_or slot_max at 0 + b) → sizes' ≡ set sizes at (get_or sizes at 0 + 1)
        → Adding slots mins maxs optional plan (n + 1) slot_min' slot_max' sizes'
    adding_put at a b slot_min' slot_max' sizes' e lo few ea eb p q r =
        let e' : slot_of plan n ≡ at = sym (e ∙ slot-at plan n h) in
        record {
          within = omega arith;
          allowed = all_more (place_allowed slots optional plan) n k.allowed (place-slot n (omega arith));
          min-length = rw p (simp length-set k.min-length);
          max-length = rw q (simp length-set k.max-length);
          sizes-length = rw r (simp length-set k.sizes-length);
          min-sums = rw p (summing_put (λ choice. get_or mins choice 0) plan n slot_min at a k.min-sums k.min-length e' (omega arith) ea);
          max-sums = rw q (summing_put (λ choice. get_or maxs choice 0) plan n slot_max at b k.max-sums k.max-length e' (omega arith) eb);
          counted = rw r (summing_put (λ choice. 1) plan n sizes at 1 k.counted k.sizes-length e' (omega arith) refl);
        }

    -- an omission that isn't allowed ends the pass
    pub adding_refused : slots ≤ get_or plan n 0 → omission_allowed (get_or plan n 0) (get_or optional n 0) ≡ false
        → Added slots mins maxs optional plan false slot_min slot_max sizes
    unfolding places_allowed
    adding_refused o t =
        record {
          answer = sym (one-fails (length plan) (place_allowed slots optional plan) n h (other-allowed o ∙ t));
          min-sums = λ z. absurd (false≢true z);
          max-sums = λ z. absurd (false≢true z);
          counted = λ z. absurd (false≢true z);
        }

  pub adding_done : (n : ℕ) (slot_min slot_max sizes : List ℕ) → Adding slots mins maxs optional plan n slot_min slot_max sizes → length plan ≤ n
      → Added slots mins maxs optional plan true slot_min slot_max sizes
  unfolding places_allowed Sums sum_in count_in sum_up_to Summing
  adding_done n slot_min slot_max sizes k h =
      let e : n ≡ length plan = omega arith in
      record {
        answer = sym (rw e at k.allowed);
        min-sums = λ z. rw e at k.min-sums;
        max-sums = λ z. rw e at k.max-sums;
        counted =
            λ z. record {
              entries = k.sizes-length;
              counts = λ slot. (rw e at k.counted) slot ∙ sym (count-sum (length plan) λ choice. stands_in plan choice slot);
            };
      }

-- the pass over the slots, with the sums that the code has read off the lists
module _ (choosers : ℕ) (slot_min slot_max : List ℕ) (slot : ℕ) {low : ℕ} where
  pub slots-over : (slots : ℕ) → slot < slots → low ≡ get_or slot_min slot 0 → choosers < low → false ≡ all_below slots (listed_fits choosers slot_min slot_max)
  unfolding listed_fits
  slots-over slots h l o =
      sym (one-fails slots (λ s. leb (get_or slot_min s 0) choosers && leb choosers (get_or slot_max s 0)) slot h (rw (sym l, lt-leb _ _ o)))

  pub slots-under : {high : ℕ} (slots : ℕ) → slot < slots → low ≡ get_or slot_min slot 0 → low ≤ choosers → high ≡ get_or slot_max slot 0 → high < choosers
      → false ≡ all_below slots (listed_fits choosers slot_min slot_max)
  unfolding listed_fits
  slots-under slots h l g u o =
      sym (one-fails slots (λ s. leb (get_or slot_min s 0) choosers && leb choosers (get_or slot_max s 0)) slot h (rw (sym l, sym u, le-leb _ _ g, lt-leb _ _ o)))

  pub slots-more : {high : ℕ} → all_below slot (listed_fits choosers slot_min slot_max) ≡ true → low ≡ get_or slot_min slot 0 → low ≤ choosers → high ≡ get_or slot_max slot 0 → choosers ≤ high
      → all_below (slot + 1) (listed_fits choosers slot_min slot_max) ≡ true
  unfolding listed_fits
  slots-more a l g u o =
      all_more (λ s. leb (get_or slot_min s 0) choosers && leb choosers (get_or slot_max s 0)) slot a (rw (sym l, sym u, le-leb _ _ g, le-leb _ _ o))

-- the lists' sums are the slots' sums
listed-all : (slots choosers : ℕ) (mins maxs plan slot_min slot_max : List ℕ) → Sums mins plan slot_min → Sums maxs plan slot_max
    → all_below slots (listed_fits choosers slot_min slot_max) ≡ all_below slots (slot_fits choosers mins maxs plan)
unfolding listed_fits slot_fits Sums
listed-all slots choosers mins maxs plan slot_min slot_max a b =
    all_ext slots (λ slot. leb (get_or slot_min slot 0) choosers && leb choosers (get_or slot_max slot 0))
    (λ slot. leb (sum_in mins plan slot) choosers && leb choosers (sum_in maxs plan slot))
    λ slot h. rw (a slot, b slot)

-- what the pass over the choices says of the places, and the pass over the slots of the sums
module _ {slots : ℕ} {mins maxs optional plan : List ℕ} {allowed : Bool} {slot_min slot_max sizes : List ℕ}
    (added : Added slots mins maxs optional plan allowed slot_min slot_max sizes) where
  pub places_say : {b : Bool} → allowed ≡ b → places_allowed slots optional plan ≡ b
  places_say e = sym added.answer ∙ e

  pub slots_say : (choosers : ℕ) {said b : Bool} → allowed ≡ true → said ≡ all_below slots (listed_fits choosers slot_min slot_max) → said ≡ b
      → all_below slots (slot_fits choosers mins maxs plan) ≡ b
  slots_say choosers t s e =
      sym (listed-all slots choosers mins maxs plan slot_min slot_max (added.min-sums t) (added.max-sums t)) ∙ sym s ∙ e
