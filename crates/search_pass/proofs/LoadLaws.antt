-- Each slot's sums and count as one choice's decision changes.
use mathlib.Core.Path.{◌≡◌, refl, sym, ◌∙◌, ap}
use mathlib.Core.Bool.{Bool, cond}
use mathlib.Core.List.{List}
use Prim.Native.Nat.{ℕ, zero, suc, ◌+◌, ◌-◌, ◌*◌, ◌≤◌, ◌<◌}
use native.Mathlib.Decide.{ℕ_discrete}
use native.Mathlib.Omega.{arith}
use borrow.Author.Tests.{eq-eqb, ne_eqb}
use lib.Dec.{eqb}
use lib.ListN.{length, get_or, set, replicate, length-set, length-replicate, get_or-replicate}
use lib.Seq.{get_or-set_same, get_or-set_other, ext_get_or}
use Rattle.base_lists.specs.Below.{sum_below}
use Rattle.base_lists.specs.Flat.{list_below}
use Rattle.base_lists.proofs.Sums.{count-sum}
use Rattle.base_lists.proofs.SumBelow.{sum_ext, sum_zeros}
use Rattle.base_lists.proofs.Flat.{length-list, get_d_list, list_ext}
use Rattle.base_lists.proofs.Lists.{get_d_any}
use Rattle.plan_check.specs.Plan.{slot_of, omitted, stands_in, count_in, sum_up_to, sum_in}
use Rattle.plan_check.proofs.PlanLaws.{stands_by, stands-omitted}
use Rattle.plan_check.proofs.SumLaws.{sum_fits}

-- two sums that differ at one place only
sum-apart : (n : ℕ) (f g : ℕ → ℕ) (c : ℕ) → c < n → ((k : ℕ) → k < n → (k ≡ c → ⊥) → f k ≡ g k) → sum_below n f + g c ≡ sum_below n g + f c
unfolding sum_below
sum-apart zero f g c h e = absurd (omega arith)
sum-apart (suc n) f g c h e = elim (ℕ_discrete n c) [
  | yes q ↦
      let s : sum_below n f ≡ sum_below n g = sum_ext n f g (λ k hk. e k (omega arith) (λ z. omega arith)) in
      rw (sym q, s) (omega arith)
  | no q ↦
      let s : sum_below n f + g c ≡ sum_below n g + f c = sum-apart n f g c (omega arith) (λ k hk. e k (omega arith)) in
      let t : f n ≡ g n = e n (omega arith) q in
      omega arith
]

-- two lists by place that differ at one place only
list-apart : (n : ℕ) (f g : ℕ → ℕ) (x v : ℕ) → x < n → ((k : ℕ) → k < n → (k ≡ x → ⊥) → f k ≡ g k) → f x ≡ v → list_below n f ≡ set (list_below n g) x v
list-apart n f g x v h e t =
    ext_get_or 0 (list_below n f) (set (list_below n g) x v) (length-list n f ∙ sym (length-set (list_below n g) x v ∙ length-list n g)) λ i hi.
    let b : i < n = omega (arith, length-list n f) in
    elim (ℕ_discrete i x) [
      | yes q ↦
          rw q (get_d_list n f x 0 h ∙ t ∙ sym (get_or-set_same (list_below n g) x v 0 (omega (arith, length-list n g))))
      | no q ↦
          get_d_list n f i 0 b ∙ e i b q ∙ sym (get_d_list n g i 0 b) ∙ sym (get_or-set_other (list_below n g) x i v 0 q)
    ]

-- ---- one slot's sum

-- what a choice adds to a slot, by its byte
unfoldable pub here : ℕ → ℕ → ℕ → ℕ
here byte slot amount = cond (eqb byte slot) amount 0

-- the sum of a slot, for any amounts
unfoldable pub total : (ℕ → ℕ) → List ℕ → ℕ → ℕ
total amount decisions slot = sum_up_to (length decisions) amount decisions slot

-- the sum of each slot, for any amounts
unfoldable pub listed : (ℕ → ℕ) → List ℕ → List ℕ
listed amount decisions = list_below 24 (total amount decisions)

pub here-same : (byte slot amount : ℕ) → byte ≡ slot → here byte slot amount ≡ amount
unfolding here
here-same byte slot amount e = rw (eq-eqb _ _ e)

pub here-other : (byte slot amount : ℕ) → (byte ≡ slot → ⊥) → here byte slot amount ≡ 0
unfolding here
here-other byte slot amount n = rw (ne_eqb _ _ n)

-- a choice stands in a slot as its byte says
stands_same : (p q : List ℕ) (k slot : ℕ) → slot_of p k ≡ slot_of q k → stands_in p k slot ≡ stands_in q k slot
unfolding stands_in omitted
stands_same p q k slot e = rw e

stands_here : (p : List ℕ) (k slot byte amount : ℕ) → slot_of p k ≡ byte → slot < 24 → cond (stands_in p k slot) amount 0 ≡ here byte slot amount
unfolding here
stands_here p k slot byte amount e h = elim (ℕ_discrete byte 255) [
  | yes q ↦ rw (stands-omitted p k slot (e ∙ q), ne_eqb byte slot (λ z. omega arith))
  | no q ↦ rw (stands_by p k slot (λ z. q (sym e ∙ z)), e)
]

slot-set-same : (d : List ℕ) (c x : ℕ) → c < length d → slot_of (set d c x) c ≡ x
unfolding slot_of
slot-set-same d c x h = get_or-set_same d c x 255 h

slot-set-other : (d : List ℕ) (c x k : ℕ) → (k ≡ c → ⊥) → slot_of (set d c x) k ≡ slot_of d k
unfolding slot_of
slot-set-other d c x k n = get_or-set_other d c k x 255 n

slot_is : (d : List ℕ) (c : ℕ) → c < length d → slot_of d c ≡ get_or d c 254
unfolding slot_of
slot_is d c h = get_d_any d c 255 254 h

module _ (amount : ℕ → ℕ) (d : List ℕ) (c : ℕ) (h : c < length d) where
  -- the sums before and after a decision, each with what the choice adds in the other
  pub total-apart : (x slot : ℕ) → slot < 24 → total amount (set d c x) slot + here (get_or d c 254) slot (amount c) ≡ total amount d slot + here x slot (amount c)
  unfolding total sum_up_to
  total-apart x slot b =
      let a = sum-apart (length d) (λ k. cond (stands_in (set d c x) k slot) (amount k) 0) (λ k. cond (stands_in d k slot) (amount k) 0) c h
      (λ k hk n. ap (λ (t : Bool). cond t (amount k) 0) (stands_same (set d c x) d k slot (slot-set-other d c x k n))) in
      rw (length-set d c x, sym (stands_here d c slot (get_or d c 254) (amount c) (slot_is d c h) b), sym (stands_here (set d c x) c slot x (amount c) (slot-set-same d c x h) b)) a

  -- ---- each slot's sum

  -- where a choice is decided, its slot has the amount more
  pub decided_in : (x : ℕ) → get_or d c 254 ≡ 254 → x < 24 → listed amount (set d c x) ≡ set (listed amount d) x (get_or (listed amount d) x 0 + amount c)
  unfolding listed
  decided_in x u b =
      list-apart 24 (total amount (set d c x)) (total amount d) x (get_or (list_below 24 (total amount d)) x 0 + amount c) b
      (λ k hk n. omega (arith, total-apart x k hk, here-other (get_or d c 254) k (amount c) (λ z. omega arith), here-other x k (amount c) (λ z. n (sym z))))
      (omega (arith, total-apart x x b, here-other (get_or d c 254) x (amount c) (λ z. omega arith), here-same x x (amount c) refl, get_d_list 24 (total amount d) x 0 b))

  -- where a choice is decided to a byte that is no slot, no slot's sum changes
  pub decided-out : (x : ℕ) → get_or d c 254 ≡ 254 → 24 ≤ x → listed amount (set d c x) ≡ listed amount d
  unfolding listed
  decided-out x u b =
      list_ext 24 (total amount (set d c x)) (total amount d)
      (λ k hk. omega (arith, total-apart x k hk, here-other (get_or d c 254) k (amount c) (λ z. omega arith), here-other x k (amount c) (λ z. omega arith)))

  -- where a choice is undecided again, its slot has the amount less
  pub cleared_in : (x : ℕ) → x ≡ get_or d c 254 → x < 24 → listed amount (set d c 254) ≡ set (listed amount d) x (get_or (listed amount d) x 0 - amount c)
  unfolding listed
  cleared_in x e b =
      list-apart 24 (total amount (set d c 254)) (total amount d) x (get_or (list_below 24 (total amount d)) x 0 - amount c) b
      (λ k hk n. omega (arith, total-apart 254 k hk, here-other (get_or d c 254) k (amount c) (λ z. n (omega arith)), here-other 254 k (amount c) (λ z. omega arith)))
      (omega (arith, total-apart 254 x b, here-same (get_or d c 254) x (amount c) (sym e), here-other 254 x (amount c) (λ z. omega arith), get_d_list 24 (total amount d) x 0 b))

  pub cleared-out : 24 ≤ get_or d c 254 → listed amount (set d c 254) ≡ listed amount d
  unfolding listed
  cleared-out b =
      list_ext 24 (total amount (set d c 254)) (total amount d)
      (λ k hk. omega (arith, total-apart 254 k hk, here-other (get_or d c 254) k (amount c) (λ z. omega arith), here-other 254 k (amount c) (λ z. omega arith)))

-- each slot's sum of 64 amounts of 16 bits
pub listed-fits : (amount : ℕ → ℕ) (d : List ℕ) (x : ℕ) → length d ≡ 64 → ((k : ℕ) → amount k ≤ 65535) → x < 24 → get_or (listed amount d) x 0 ≤ 65535 * 64
unfolding listed total
listed-fits amount d x l f b = omega (arith, get_d_list 24 (λ slot. sum_up_to (length d) amount d slot) x 0 b, sum_fits amount d (length d) x f)

-- each slot's sums of min and max are sums for any amounts, and its count is one with 1 for each choice
pub sums-listed : (amounts d : List ℕ) → list_below 24 (sum_in amounts d) ≡ listed (λ k. get_or amounts k 0) d
unfolding listed total sum_in
sums-listed amounts d = list_ext 24 _ _ (λ i h. refl)

pub counts-listed : (d : List ℕ) → list_below 24 (count_in d) ≡ listed (λ k. 1) d
unfolding listed total count_in sum_up_to
counts-listed d = list_ext 24 _ _ (λ i h. count-sum (length d) (λ choice. stands_in d choice i))

-- nothing is decided, nothing stands anywhere
total-none : (amount : ℕ → ℕ) (n slot : ℕ) → slot < 24 → total amount (replicate n 254) slot ≡ 0
unfolding total sum_up_to slot_of
total-none amount n slot b =
    sum_ext (length (replicate {A = ℕ} n 254)) (λ k. cond (stands_in (replicate n 254) k slot) (amount k) 0) (λ k. 0)
    (λ k h. stands_here (replicate n 254) k slot 254 (amount k) (get_or-replicate {A = ℕ} n k 254 255 (omega (arith, length-replicate {A = ℕ} n 254))) b ∙ here-other 254 slot (amount k) (λ z. omega arith))
    ∙ sum_zeros (length (replicate {A = ℕ} n 254))

pub nothing-listed : (amount : ℕ → ℕ) (n : ℕ) → listed amount (replicate n 254) ≡ replicate 24 0
unfolding listed
nothing-listed amount n =
    list_ext 24 (total amount (replicate n 254)) (λ slot. 0) (λ slot h. total-none amount n slot h) ∙ zeros
  where
    zeros : list_below {A = ℕ} 24 (λ slot. 0) ≡ replicate 24 0
    zeros =
        ext_get_or 0 (list_below 24 (λ slot. 0)) (replicate 24 0) (length-list 24 (λ slot. 0)) λ i h.
        let b : i < 24 = omega (arith, length-list {A = ℕ} 24 (λ slot. 0)) in
        get_d_list 24 (λ slot. 0) i 0 b ∙ sym (get_or-replicate {A = ℕ} 24 i 0 0 b)
