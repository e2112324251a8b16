-- What the candidates are, for those who walk through them: how many, which, and that what is open is among
-- them.
use mathlib.Core.Path.{◌≡◌, refl, sym, ◌∙◌, ap}
use mathlib.Core.Bool.{Bool, true, false, cond}
use mathlib.Core.List.Memᴰ
use mathlib.Core.List.{List, [], ◌∷◌, ◌++◌, Memᴰ}
use mathlib.Core.Logic.{◌↔◌, ◌⊎◌, ⊎_elim, inl, inr}
use Prim.Native.Nat.{ℕ, zero, suc, ◌-◌, ◌≤◌, ◌<◌}
use native.Mathlib.Nat.{not-suc-le-zero, eq-or-lt_of_le, le_of_suc-le-suc}
use native.Mathlib.Omega.{arith}
use borrow.Author.Tests.{eqb-true}
use lib.Dec.{eqb, leb}
use lib.ListN.{length, drop}
use Rattle.base_lists.specs.First.{first_failing}
use Rattle.base_lists.proofs.Below.{and_left}
use Rattle.base_lists.proofs.Members.{member_if, member-unless}
use Rattle.base_lists.proofs.Partition.{kept}
use Rattle.base_pools.specs.Insert.{insert_after}
use Rattle.base_pools.proofs.InsertLaws.{length_insert, in_inserted, inserted-has, inserted-keeps}
use Rattle.search_candidates.specs.Loads.{max_of}
use Rattle.search_candidates.specs.Bucket.{Asked, allows, hopeless, is_open, open_below, may_omit, with_omission, by_critical, critical_of, bucket_of, draws_one, written, bucket_fits, fill_of}
use Rattle.search_candidates.specs.steps.Maximums.{is_critical}
use Rattle.search_candidates.proofs.TestLaws.{critical_is}

-- what is taken: the candidates, written at the front
pub fill_taken : (asked : Asked) (list : List ℕ) → bucket_fits asked.counts (length list) ≡ true
    → fill_of asked list ≡ written (length (bucket_of asked)) (draws_one asked) (bucket_of asked ++ drop (length (bucket_of asked)) list)
unfolding fill_of
fill_taken asked list t = rw t

-- ---- the open slots

module _ (asked : Asked) where
  pub open_few : (n : ℕ) → length (open_below asked n) ≤ n
  unfolding open_below insert_after
  open_few zero = omega arith
  open_few (suc n) = go (is_open asked n) (open_few n)
    where
      more : List ℕ
      more = insert_after (λ other. leb (max_of asked.loads other) (max_of asked.loads n)) n (open_below asked n)

      longer : length more ≡ suc (length (open_below asked n))
      longer = length_insert (first_failing (λ other. leb (max_of asked.loads other) (max_of asked.loads n)) (open_below asked n)) n (open_below asked n)

      go : (b : Bool) → length (open_below asked n) ≤ n → length (cond b more (open_below asked n)) ≤ suc n
      go true h = rw longer (omega arith)
      go false h = omega arith

  -- each of the open slots is below the bound, and open
  pub in_open : (n slot : ℕ) → Memᴰ slot (open_below asked n) → (slot < n) × (is_open asked slot ≡ true)
  unfolding open_below insert_after
  in_open zero slot m = absurd (Memᴰ.not-nil m)
  in_open (suc n) slot m = go (is_open asked n) refl (λ k. let h = in_open n slot k in (omega arith, h.1)) m
    where
      go : (b : Bool) → is_open asked n ≡ b → (Memᴰ slot (open_below asked n) → (slot < suc n) × (is_open asked slot ≡ true)) → Memᴰ slot (cond b (insert_after (λ other. leb (max_of asked.loads other) (max_of asked.loads n)) n (open_below asked n)) (open_below asked n))
          → (slot < suc n) × (is_open asked slot ≡ true)
      go true t before k =
          ⊎_elim (λ (e : slot ≡ n). (omega arith, ap (is_open asked) e ∙ t)) before
          (in_inserted (first_failing (λ other. leb (max_of asked.loads other) (max_of asked.loads n)) (open_below asked n)) n (open_below asked n) k)
      go false t before k = before k

  -- each open slot below the bound is among the open slots
  pub open_in : (n slot : ℕ) → slot < n → is_open asked slot ≡ true → Memᴰ slot (open_below asked n)
  unfolding open_below insert_after
  open_in zero slot l t = absurd (not-suc-le-zero l)
  open_in (suc n) slot l t = ⊎_elim here (λ (k : slot < n). there (is_open asked n) (open_in n slot k t)) (eq-or-lt_of_le (le_of_suc-le-suc l))
    where
      at : ℕ
      at = first_failing (λ other. leb (max_of asked.loads other) (max_of asked.loads n)) (open_below asked n)

      there : (b : Bool) → Memᴰ slot (open_below asked n)
          → Memᴰ slot (cond b (insert_after (λ other. leb (max_of asked.loads other) (max_of asked.loads n)) n (open_below asked n)) (open_below asked n))
      there true k = inserted-keeps at n (open_below asked n) k
      there false k = k

      here : slot ≡ n → Memᴰ slot (cond (is_open asked n) (insert_after (λ other. leb (max_of asked.loads other) (max_of asked.loads n)) n (open_below asked n)) (open_below asked n))
      here e =
          let k : is_open asked n ≡ true = ap (is_open asked) (sym e) ∙ t in
          rw k (inserted-has at n (open_below asked n) e)

  pub open_member : (n slot : ℕ) → Memᴰ slot (open_below asked n) ↔ ((slot < n) × (is_open asked slot ≡ true))
  open_member n slot = (in_open n slot, λ h. open_in n slot h.0 h.1)

-- ---- the candidates

module _ (asked : Asked) where
  abbrev slots_open : List ℕ
  slots_open = open_below asked asked.counts.slots

  with_few : length (with_omission asked.depth.draw slots_open) ≤ suc asked.counts.slots
  unfolding with_omission
  with_few = rw (length_insert _ 255 slots_open) (omega (arith, open_few asked asked.counts.slots))

  by-few : (critical : List ℕ) → length (by_critical asked critical) ≤ suc asked.counts.slots
  by-few [] = go (may_omit asked)
    where
      go : (b : Bool) → length (cond b (with_omission asked.depth.draw slots_open) slots_open) ≤ suc asked.counts.slots
      go true = with_few
      go false = omega (arith, open_few asked asked.counts.slots)
  by-few (slot ∷ []) = go (allows asked slot)
    where
      go : (b : Bool) → length (cond b (slot ∷ []) []) ≤ suc asked.counts.slots
      go true = omega arith
      go false = omega arith
  by-few (slot ∷ other ∷ more) = omega arith

  -- there is at most one candidate for each slot, and omission
  pub bucket_few : length (bucket_of asked) ≤ suc asked.counts.slots
  unfolding bucket_of
  bucket_few = go (hopeless asked)
    where
      go : (b : Bool) → length (cond b [] (by_critical asked (critical_of asked))) ≤ suc asked.counts.slots
      go true = omega arith
      go false = by-few (critical_of asked)

  -- a critical slot is a slot
  pub critical_below : (slot : ℕ) → Memᴰ slot (critical_of asked) → slot < asked.counts.slots
  unfolding critical_of
  critical_below slot m =
      (kept asked.counts.slots (is_critical asked.counts.choosers asked.loads.slot_max (asked.depth.remaining - asked.depth.max)) slot
      (rw (critical_is asked.counts.slots asked.counts.choosers asked.depth.remaining asked.depth.max asked.loads) at m)).0

  unfoldable pub Place : ℕ → Type 0
  Place place = (place < asked.counts.slots) ⊎ ((place ≡ 255) × (asked.depth.optional ≡ 1))

  by-places : (critical : List ℕ) → ((x : ℕ) → Memᴰ x critical → x < asked.counts.slots) → (place : ℕ) → Memᴰ place (by_critical asked critical) → Place place
  unfolding Place with_omission may_omit
  by-places [] below place m = go (may_omit asked) refl m
    where
      inside : Memᴰ place slots_open → (place < asked.counts.slots) ⊎ ((place ≡ 255) × (asked.depth.optional ≡ 1))
      inside k = inl (in_open asked asked.counts.slots place k).0

      go : (b : Bool) → may_omit asked ≡ b → Memᴰ place (cond b (with_omission asked.depth.draw slots_open) slots_open)
          → (place < asked.counts.slots) ⊎ ((place ≡ 255) × (asked.depth.optional ≡ 1))
      go true t k =
          ⊎_elim (λ e. inr (e, eqb-true asked.depth.optional 1 (and_left (eqb asked.depth.optional 1) (allows asked 255) t))) inside
          (in_inserted _ 255 slots_open k)
      go false t k = inside k
  by-places (slot ∷ []) below place m = inl (below place (member_if (allows asked slot) (slot ∷ []) m).1)
  by-places (slot ∷ other ∷ more) below place m = absurd (Memᴰ.not-nil m)

  -- each candidate is a slot, or omission of an optional choice
  pub bucket_places : (place : ℕ) → Memᴰ place (bucket_of asked) → Place place
  unfolding bucket_of
  bucket_places place m = by-places (critical_of asked) critical_below place (member-unless (hopeless asked) (by_critical asked (critical_of asked)) m).1

  by_hope : hopeless asked ≡ false → (critical : List ℕ) → critical_of asked ≡ critical → bucket_of asked ≡ by_critical asked critical
  unfolding bucket_of
  by_hope h critical e = rw (h, e)

  -- with no critical slot each open slot is a candidate, and so is omission where it may be
  pub bucket_slot : hopeless asked ≡ false → critical_of asked ≡ [] → (slot : ℕ) → slot < asked.counts.slots → is_open asked slot ≡ true → Memᴰ slot (bucket_of asked)
  unfolding with_omission
  bucket_slot h e slot l t = rw (by_hope h [] e) (go (may_omit asked))
    where
      go : (b : Bool) → Memᴰ slot (cond b (with_omission asked.depth.draw slots_open) slots_open)
      go true = inserted-keeps _ 255 slots_open (open_in asked asked.counts.slots slot l t)
      go false = open_in asked asked.counts.slots slot l t

  pub bucket_omission : hopeless asked ≡ false → critical_of asked ≡ [] → may_omit asked ≡ true → Memᴰ 255 (bucket_of asked)
  unfolding with_omission
  bucket_omission h e t = rw (by_hope h [] e, t) (inserted-has _ 255 slots_open refl)

  -- the one critical slot is a candidate if the rows allow it
  pub bucket_critical : hopeless asked ≡ false → (slot : ℕ) → critical_of asked ≡ slot ∷ [] → allows asked slot ≡ true → Memᴰ slot (bucket_of asked)
  bucket_critical h slot e t = rw (by_hope h (slot ∷ []) e, t) (Memᴰ.head refl)
