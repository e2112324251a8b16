-- A plan that keeps a row stays within what the row leaves of the domains.
use mathlib.Core.Path.{◌≡◌, refl, sym, ◌∙◌, ap, subst}
use mathlib.Core.Bool.{Bool, true, false, ◌&&◌, not, cond, false≢true}
use mathlib.Core.List.{List}
use mathlib.Core.Logic.{◌⊎◌, inl, inr, ⊎_elim}
use Prim.Native.Nat.{ℕ, ◌+◌, ◌-◌, ◌≤◌, ◌<◌}
use native.Mathlib.Decide.{ℕ_discrete}
use native.Mathlib.Omega.{arith}
use borrow.Author.Tests.{lt-ltb, ltb-true, ltb-false, le-leb, eq-eqb, ne_eqb, eqb-true}
use lib.Arith.{lt_of_le-ne}
use lib.Dec.{eqb, ltb}
use lib.ListN.{length, get_or, set, length-set}
use Rattle.base_lists.proofs.Below.{and_both}
use Rattle.day_rows.specs.declared.row.Row.{Row}
use Rattle.base_choice_sets.specs.Sets.{has, set_of}
use Rattle.base_choice_sets.proofs.SetLaws.{has-set}
use Rattle.plan_check.specs.Plan.{slot_of}
use Rattle.plan_check.specs.Rows.{offset_kept, keeps_row}
use Rattle.plan_check.proofs.RowLaws.{offset-left-out, offset-right-out, offset-both, keeps-offset-row}
use Rattle.plan_check.proofs.Meaning.{kind_1, kind_2, kind_3, kind_4}
use Rattle.list_domains.specs.steps.Domains.{place_number, Within, only_place, both_places, in_one_slot}
use Rattle.list_domains.proofs.DomainLaws.{number_in, number-out, number_le, number-slot, kept-stays, both-stays, only_has, slot-one, slot-not-omitted, within-at, set-within}
use Rattle.list_rule_rows.specs.steps.RowRules.{has_domain, slot_leaves, slot_rule, apart, facing, facing_places, pair_left, pair_right, pair_rule, self_leaves, self_rule, between_rule, row_rule}
use Rattle.list_rule_rows.proofs.SideLaws.{domain_below, domain_choice, leaves-past, leaves_by, left-faced, right-faced, left-same, right-same, left-apart, right-apart, left-offset, right-offset, slot-none, slot-by, pair_no_left, pair_no_right, pair-by, self_apart, self_offset, self_other, self_none, self_by, between-one, between-two, row_in-slot, row-not_in_slot, row-same-slot, row-not-same-slot, row-offset, row_other}

-- a place of the day's: one of its slots, or omission
abbrev pub Allowed : ℕ → ℕ → Type 0
Allowed slots place = (place < slots) ⊎ (place ≡ 255)

-- ---- one place stays in what is left of its domain

module _ (slots : ℕ) (few : slots ≤ 24) where
  -- a place's number is one of the 64
  below_64 : (place : ℕ) → place_number slots place < 64
  below_64 place = omega (arith, number_le slots place, few)

  -- kind 1: the slot stays
  pub in_slot_stays : (slot domain place : ℕ) → place ≡ slot → has domain (place_number slots place) ≡ true
      → has (slot_leaves slots slot true domain) (place_number slots place) ≡ true
  in_slot_stays slot domain place e h = go (ltb slot slots) refl
    where
      go : (b : Bool) → ltb slot slots ≡ b → has (slot_leaves slots slot true domain) (place_number slots place) ≡ true
      go true t =
          let l : slot < slots = ltb-true slot slots t in
          ap (λ (x : ℕ). has x (place_number slots place)) (sym (leaves_by slots slot true domain l))
          ∙ kept-stays domain slot true false (place_number slots place) (below_64 place) h (λ q. refl)
          λ n. absurd (n (number_in slots place (omega (arith, e, l)) ∙ e))
      go false t =
          ap (λ (x : ℕ). has x (place_number slots place)) (sym (leaves-past slots slot true domain (ltb-false slot slots t))) ∙ h

  -- kind 2: a place that isn't the slot stays
  pub not_in_slot_stays : (slot domain place : ℕ) → (place ≡ slot → ⊥) → has domain (place_number slots place) ≡ true
      → has (slot_leaves slots slot false domain) (place_number slots place) ≡ true
  not_in_slot_stays slot domain place n h = go (ltb slot slots) refl
    where
      go : (b : Bool) → ltb slot slots ≡ b → has (slot_leaves slots slot false domain) (place_number slots place) ≡ true
      go true t =
          let l : slot < slots = ltb-true slot slots t in
          ap (λ (x : ℕ). has x (place_number slots place)) (sym (leaves_by slots slot false domain l))
          ∙ kept-stays domain slot false true (place_number slots place) (below_64 place) h
          (λ q. absurd (n (number-slot slots place slot l q)))
          λ m. refl
      go false t =
          ap (λ (x : ℕ). has x (place_number slots place)) (sym (leaves-past slots slot false domain (ltb-false slot slots t))) ∙ h

  -- kind 4: equal places are omission, which isn't the one slot left
  pub apart-stays : (domain other a b : ℕ) → has domain (place_number slots a) ≡ true → has other (place_number slots b) ≡ true → (a ≡ b → a ≡ 255)
      → has (apart slots domain other) (place_number slots a) ≡ true
  unfolding apart
  apart-stays domain other a b h k f = go (in_one_slot slots other) refl
    where
      p : ℕ
      p = place_number slots a

      q : ℕ
      q = place_number slots b

      clash : in_one_slot slots other ≡ true → has other p ≡ true → ⊥
      clash t u =
          let e : p ≡ q = slot-one slots other t p q (below_64 a) (below_64 b) u k in
          let l : q < slots = lt_of_le-ne (number_le slots b) (λ s. false≢true (sym (slot-not-omitted slots other t) ∙ ap (has other) (sym s) ∙ k)) in
          let m : a ≡ q = number-slot slots a q l e in
          let o : b ≡ q = number-slot slots b q l refl in
          let x : a ≡ 255 = f (m ∙ sym o) in
          omega (arith, x, m, l, few)

      free : (b : Bool) → has other p ≡ b → in_one_slot slots other ≡ true → not (has other p) ≡ true
      free true u t = absurd (clash t u)
      free false u t = rw u

      go : (b : Bool) → in_one_slot slots other ≡ b → has (cond (in_one_slot slots other) (set_of 64 λ p. has domain p && not (has other p)) domain) (place_number slots a) ≡ true
      go true t =
          rw t (has-set 64 (λ p. has domain p && not (has other p)) p (below_64 a) ∙ and_both (has domain p) (not (has other p)) h (free (has other p) refl t))
      go false t = rw t h

  -- kind 5: both omitted, or slots that face each other
  abbrev pub Faces : ℕ → ℕ → ℕ → ℕ → Type 0
  Faces up down a b = ((a ≡ 255) × (b ≡ 255)) ⊎ ((a < slots) × (b < slots) × (a + up ≡ b + down))

  pub facing-stays : (domain other up down a b : ℕ) → has domain (place_number slots a) ≡ true → has other (place_number slots b) ≡ true → Faces up down a b
      → has (facing_places slots domain other up down) (place_number slots a) ≡ true
  unfolding facing_places facing
  facing-stays domain other up down a b h k f =
      has-set 64 (λ p. has domain p && cond (eqb p slots) (has other slots) (facing slots other up down p)) (place_number slots a) (below_64 a)
      ∙ and_both (has domain (place_number slots a)) (cond (eqb (place_number slots a) slots) (has other slots) (facing slots other up down (place_number slots a))) h
      (⊎_elim out within f)
    where
      out : (a ≡ 255) × (b ≡ 255) → cond (eqb (place_number slots a) slots) (has other slots) (facing slots other up down (place_number slots a)) ≡ true
      out w =
          let e : place_number slots a ≡ slots = number-out slots a (omega (arith, w.0, few)) in
          let g : place_number slots b ≡ slots = number-out slots b (omega (arith, w.1, few)) in
          rw (eq-eqb (place_number slots a) slots e) (ap (has other) (sym g) ∙ k)

      within : (a < slots) × (b < slots) × (a + up ≡ b + down) → cond (eqb (place_number slots a) slots) (has other slots) (facing slots other up down (place_number slots a)) ≡ true
      within w =
          let l : a < slots = w.0 in
          let m : b < slots = w.1 in
          let s : a + up ≡ b + down = w.2 in
          let e : place_number slots a ≡ a = number_in slots a l in
          let g : place_number slots b ≡ b = number_in slots b m in
          let d : a + up - down ≡ b = omega arith in
          rw (e, ne_eqb a slots (λ z. absurd (omega (arith, z, l))), d, lt-ltb a slots l, le-leb down (a + up) (omega arith), lt-ltb b slots m)
          (ap (has other) (sym g) ∙ k)

  -- what an offset that is kept says of two places of the day's
  pub offset-faces : (plan : List ℕ) (left right extra : ℕ) → Allowed slots (slot_of plan left) → Allowed slots (slot_of plan right)
      → offset_kept plan left right extra ≡ true → Faces 32768 extra (slot_of plan right) (slot_of plan left)
  offset-faces plan left right extra al ar h = go (ℕ_discrete (slot_of plan left) 255) (ℕ_discrete (slot_of plan right) 255)
    where
      slot : (place : ℕ) → Allowed slots place → (place ≡ 255 → ⊥) → place < slots
      slot place (inl l) n = l
      slot place (inr e) n = absurd (n e)

      go : Dec (slot_of plan left ≡ 255) → Dec (slot_of plan right ≡ 255) → Faces 32768 extra (slot_of plan right) (slot_of plan left)
      go (yes l) r = inl (eqb-true (slot_of plan right) 255 (sym (offset-left-out plan left right extra l) ∙ h), l)
      go (no l) (yes r) = absurd (false≢true (sym (offset-right-out plan left right extra l r) ∙ h))
      go (no l) (no r) =
          inr (slot (slot_of plan right) ar r, slot (slot_of plan left) al l, eqb-true _ _ (sym (offset-both plan left right extra l r) ∙ h))

  pub faces-back : (up down a b : ℕ) → Faces up down a b → Faces down up b a
  faces-back up down a b (inl w) = inl (w.1, w.0)
  faces-back up down a b (inr w) = inr (w.1, w.0, sym w.2)

  -- omission stays where it alone is left
  pub omission_stays : (domain place : ℕ) → place ≡ 255 → has domain (place_number slots place) ≡ true
      → has (both_places domain (only_place slots)) (place_number slots place) ≡ true
  omission_stays domain place e h =
      let p = place_number slots place in
      both-stays domain (only_place slots) p (below_64 place) h
      (only_has slots p (below_64 place) ∙ eq-eqb p slots (number-out slots place (omega (arith, e, few))))

  -- kind 4 of a choice with itself: it is omitted
  pub self_apart_stays : (plan : List ℕ) (row : Row) (domain : ℕ) → keeps_row plan row ≡ true → row.left ≡ row.right → row.kind ≡ 4
      → has domain (place_number slots (slot_of plan row.left)) ≡ true → has (self_leaves slots row domain) (place_number slots (slot_of plan row.left)) ≡ true
  self_apart_stays plan row domain kept e k h =
      ap (λ (x : ℕ). has x (place_number slots (slot_of plan row.left))) (sym (self_apart slots row domain k))
      ∙ omission_stays domain (slot_of plan row.left) ((kind_4 plan row k).0 kept (ap (slot_of plan) e)) h

  -- a choice that is so much higher than itself is omitted
  pub own-offset : (plan : List ℕ) (choice extra : ℕ) → offset_kept plan choice choice extra ≡ true → (extra ≡ 32768 → ⊥) → slot_of plan choice ≡ 255
  own-offset plan choice extra kept n = go (ℕ_discrete (slot_of plan choice) 255)
    where
      go : Dec (slot_of plan choice ≡ 255) → slot_of plan choice ≡ 255
      go (yes o) = o
      go (no i) =
          let s : slot_of plan choice + 32768 ≡ slot_of plan choice + extra = eqb-true _ _ (sym (offset-both plan choice choice extra i i) ∙ kept) in
          absurd (n (omega (arith, s)))

  -- kind 5 of a choice with itself: the offset is 0, or it is omitted
  pub self_offset_stays : (plan : List ℕ) (row : Row) (domain : ℕ) → keeps_row plan row ≡ true → row.left ≡ row.right → row.kind ≡ 5
      → has domain (place_number slots (slot_of plan row.left)) ≡ true → has (self_leaves slots row domain) (place_number slots (slot_of plan row.left)) ≡ true
  self_offset_stays plan row domain kept e k h =
      ap (λ (x : ℕ). has x (place_number slots (slot_of plan row.left))) (sym (self_offset slots row domain row.extra refl k))
      ∙ go (ℕ_discrete row.extra 32768)
    where
      own : offset_kept plan row.left row.left row.extra ≡ true
      own = ap (λ (x : ℕ). offset_kept plan row.left x row.extra) e ∙ sym (keeps-offset-row plan row k) ∙ kept

      go : Dec (row.extra ≡ 32768)
          → has (cond (eqb row.extra 32768) domain (both_places domain (only_place slots))) (place_number slots (slot_of plan row.left)) ≡ true
      go (yes z) = rw (eq-eqb row.extra 32768 z) h
      go (no n) = rw (ne_eqb row.extra 32768 n) (omission_stays domain (slot_of plan row.left) (own-offset plan row.left row.extra own n) h)

  -- a row of a choice with itself, whatever its kind
  pub self_stays : (plan : List ℕ) (row : Row) (domain : ℕ) → keeps_row plan row ≡ true → row.left ≡ row.right
      → has domain (place_number slots (slot_of plan row.left)) ≡ true → has (self_leaves slots row domain) (place_number slots (slot_of plan row.left)) ≡ true
  self_stays plan row domain kept e h = go (ℕ_discrete row.kind 4) (ℕ_discrete row.kind 5)
    where
      go : Dec (row.kind ≡ 4) → Dec (row.kind ≡ 5) → has (self_leaves slots row domain) (place_number slots (slot_of plan row.left)) ≡ true
      go (yes k) b = self_apart_stays plan row domain kept e k h
      go (no a) (yes k) = self_offset_stays plan row domain kept e k h
      go (no a) (no b) = ap (λ (x : ℕ). has x (place_number slots (slot_of plan row.left))) (sym (self_other slots row domain a b)) ∙ h

-- ---- the domains

module _ (choices slots : ℕ) (plan : List ℕ) (row : Row) (domains : List ℕ) (sized : length plan ≡ choices) (full : length domains ≡ 64)
    (w : Within slots plan domains) where
  named : (choice : ℕ) → has_domain choices choice ≡ true → choice < length plan
  named choice t = let l : choice < choices = domain_choice choices choice t in omega (arith, l, sized)

  -- a row between a choice and a slot
  pub slot-within : (stands : Bool)
      → ((domain : ℕ) → has domain (place_number slots (slot_of plan row.left)) ≡ true → has (slot_leaves slots row.right stands domain) (place_number slots (slot_of plan row.left)) ≡ true)
      → Within slots plan (slot_rule choices slots row stands domains)
  slot-within stands keeps = go (has_domain choices row.left) refl
    where
      go : (b : Bool) → has_domain choices row.left ≡ b → Within slots plan (slot_rule choices slots row stands domains)
      go true t =
          let l : row.left < length domains = omega (arith, domain_below choices row.left t, full) in
          subst (λ (d : List ℕ). Within slots plan d)
          (slot-by choices slots row domains stands row.left row.right (slot_leaves slots row.right stands (get_or domains row.left 0)) refl refl t refl)
          (set-within slots plan domains w row.left (slot_leaves slots row.right stands (get_or domains row.left 0)) l λ k. keeps (get_or domains row.left 0) (within-at slots plan domains w row.left k))
      go false t = subst (λ (d : List ℕ). Within slots plan d) (slot-none choices slots row domains stands row.left refl t) w

  -- a row between two choices
  pub pair-within : (row.left < length plan → row.right < length plan → (l r : ℕ) → has l (place_number slots (slot_of plan row.left)) ≡ true → has r (place_number slots (slot_of plan row.right)) ≡ true → has (pair_left slots row l r) (place_number slots (slot_of plan row.left)) ≡ true)
      → (row.left < length plan → row.right < length plan → (l r : ℕ) → has l (place_number slots (slot_of plan row.left)) ≡ true → has r (place_number slots (slot_of plan row.right)) ≡ true → has (pair_right slots row l r) (place_number slots (slot_of plan row.right)) ≡ true)
      → Within slots plan (pair_rule choices slots row domains)
  pair-within keep_left keep-right = go (has_domain choices row.left) (has_domain choices row.right) refl refl
    where
      one : ℕ
      one = pair_left slots row (get_or domains row.left 0) (get_or domains row.right 0)

      go : (a b : Bool) → has_domain choices row.left ≡ a → has_domain choices row.right ≡ b → Within slots plan (pair_rule choices slots row domains)
      go false b t u = subst (λ (d : List ℕ). Within slots plan d) (pair_no_left choices slots row domains row.left refl t) w
      go true false t u = subst (λ (d : List ℕ). Within slots plan d) (pair_no_right choices slots row domains row.right refl u) w
      go true true t u =
          let nl = named row.left t in
          let nr = named row.right u in
          let hl = within-at slots plan domains w row.left nl in
          let hr = within-at slots plan domains w row.right nr in
          let kl : has one (place_number slots (slot_of plan row.left)) ≡ true = keep_left nl nr (get_or domains row.left 0) (get_or domains row.right 0) hl hr in
          let l : row.left < length domains = omega (arith, domain_below choices row.left t, full) in
          let r : row.right < length (set domains row.left one) = rw (length-set domains row.left one) (omega (arith, domain_below choices row.right u, full)) in
          subst (λ (d : List ℕ). Within slots plan d)
          (pair-by choices slots row domains row.left row.right one (pair_right slots row one (get_or domains row.right 0)) refl refl t u refl refl)
          (set-within slots plan (set domains row.left one) (set-within slots plan domains w row.left one l λ k. kl)
          row.right (pair_right slots row one (get_or domains row.right 0)) r λ k. keep-right nl nr one (get_or domains row.right 0) kl hr)

  -- a row of a choice with itself
  pub self_within : ((domain : ℕ) → has domain (place_number slots (slot_of plan row.left)) ≡ true → has (self_leaves slots row domain) (place_number slots (slot_of plan row.left)) ≡ true)
      → Within slots plan (self_rule choices slots row domains)
  self_within keeps = go (has_domain choices row.left) refl
    where
      go : (b : Bool) → has_domain choices row.left ≡ b → Within slots plan (self_rule choices slots row domains)
      go true t =
          let l : row.left < length domains = omega (arith, domain_below choices row.left t, full) in
          subst (λ (d : List ℕ). Within slots plan d)
          (self_by choices slots row domains row.left (self_leaves slots row (get_or domains row.left 0)) refl t refl)
          (set-within slots plan domains w row.left (self_leaves slots row (get_or domains row.left 0)) l λ k. keeps (get_or domains row.left 0) (within-at slots plan domains w row.left k))
      go false t = subst (λ (d : List ℕ). Within slots plan d) (self_none choices slots row domains row.left refl t) w

  -- one law a kind
  module _ (few : slots ≤ 24) (kept : keeps_row plan row ≡ true) where
    -- a row that names two choices, which may be one
    pub between-within : Within slots plan (pair_rule choices slots row domains) → Within slots plan (between_rule choices slots row domains)
    between-within pair = go (ℕ_discrete row.left row.right)
      where
        go : Dec (row.left ≡ row.right) → Within slots plan (between_rule choices slots row domains)
        go (yes e) =
            subst (λ (d : List ℕ). Within slots plan d) (between-one choices slots row domains e)
            (self_within λ domain h. self_stays slots few plan row domain kept e h)
        go (no n) = subst (λ (d : List ℕ). Within slots plan d) (between-two choices slots row domains n) pair

    pub within_1 : row.kind ≡ 1 → Within slots plan (row_rule choices slots row domains)
    within_1 k =
        subst (λ (d : List ℕ). Within slots plan d) (row_in-slot choices slots row domains k)
        (slot-within true λ domain h. in_slot_stays slots few row.right domain (slot_of plan row.left) ((kind_1 plan row k).0 kept) h)

    pub within_2 : row.kind ≡ 2 → Within slots plan (row_rule choices slots row domains)
    within_2 k =
        subst (λ (d : List ℕ). Within slots plan d) (row-not_in_slot choices slots row domains k)
        (slot-within false λ domain h. not_in_slot_stays slots few row.right domain (slot_of plan row.left) ((kind_2 plan row k).0 kept) h)

    pub within_3 : row.kind ≡ 3 → Within slots plan (row_rule choices slots row domains)
    within_3 k =
        let e : place_number slots (slot_of plan row.left) ≡ place_number slots (slot_of plan row.right) = ap (place_number slots) ((kind_3 plan row k).0 kept) in
        let p = place_number slots (slot_of plan row.left) in
        let q = place_number slots (slot_of plan row.right) in
        subst (λ (d : List ℕ). Within slots plan d) (row-same-slot choices slots row domains k)
        (between-within (pair-within
        (λ nl nr l r hl hr. ap (λ (x : ℕ). has x p) (sym (left-same slots row l r k)) ∙ both-stays l r p (below_64 slots few (slot_of plan row.left)) hl (ap (has r) e ∙ hr))
        (λ nl nr l r hl hr. ap (λ (x : ℕ). has x q) (sym (right-same slots row l r k)) ∙ both-stays l r q (below_64 slots few (slot_of plan row.right)) (ap (has l) (sym e) ∙ hl) hr)))

    pub within_4 : row.kind ≡ 4 → Within slots plan (row_rule choices slots row domains)
    within_4 k =
        let f = (kind_4 plan row k).0 kept in
        subst (λ (d : List ℕ). Within slots plan d) (row-not-same-slot choices slots row domains k)
        (between-within (pair-within
        (λ nl nr l r hl hr. ap (λ (x : ℕ). has x (place_number slots (slot_of plan row.left))) (sym (left-apart slots row l r k)) ∙ apart-stays slots few l r (slot_of plan row.left) (slot_of plan row.right) hl hr f)
        (λ nl nr l r hl hr. ap (λ (x : ℕ). has x (place_number slots (slot_of plan row.right))) (sym (right-apart slots row l r k)) ∙ apart-stays slots few r l (slot_of plan row.right) (slot_of plan row.left) hr hl λ s. s ∙ f (sym s))))

    module _ (places : (choice : ℕ) → choice < length plan → Allowed slots (slot_of plan choice)) where
      pub within_5 : row.kind ≡ 5 → Within slots plan (row_rule choices slots row domains)
      within_5 k =
          subst (λ (d : List ℕ). Within slots plan d) (row-offset choices slots row domains k)
          (between-within (pair-within
          (λ nl nr l r hl hr. ap (λ (x : ℕ). has x (place_number slots (slot_of plan row.left))) (left-faced slots l r row.extra ∙ left-offset slots row l r row.extra refl k)
          ∙∙ facing-stays slots few l r row.extra 32768 (slot_of plan row.left) (slot_of plan row.right) hl hr (faces-back slots few 32768 row.extra (slot_of plan row.right) (slot_of plan row.left) (faces nl nr)))
          (λ nl nr l r hl hr. ap (λ (x : ℕ). has x (place_number slots (slot_of plan row.right))) (right-faced slots l r row.extra ∙ right-offset slots row l r row.extra refl k)
          ∙∙ facing-stays slots few r l 32768 row.extra (slot_of plan row.right) (slot_of plan row.left) hr hl (faces nl nr))))
        where
          infixr 20 ◌∙∙◌
          ◌∙∙◌ : {a b c : Bool} → a ≡ b → a ≡ c → b ≡ c
          e ∙∙ f = sym e ∙ f

          faces : row.left < length plan → row.right < length plan → Faces slots few 32768 row.extra (slot_of plan row.right) (slot_of plan row.left)
          faces nl nr =
              offset-faces slots few plan row.left row.right row.extra (places row.left nl) (places row.right nr)
              (sym (keeps-offset-row plan row k) ∙ kept)

      pub row_within : Within slots plan (row_rule choices slots row domains)
      row_within = one (ℕ_discrete row.kind 1)
        where
          five : (row.kind ≡ 1 → ⊥) → (row.kind ≡ 2 → ⊥) → (row.kind ≡ 3 → ⊥) → (row.kind ≡ 4 → ⊥) → Dec (row.kind ≡ 5) → Within slots plan (row_rule choices slots row domains)
          five a b c d (yes e) = within_5 e
          five a b c d (no e) = subst (λ (d : List ℕ). Within slots plan d) (row_other choices slots row domains a b c d e) w

          four : (row.kind ≡ 1 → ⊥) → (row.kind ≡ 2 → ⊥) → (row.kind ≡ 3 → ⊥) → Dec (row.kind ≡ 4) → Within slots plan (row_rule choices slots row domains)
          four a b c (yes e) = within_4 e
          four a b c (no d) = five a b c d (ℕ_discrete row.kind 5)

          three : (row.kind ≡ 1 → ⊥) → (row.kind ≡ 2 → ⊥) → Dec (row.kind ≡ 3) → Within slots plan (row_rule choices slots row domains)
          three a b (yes e) = within_3 e
          three a b (no c) = four a b c (ℕ_discrete row.kind 4)

          two : (row.kind ≡ 1 → ⊥) → Dec (row.kind ≡ 2) → Within slots plan (row_rule choices slots row domains)
          two a (yes e) = within_2 e
          two a (no b) = three a b (ℕ_discrete row.kind 3)

          one : Dec (row.kind ≡ 1) → Within slots plan (row_rule choices slots row domains)
          one (yes e) = within_1 e
          one (no a) = two a (ℕ_discrete row.kind 2)
