-- One law for each way through a side's function, and through those that write the domains.
use mathlib.Core.Path.{◌≡◌, refl, sym, ◌∙◌, ap, ap₂}
use mathlib.Core.Bool.{Bool, true, false, ◌&&◌, not, cond}
use mathlib.Core.List.{List}
use Prim.Native.Nat.{ℕ, ◌^◌, ◌≤◌, ◌<◌}
use native.Mathlib.Omega.{arith}
use borrow.Author.Tests.{lt-ltb, le-ltb, ltb-true, eq-eqb, ne_eqb}
use lib.Bits.{bit_and, bit_xor}
use lib.Dec.{eqb, ltb}
use lib.ListN.{get_or, set}
use Rattle.base_lists.proofs.Below.{and_left, and_right}
use Rattle.day_rows.specs.declared.row.Row.{Row}
use Rattle.base_choice_sets.specs.Sets.{has, set_of}
use Rattle.base_choice_sets.proofs.SetLaws.{set_back}
use Rattle.list_domains.specs.steps.Domains.{only_place, kept_places, both_places, in_one_slot}
use Rattle.list_domains.proofs.PlaceLaws.{minus_law}
use Rattle.list_rule_rows.specs.steps.RowRules.{has_domain, slot_leaves, slot_rule, apart, facing_places, right_faces, left_faces, pair_left, pair_right, pair_set, pair_rule, self_leaves, self_rule, between_rule, row_rule}

-- a number that isn't a kind, where the kind is read first
pub none_of : {x k n : ℕ} → x ≡ k → (x ≡ n → ⊥) → k ≡ n → ⊥
none_of e f g = f (e ∙ g)

-- ---- which choices have a domain

module _ (choices choice : ℕ) where
  pub no_choice : choices ≤ choice → false ≡ has_domain choices choice
  unfolding has_domain
  no_choice h = rw (le-ltb choice choices h)

  pub by_place : choice < choices → ltb choice 64 ≡ has_domain choices choice
  unfolding has_domain
  by_place h = rw (lt-ltb choice choices h)

  pub domain_below : has_domain choices choice ≡ true → choice < 64
  unfolding has_domain
  domain_below t = ltb-true choice 64 (and_right (ltb choice choices) (ltb choice 64) t)

  pub domain_choice : has_domain choices choice ≡ true → choice < choices
  unfolding has_domain
  domain_choice t = ltb-true choice choices (and_left (ltb choice choices) (ltb choice 64) t)

-- ---- one domain

module _ (slots slot : ℕ) (stands : Bool) (domain : ℕ) where
  pub leaves-past : slots ≤ slot → domain ≡ slot_leaves slots slot stands domain
  unfolding slot_leaves
  leaves-past h = rw (le-ltb slot slots h)

  pub leaves_by : slot < slots → kept_places domain slot stands (not stands) ≡ slot_leaves slots slot stands domain
  unfolding slot_leaves
  leaves_by h = rw (lt-ltb slot slots h)

module _ (slots domain other : ℕ) where
  pub apart-not : in_one_slot slots other ≡ false → domain ≡ apart slots domain other
  unfolding apart
  apart-not t = rw t

  -- `domain ^ (domain & other)`
  pub apart_law : domain < 2 ^ 64 → other < 2 ^ 64 → in_one_slot slots other ≡ true → bit_xor domain (bit_and domain other) ≡ apart slots domain other
  unfolding apart
  apart_law h k t = rw t (below 64 h k)
    where
      below : (n : ℕ) → domain < 2 ^ n → other < 2 ^ n → bit_xor domain (bit_and domain other) ≡ set_of n λ p. has domain p && not (has other p)
      below n h k = ap (λ (x : ℕ). bit_xor domain (bit_and domain x)) (set_back n other k) ∙ minus_law n domain (has other) h

module _ (slots left right extra : ℕ) where
  pub left-faced : facing_places slots left right extra 32768 ≡ left_faces slots left right extra
  unfolding left_faces
  left-faced = refl

  pub right-faced : facing_places slots right left 32768 extra ≡ right_faces slots left right extra
  unfolding right_faces
  right-faced = refl

-- ---- each side, by the kind

module _ (slots : ℕ) (row : Row) (left right : ℕ) where
  pub left-same : row.kind ≡ 3 → both_places left right ≡ pair_left slots row left right
  unfolding pair_left
  left-same e = rw (eq-eqb row.kind 3 e)

  pub right-same : row.kind ≡ 3 → both_places left right ≡ pair_right slots row left right
  unfolding pair_right
  right-same e = rw (eq-eqb row.kind 3 e)

  pub left-apart : row.kind ≡ 4 → apart slots left right ≡ pair_left slots row left right
  unfolding pair_left
  left-apart e = rw e

  pub right-apart : row.kind ≡ 4 → apart slots right left ≡ pair_right slots row left right
  unfolding pair_right
  right-apart e = rw e

  pub left-offset : (extra : ℕ) → extra ≡ row.extra → row.kind ≡ 5 → left_faces slots left right extra ≡ pair_left slots row left right
  unfolding pair_left
  left-offset extra x e = rw (e, x)

  pub right-offset : (extra : ℕ) → extra ≡ row.extra → row.kind ≡ 5 → right_faces slots left right extra ≡ pair_right slots row left right
  unfolding pair_right
  right-offset extra x e = rw (e, x)

  module _ (a : row.kind ≡ 3 → ⊥) (b : row.kind ≡ 4 → ⊥) (c : row.kind ≡ 5 → ⊥) where
    pub left_other : left ≡ pair_left slots row left right
    unfolding pair_left
    left_other = rw (ne_eqb row.kind 3 a, ne_eqb row.kind 4 b, ne_eqb row.kind 5 c)

    pub right-other : right ≡ pair_right slots row left right
    unfolding pair_right
    right-other = rw (ne_eqb row.kind 3 a, ne_eqb row.kind 4 b, ne_eqb row.kind 5 c)

-- ---- a choice with itself, by the offset and by the kind

module _ (domain alone extra : ℕ) where
  pub own-zero : extra ≡ 32768 → domain ≡ cond (eqb extra 32768) domain alone
  own-zero e = rw (eq-eqb extra 32768 e)

  pub own-other : (extra ≡ 32768 → ⊥) → alone ≡ cond (eqb extra 32768) domain alone
  own-other n = rw (ne_eqb extra 32768 n)

module _ (slots : ℕ) (row : Row) (domain : ℕ) where
  pub self_apart : row.kind ≡ 4 → both_places domain (only_place slots) ≡ self_leaves slots row domain
  unfolding self_leaves
  self_apart e = rw e

  pub self_offset : (extra : ℕ) → extra ≡ row.extra → row.kind ≡ 5
      → cond (eqb extra 32768) domain (both_places domain (only_place slots)) ≡ self_leaves slots row domain
  unfolding self_leaves
  self_offset extra x e = rw (e, x) (turned (eqb row.extra 32768))
    where
      turned : (b : Bool) → cond b domain (both_places domain (only_place slots)) ≡ cond (not b) (both_places domain (only_place slots)) domain
      turned true = refl
      turned false = refl

  pub self_other : (row.kind ≡ 4 → ⊥) → (row.kind ≡ 5 → ⊥) → domain ≡ self_leaves slots row domain
  unfolding self_leaves
  self_other a b = rw (ne_eqb row.kind 4 a, ne_eqb row.kind 5 b)

-- ---- the domains

module _ (choices slots : ℕ) (row : Row) (domains : List ℕ) where
  pub slot-none : (stands : Bool) (left : ℕ) → left ≡ row.left → has_domain choices left ≡ false → domains ≡ slot_rule choices slots row stands domains
  unfolding slot_rule
  slot-none stands left e t = rw (sym e, t)

  pub slot-by : (stands : Bool) (left slot v : ℕ) → left ≡ row.left → slot ≡ row.right → has_domain choices left ≡ true → v ≡ slot_leaves slots slot stands (get_or domains left 0)
      → set domains left v ≡ slot_rule choices slots row stands domains
  unfolding slot_rule
  slot-by stands left slot v e f t g = rw (sym e, sym f, t, g)

  pub pair_no_left : (left : ℕ) → left ≡ row.left → has_domain choices left ≡ false → domains ≡ pair_rule choices slots row domains
  unfolding pair_rule
  pair_no_left left e t = rw (sym e, t)

  pub pair_no_right : (right : ℕ) → right ≡ row.right → has_domain choices right ≡ false → domains ≡ pair_rule choices slots row domains
  unfolding pair_rule
  pair_no_right right e t = rw (sym e, t, and_false (has_domain choices row.left))
    where
      and_false : (a : Bool) → (a && false) ≡ false
      and_false true = refl
      and_false false = refl

  pair-at : (one other : ℕ) → has_domain choices row.left ≡ true → has_domain choices row.right ≡ true
      → one ≡ pair_left slots row (get_or domains row.left 0) (get_or domains row.right 0) → other ≡ pair_right slots row one (get_or domains row.right 0)
      → set (set domains row.left one) row.right other ≡ pair_rule choices slots row domains
  unfolding pair_rule pair_set
  pair-at one other t u g h = rw (t, u, h, g)

  pub pair-by : (left right one other : ℕ) → left ≡ row.left → right ≡ row.right → has_domain choices left ≡ true → has_domain choices right ≡ true
      → one ≡ pair_left slots row (get_or domains left 0) (get_or domains right 0) → other ≡ pair_right slots row one (get_or domains right 0)
      → set (set domains left one) right other ≡ pair_rule choices slots row domains
  pair-by left right one other e f t u g h =
      ap₂ (λ (x y : ℕ). set (set domains x one) y other) e f
      ∙ pair-at one other (ap (has_domain choices) (sym e) ∙ t) (ap (has_domain choices) (sym f) ∙ u)
      (g ∙ ap₂ (λ (x y : ℕ). pair_left slots row (get_or domains x 0) (get_or domains y 0)) e f)
      (h ∙ ap (λ (y : ℕ). pair_right slots row one (get_or domains y 0)) f)

  pub self_none : (left : ℕ) → left ≡ row.left → has_domain choices left ≡ false → domains ≡ self_rule choices slots row domains
  unfolding self_rule
  self_none left e t = rw (sym e, t)

  self_at : (v : ℕ) → has_domain choices row.left ≡ true → v ≡ self_leaves slots row (get_or domains row.left 0)
      → set domains row.left v ≡ self_rule choices slots row domains
  unfolding self_rule
  self_at v t g = rw (t, g)

  pub self_by : (left v : ℕ) → left ≡ row.left → has_domain choices left ≡ true → v ≡ self_leaves slots row (get_or domains left 0)
      → set domains left v ≡ self_rule choices slots row domains
  self_by left v e t g =
      ap (λ (x : ℕ). set domains x v) e
      ∙ self_at v (ap (has_domain choices) (sym e) ∙ t) (g ∙ ap (λ (x : ℕ). self_leaves slots row (get_or domains x 0)) e)

  pub between-one : row.left ≡ row.right → self_rule choices slots row domains ≡ between_rule choices slots row domains
  unfolding between_rule
  between-one e = rw (eq-eqb row.left row.right e)

  pub between-two : (row.left ≡ row.right → ⊥) → pair_rule choices slots row domains ≡ between_rule choices slots row domains
  unfolding between_rule
  between-two n = rw (ne_eqb row.left row.right n)

  -- by the kind
  pub row_in-slot : row.kind ≡ 1 → slot_rule choices slots row true domains ≡ row_rule choices slots row domains
  unfolding row_rule
  row_in-slot e = rw e

  pub row-not_in_slot : row.kind ≡ 2 → slot_rule choices slots row false domains ≡ row_rule choices slots row domains
  unfolding row_rule
  row-not_in_slot e = rw e

  pub row-same-slot : row.kind ≡ 3 → between_rule choices slots row domains ≡ row_rule choices slots row domains
  unfolding row_rule
  row-same-slot e = rw (eq-eqb row.kind 3 e, ne_eqb row.kind 1 (λ f. absurd (omega (arith, e, f))), ne_eqb row.kind 2 (λ f. absurd (omega (arith, e, f))))

  pub row-not-same-slot : row.kind ≡ 4 → between_rule choices slots row domains ≡ row_rule choices slots row domains
  unfolding row_rule
  row-not-same-slot e =
      rw (eq-eqb row.kind 4 e, ne_eqb row.kind 1 (λ f. absurd (omega (arith, e, f))), ne_eqb row.kind 2 (λ f. absurd (omega (arith, e, f))), ne_eqb row.kind 3 (λ f. absurd (omega (arith, e, f))))

  pub row-offset : row.kind ≡ 5 → between_rule choices slots row domains ≡ row_rule choices slots row domains
  unfolding row_rule
  row-offset e =
      rw (eq-eqb row.kind 5 e, ne_eqb row.kind 1 (λ f. absurd (omega (arith, e, f))), ne_eqb row.kind 2 (λ f. absurd (omega (arith, e, f))), ne_eqb row.kind 3 (λ f. absurd (omega (arith, e, f))), ne_eqb row.kind 4 (λ f. absurd (omega (arith, e, f))))

  pub row_other : (row.kind ≡ 1 → ⊥) → (row.kind ≡ 2 → ⊥) → (row.kind ≡ 3 → ⊥) → (row.kind ≡ 4 → ⊥) → (row.kind ≡ 5 → ⊥)
      → domains ≡ row_rule choices slots row domains
  unfolding row_rule
  row_other a b c d e = rw (ne_eqb row.kind 1 a, ne_eqb row.kind 2 b, ne_eqb row.kind 3 c, ne_eqb row.kind 4 d, ne_eqb row.kind 5 e)
