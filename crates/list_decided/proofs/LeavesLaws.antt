-- One law for each way through the functions of leaves: what a row, and a list of rows, leave of the next
-- choice's places.
use mathlib.Core.Path.{◌≡◌, refl, sym, ◌∙◌, ap}
use mathlib.Core.Bool.{Bool, true, false}
use mathlib.Core.List.{List, [], ◌∷◌, ◌++◌}
use Prim.Native.Nat.{ℕ, ◌+◌, ◌-◌, ◌≤◌, ◌<◌}
use native.Mathlib.Numerals.{add-one}
use native.Mathlib.Omega.{arith}
use borrow.Author.Tests.{lt-ltb, le-ltb, lt-leb, le-leb, eq-eqb, ne_eqb}
use lib.Dec.{eqb}
use lib.ListN.{length, get_or, take}
use lib.Seq.{take-suc, take_all}
use Rattle.day_rows.specs.Row.{row_of}
use Rattle.day_rows.specs.declared.row.Row.{Row}
use Rattle.plan_check.specs.Plan.{slot_of}
use Rattle.list_domains.specs.steps.Domains.{place_number, kept_places}
use Rattle.list_decided.specs.steps.Leaves.{other_place, beside_place, apart_from, facing, by_offset, row_leaves, rows_leave}

-- no arm named this kind
pub none_of : {x k n : ℕ} → x ≡ k → (x ≡ n → ⊥) → k ≡ n → ⊥
none_of e f g = f (e ∙ g)

-- ---- where the other choice stands

module _ (choice : ℕ) (plan : List ℕ) (row : Row) where
  pub other-right : (left right : ℕ) → left ≡ row.left → right ≡ row.right → left ≡ choice → slot_of plan right ≡ other_place choice plan row
  unfolding other_place
  other-right left right e f t = rw (sym e, sym f, eq-eqb left choice t)

  pub other-left : (left : ℕ) → left ≡ row.left → (left ≡ choice → ⊥) → slot_of plan left ≡ other_place choice plan row
  unfolding other_place
  other-left left e n = rw (sym e, ne_eqb left choice n)

-- ---- each kind

pub beside_by : (slots place domain number : ℕ) → number ≡ place_number slots place → kept_places domain number true false ≡ beside_place slots place domain
unfolding beside_place
beside_by slots place domain number e = rw e

module _ (slots place domain : ℕ) where
  pub apart-omitted : slots ≤ place → domain ≡ apart_from slots place domain
  unfolding apart_from
  apart-omitted h = rw (le-ltb place slots h)

  pub apart-slot : place < slots → kept_places domain place false true ≡ apart_from slots place domain
  unfolding apart_from
  apart-slot h = rw (lt-ltb place slots h)

module _ (slots up down domain : ℕ) where
  pub facing-below : up < down → 0 ≡ facing slots up down domain
  unfolding facing
  facing-below h = rw (lt-leb down up h)

  pub facing-past : down ≤ up → slots ≤ up - down → 0 ≡ facing slots up down domain
  unfolding facing
  facing-past h k = rw (le-leb down up h, le-ltb (up - down) slots k)

  pub facing-at : down ≤ up → up - down < slots → kept_places domain (up - down) true false ≡ facing slots up down domain
  unfolding facing
  facing-at h k = rw (le-leb down up h, lt-ltb (up - down) slots k)

module _ (slots : ℕ) (is_left : Bool) (place extra domain other : ℕ) (o : other ≡ place) where
  pub offset-omitted : slots ≤ other → kept_places domain slots true false ≡ by_offset slots is_left place extra domain
  unfolding by_offset
  offset-omitted h = rw (sym o, le-ltb other slots h)

  pub offset-left : (wider : ℕ) → wider ≡ extra → other < slots → is_left ≡ true → facing slots (other + 32768) wider domain ≡ by_offset slots is_left place extra domain
  unfolding by_offset
  offset-left wider e h t = rw (sym o, sym e, lt-ltb other slots h, t)

  pub offset-right : (wider : ℕ) → wider ≡ extra → other < slots → is_left ≡ false → facing slots (other + wider) 32768 domain ≡ by_offset slots is_left place extra domain
  unfolding by_offset
  offset-right wider e h t = rw (sym o, sym e, lt-ltb other slots h, t)

-- ---- a row, by its kind

module _ (slots choice : ℕ) (plan : List ℕ) (row : Row) (domain : ℕ) where
  pub leaves_in_slot : (right : ℕ) → right ≡ row.right → row.kind ≡ 1 → kept_places domain right true false ≡ row_leaves slots choice plan row domain
  unfolding row_leaves
  leaves_in_slot right f e = rw (f, e)

  pub leaves-not_in_slot : (right : ℕ) → right ≡ row.right → row.kind ≡ 2 → kept_places domain right false true ≡ row_leaves slots choice plan row domain
  unfolding row_leaves
  leaves-not_in_slot right f e = rw (f, e)

  pub leaves-same-slot : (place : ℕ) → place ≡ other_place choice plan row → row.kind ≡ 3 → beside_place slots place domain ≡ row_leaves slots choice plan row domain
  unfolding row_leaves
  leaves-same-slot place o e = rw (sym o, e)

  pub leaves-not-same-slot : (place : ℕ) → place ≡ other_place choice plan row → row.kind ≡ 4 → apart_from slots place domain ≡ row_leaves slots choice plan row domain
  unfolding row_leaves
  leaves-not-same-slot place o e = rw (sym o, e)

  pub leaves-offset : (left place extra : ℕ) → left ≡ row.left → place ≡ other_place choice plan row → extra ≡ row.extra → row.kind ≡ 5
      → by_offset slots (eqb left choice) place extra domain ≡ row_leaves slots choice plan row domain
  unfolding row_leaves
  leaves-offset left place extra l o x e = rw (sym o, e, l, x)

  pub leaves_all : (row.kind ≡ 1 → ⊥) → (row.kind ≡ 2 → ⊥) → (row.kind ≡ 3 → ⊥) → (row.kind ≡ 4 → ⊥) → (row.kind ≡ 5 → ⊥)
      → domain ≡ row_leaves slots choice plan row domain
  unfolding row_leaves
  leaves_all a b c d e = rw (ne_eqb row.kind 1 a, ne_eqb row.kind 2 b, ne_eqb row.kind 3 c, ne_eqb row.kind 4 d, ne_eqb row.kind 5 e)

-- ---- rows one after the other

module _ (slots choice : ℕ) (plan : List ℕ) where
  pub rows_snoc : (rows : List ℕ) (number domain : ℕ)
      → rows_leave slots choice plan (rows ++ (number ∷ [])) domain ≡ row_leaves slots choice plan (row_of number) (rows_leave slots choice plan rows domain)
  unfolding rows_leave
  rows_snoc [] number domain = refl
  rows_snoc (first ∷ rows) number domain = rows_snoc rows number (row_leaves slots choice plan (row_of first) domain)

  pub rows_start : (domain : ℕ) → domain ≡ rows_leave slots choice plan [] domain
  unfolding rows_leave
  rows_start domain = refl

  module _ (rows : List ℕ) (domain : ℕ) where
    pub rows-turn : (i left next : ℕ) → i < length rows → left ≡ rows_leave slots choice plan (take i rows) domain
        → next ≡ row_leaves slots choice plan (row_of (get_or rows i 0)) left → next ≡ rows_leave slots choice plan (take (i + 1) rows) domain
    rows-turn i left next h e f =
        f ∙ ap (row_leaves slots choice plan (row_of (get_or rows i 0))) e
        ∙ sym (rows_snoc (take i rows) (get_or rows i 0) domain)
        ∙ ap (λ (l : List ℕ). rows_leave slots choice plan l domain) (sym (ap (λ (n : ℕ). take n rows) (add-one i) ∙ take-suc rows i 0 h))

    pub rows_all : (i front left : ℕ) → length rows ≤ i → i ≤ front → left ≡ rows_leave slots choice plan (take i rows) domain
        → left ≡ rows_leave slots choice plan (take front rows) domain
    rows_all i front left h k e =
        e ∙ ap (λ (l : List ℕ). rows_leave slots choice plan l domain) (take_all i rows h ∙ sym (take_all front rows (omega arith)))

    pub rows-done : (i front left : ℕ) → i ≤ front → front ≤ i → left ≡ rows_leave slots choice plan (take i rows) domain
        → left ≡ rows_leave slots choice plan (take front rows) domain
    rows-done i front left h k e =
        let f : i ≡ front = omega arith in
        e ∙ ap (λ (n : ℕ). rows_leave slots choice plan (take n rows) domain) f
