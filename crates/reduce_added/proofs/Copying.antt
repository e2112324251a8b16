-- The copies, a law for each way through their functions.
use mathlib.Core.Path.{◌≡◌, refl, sym, ◌∙◌, ap, ap₂}
use mathlib.Core.Bool.{Bool, true, false, ◌||◌}
use mathlib.Core.List.{List, [], ◌∷◌, flat_map}
use Prim.Native.Nat.{ℕ}
use native.Mathlib.Decide.{ℕ_discrete}
use borrow.Author.Tests.{eq-eqb, ne_eqb}
use lib.Dec.{eqb}
use Rattle.std.specs.List.{list_any}
use Rattle.base_lists.specs.Keep.{any_of}
use Rattle.day_rows.specs.Row.{row_of, row_number, plain_row}
use Rattle.day_rows.specs.declared.row.Row.{Row}
use Rattle.reduce_added.specs.Copies.{copy_to, copies_in, is_copied, copies_of}

pub copied_11 : (kind : ℕ) → kind ≡ 11 → eqb kind 11 ≡ is_copied kind
unfolding is_copied
copied_11 kind e = rw e

pub copied-other : (kind : ℕ) → (kind ≡ 11 → ⊥) → eqb kind 12 ≡ is_copied kind
unfolding is_copied
copied-other kind n = rw (ne_eqb kind 11 n)

pub copy_own : (row : Row) (member : ℕ) → member ≡ row.right → copy_to row member ≡ []
unfolding copy_to
copy_own row member e = rw (eq-eqb member row.right e)

pub copy_other : (row : Row) (member : ℕ) {copy : Row} {r : ℕ} → (member ≡ row.right → ⊥) → copy ≡ plain_row row.kind row.left member → r ≡ row_number copy
    → copy_to row member ≡ r ∷ []
unfolding copy_to
copy_other row member n c q = rw (ne_eqb member row.right n) (ap (λ (x : ℕ). x ∷ []) (sym (q ∙ ap row_number c)))

pub copies_none : (row : Row) (group : List ℕ) → any_of (eqb row.right) group ≡ false → copies_in row group ≡ []
unfolding copies_in
copies_none row group e = rw e

pub copies_some : (row : Row) (group : List ℕ) → any_of (eqb row.right) group ≡ true → copies_in row group ≡ flat_map (copy_to row) group
unfolding copies_in
copies_some row group e = rw e

module _ (groups : List (List ℕ)) (number : ℕ) {row : Row} (e : row ≡ row_of number) where
  pub uncopied : is_copied row.kind ≡ false → copies_of groups number ≡ []
  unfolding copies_of
  uncopied t = rw (sym (ap (λ (r : Row). is_copied r.kind) e) ∙ t)

  pub copied : is_copied row.kind ≡ true → copies_of groups number ≡ flat_map (copies_in row) groups
  unfolding copies_of
  copied t = rw (sym (ap (λ (r : Row). is_copied r.kind) e) ∙ t) (ap (λ (r : Row). flat_map (copies_in r) groups) (sym e))

eqb_turned : (a b : ℕ) → eqb a b ≡ eqb b a
eqb_turned a b =
    elim (ℕ_discrete a b) [
      | yes e ↦ eq-eqb a b e ∙ sym (eq-eqb b a (sym e))
      | no n ↦ ne_eqb a b n ∙ sym (ne_eqb b a (λ e. n (sym e)))
    ]

-- the library's word for an element that equals another, and the definition's
pub holds_is : (choice : ℕ) (group : List ℕ) → list_any (λ y. eqb y choice) group ≡ any_of (eqb choice) group
unfolding any_of
holds_is choice [] = refl
holds_is choice (y ∷ group) = ap₂ (λ (a b : Bool). a || b) (eqb_turned y choice) (holds_is choice group)
