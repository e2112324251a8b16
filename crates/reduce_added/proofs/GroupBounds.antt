-- How many rows are copied: few enough for every count to fit.
use mathlib.Core.Bool.{Bool, true, false, cond}
use mathlib.Core.List.{List, [], ◌∷◌, flat_map}
use Prim.Native.Nat.{ℕ, ◌-◌, ◌*◌, ◌≤◌}
use native.Mathlib.Nat.{suc-mul}
use native.Mathlib.Omega.{arith}
use lib.Dec.{eqb}
use lib.ListN.{length, take, drop, length-append, length-take, length-drop}
use Rattle.base_lists.specs.Keep.{any_of}
use Rattle.base_lists.specs.steps.Cut.{cut_at}
use Rattle.day_rows.specs.Row.{row_of, row_number, plain_row}
use Rattle.day_rows.specs.declared.row.Row.{Row}
use Rattle.reduce_added.specs.Copies.{copy_to, copies_in, is_copied, copies_of, copies_all}

-- joined parts of at most k each are at most k times their number
pub flat_most {ℓ} : {A : Type ℓ} (f : A → List ℕ) (k : ℕ) → ((x : A) → length (f x) ≤ k) → (xs : List A) → length (flat_map f xs) ≤ length xs * k
unfolding flat_map
flat_most f k h [] = omega arith
flat_most f k h (x ∷ xs) = rw (length-append (f x) (flat_map f xs), suc-mul (length xs) k) (omega (arith, h x, flat_most f k h xs))

pub cut_most : (f : List ℕ → List ℕ) (n k : ℕ) → ((l : List ℕ) → length l ≤ n → length (f l) ≤ k) → (flat : List ℕ) → length flat ≤ n
    → (ends : List ℕ) (start : ℕ) → length (flat_map f (cut_at start ends flat)) ≤ length ends * k
unfolding flat_map cut_at
cut_most f n k h flat g [] start = omega arith
cut_most f n k h flat g (end ∷ ends) start =
    let p : length (take (end - start) (drop start flat)) ≤ n = rw (length-take, length-drop) (omega arith) in
    rw (length-append (f (take (end - start) (drop start flat))) (flat_map f (cut_at end ends flat)), suc-mul (length ends) k)
    (omega (arith, h (take (end - start) (drop start flat)) p, cut_most f n k h flat g ends end))

pub copy_most : (row : Row) (member : ℕ) → length (copy_to row member) ≤ 1
unfolding copy_to
copy_most row member = go (eqb member row.right)
  where
    go : (b : Bool) → length (cond b [] (row_number (plain_row row.kind row.left member) ∷ [])) ≤ 1
    go true = omega arith
    go false = omega arith

pub copies_in-most : (row : Row) (group : List ℕ) → length (copies_in row group) ≤ length group
unfolding copies_in
copies_in-most row group = go (any_of (eqb row.right) group)
  where
    go : (b : Bool) → length (cond b (flat_map (copy_to row) group) []) ≤ length group
    go true = omega (arith, flat_most (copy_to row) 1 (copy_most row) group)
    go false = omega arith

pub copies_of-most : (members ends : List ℕ) → length members ≤ 64 → length ends ≤ 64 → (number : ℕ) → length (copies_of (cut_at 0 ends members) number) ≤ 4096
unfolding copies_of
copies_of-most members ends m e number = go (is_copied (row_of number).kind)
  where
    go : (b : Bool) → length (cond b (flat_map (copies_in (row_of number)) (cut_at 0 ends members)) []) ≤ 4096
    go true = omega (arith, cut_most (copies_in (row_of number)) 64 64 (λ l h. omega (arith, copies_in-most (row_of number) l)) members m ends 0)
    go false = omega arith

pub copies_most : (members ends rows : List ℕ) → length members ≤ 64 → length ends ≤ 64 → length rows ≤ 128 → length (copies_all (cut_at 0 ends members) rows) ≤ 524288
copies_most members ends rows m e r =
    omega (arith, flat_most (copies_of (cut_at 0 ends members)) 4096 (copies_of-most members ends m e) rows)
