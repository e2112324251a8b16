-- The same-choosers groups, a law for each way through their functions.
use mathlib.Core.Path.{◌≡◌, refl, sym, ◌∙◌, ap}
use mathlib.Core.Bool.{Bool, cond}
use mathlib.Core.List.{List, [], ◌∷◌, ◌++◌, flat_map}
use Prim.Native.Nat.{ℕ, ◌+◌, ◌≤◌, ◌<◌}
use native.Mathlib.Numerals.{add-one}
use native.Mathlib.Omega.{arith}
use borrow.Author.Tests.{eq-eqb, ne_eqb}
use lib.ListN.{length, get_or, drop, drop_of_length-le}
use lib.Seq.{drop-cons}
use Rattle.std.specs.Prelude.{Result, Ok, Err}
use Rattle.day_rows.specs.Row.{row_of}
use Rattle.day_rows.specs.declared.row.Row.{Row}
use Rattle.reduce_union_find.specs.declared.UnionFind.{UnionFind}
use Rattle.reduce_union_find.specs.State.{join_of, join_from, join_all, fresh, JoinedTells}
use Rattle.day_rows.specs.Told.{done, refusal_tells, outcome, tells}
use Rattle.day_rows.specs.declared.refusal.Refusal.{Refusal}
use Rattle.reduce_union_find.specs.Groups.{groups_of, groups_written, GroupsOutcome}
use Rattle.reduce_union_find.proofs.Made.{never-refused}
use Rattle.reduce_union_find.proofs.Grouping.{groups-wrote}
use Rattle.reduce_turn.specs.Turn.{kind_of, left_of, right_of}
use Rattle.reduce_added.specs.Groups.{join_one, joins, same_choosers}
use Rattle.reduce_turn.proofs.Turning.{kind-is, kind-not}

-- joins one part after another
pub join_append : (choices : ℕ) (uf : UnionFind) (p q : List (ℕ × ℕ)) → join_from choices uf (p ++ q) ≡ join_from choices (join_from choices uf p) q
unfolding join_from
join_append choices uf [] q = refl
join_append choices uf (pair ∷ p) q = join_append choices (join_of choices uf pair.0 pair.1).state p q

-- the ways through `join_one`
module _ (choices : ℕ) (uf : UnionFind) (number : ℕ) {row : Row} (e : row ≡ row_of number) where
  pub unjoined : (row.kind ≡ 10 → ⊥) → uf ≡ join_from choices uf (join_one number)
  unfolding join_from join_one
  unjoined n = sym (ap (λ (b : Bool). join_from choices uf (cond b ((left_of number, right_of number) ∷ []) [])) (ne_eqb (kind_of number) 10 (kind-not number e n)))

  pub joined-row : row.kind ≡ 10 → {told : JoinedTells} → told ≡ join_of choices uf row.left row.right → told.state ≡ join_from choices uf (join_one number)
  unfolding join_from join_one
  joined-row t q =
      ap (λ (j : JoinedTells). j.state) q ∙ ap (λ (r : Row). (join_of choices uf r.left r.right).state) e
      ∙ sym (ap (λ (b : Bool). join_from choices uf (cond b ((left_of number, right_of number) ∷ []) [])) (eq-eqb (kind_of number) 10 (kind-is number e t)))

-- the loop of `join_rows`: the rows from place i on are left to join
module _ (choices : ℕ) (rows : List ℕ) where
  abbrev pub JoinsFrom : UnionFind → ℕ → Type 0
  JoinsFrom uf i = join_from choices uf (joins (drop i rows)) ≡ join_all choices (joins rows)

  pub joins-start : {uf : UnionFind} → uf ≡ fresh → JoinsFrom uf 0
  unfolding join_all
  joins-start e = ap (λ (u : UnionFind). join_from choices u (joins rows)) e

  pub joins-next : (uf : UnionFind) {next : UnionFind} (i : ℕ) → i < length rows → JoinsFrom uf i → next ≡ join_from choices uf (join_one (get_or rows i 0)) → JoinsFrom next (i + 1)
  unfolding flat_map
  joins-next uf i h j e =
      ap (λ (u : UnionFind). join_from choices u (joins (drop (i + 1) rows))) e
      ∙ sym (join_append choices uf (join_one (get_or rows i 0)) (joins (drop (i + 1) rows)))
      ∙ ap (join_from choices uf) (sym (ap (flat_map join_one) (drop-cons rows i 0 h) ∙ ap (λ (n : ℕ). join_one (get_or rows i 0) ++ flat_map join_one (drop n rows)) (sym (add-one i))))
      ∙ j

  pub joins-end : (uf : UnionFind) (i : ℕ) → length rows ≤ i → JoinsFrom uf i → uf ≡ join_all choices (joins rows)
  unfolding flat_map join_from
  joins-end uf i h j = ap (λ (l : List ℕ). join_from choices uf (flat_map join_one l)) (sym (drop_of_length-le rows {i = i} h)) ∙ j

  -- the record is never refused, so the groups are written
  pub groups_are : {uf : UnionFind} (members ends : List ℕ) → uf ≡ join_all choices (joins rows) → choices ≤ 64 → length members ≡ 64 → length ends ≡ 64
      → groups_of choices uf members ends ≡ groups_written (same_choosers choices rows)
  unfolding same_choosers
  groups_are members ends e h m n =
      ap (λ (u : UnionFind). groups_of choices u members ends) e
      ∙ groups-wrote choices (join_all choices (joins rows)) members ends (never-refused choices h (joins rows)) m n

  -- the answer of union-find's `groups`, which isn't a refusal
  module _ {uf : UnionFind} {told : Result ℕ Refusal} (members ends members' ends' : List ℕ) (e : uf ≡ join_all choices (joins rows)) (h : choices ≤ 64) (m : length members ≡ 64) (n : length ends ≡ 64)
      (q : outcome (tells told) (members', ends') ≡ groups_of choices uf members ends) where
    pub groups-told : (count : ℕ) → told ≡ Ok count → outcome (done count) (members', ends') ≡ groups_written (same_choosers choices rows)
    groups-told count t = ap (λ (g : Result ℕ Refusal). outcome (tells g) (members', ends')) (sym t) ∙ q ∙ groups_are members ends e h m n

    pub groups_unrefused : (why : Refusal) → told ≡ Err why → ⊥
    unfolding groups_written
    groups_unrefused why t =
        let w : outcome (refusal_tells why) (members', ends') ≡ groups_written (same_choosers choices rows) =
        ap (λ (g : Result ℕ Refusal). outcome (tells g) (members', ends')) (sym t) ∙ q ∙ groups_are members ends e h m n in
        let a : refusal_tells why ≡ done (length (same_choosers choices rows)) = ap (λ (g : GroupsOutcome). g.answer) w in
        let z : ◌≡◌ {A = ℕ} 0 1 = cc in
        absurd (omega arith)
