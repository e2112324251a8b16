-- No two outcomes fit what `new`, `find`, `join` and `groups` promise.
use mathlib.Core.Path.{◌≡◌, refl, sym, ap, ◌∙◌}
use mathlib.Core.List.{List}
use Prim.Native.Nat.{ℕ}
use Rattle.base_lists.proofs.Outcome.{no_two}
use Rattle.std.specs.Prelude.{Result}
use Rattle.day_rows.specs.Told.{tells, outcome}
use Rattle.day_rows.specs.declared.refusal.Refusal.{Refusal}
use Rattle.day_rows.proofs.ToldLaws.{one_told, one_told-outcome}
use Rattle.reduce_union_find.specs.declared.UnionFind.{UnionFind}
use Rattle.reduce_union_find.specs.declared.Joined.{Joined}
use Rattle.reduce_union_find.specs.State.{fresh, find_of, joined_tells, join_of}
use Rattle.reduce_union_find.specs.Groups.{groups_of}

pub new-settled : {r s : UnionFind} → r ≡ fresh → s ≡ fresh → r ≡ s
new-settled = no_two

pub find_settled : (c : ℕ) (uf : UnionFind) (element : ℕ) {r s : Result ℕ Refusal} → tells r ≡ find_of c uf element → tells s ≡ find_of c uf element → r ≡ s
find_settled c uf element = one_told

pub join_settled : (c : ℕ) (uf : UnionFind) (left right : ℕ) (r s : Joined)
    → joined_tells (tells r.found) r.state ≡ join_of c uf left right → joined_tells (tells s.found) s.state ≡ join_of c uf left right → r ≡ s
join_settled c uf left right r s p q =
    let f = one_told (ap (λ t. t.found) (p ∙ sym q)) refl in
    let u = ap (λ t. t.state) (p ∙ sym q) in
    λ i. record { found = f i; state = u i }

pub groups-settled : (c : ℕ) (uf : UnionFind) (members ends : List ℕ) {r s : Result ℕ Refusal} {m n d e : List ℕ}
    → outcome (tells r) (m, d) ≡ groups_of c uf members ends → outcome (tells s) (n, e) ≡ groups_of c uf members ends → (r ≡ s) × (m ≡ n) × (d ≡ e)
groups-settled c uf members ends p q =
    let z = one_told-outcome p q in
    (z.0, ap (λ b. b.0) z.1, ap (λ b. b.1) z.1)
