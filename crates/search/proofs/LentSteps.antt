-- The pass with its order and its sets.
use mathlib.Core.Path.{◌≡◌, ◌∙◌, ap, ap₂}
use mathlib.Core.List.{List}
use Prim.Native.Nat.{ℕ, min}
use lib.ListN.{get_or}
use Rattle.search_order.specs.Order.{pass_order}
use Rattle.search_rules.specs.Pass.{Lent, lent_of}
use Rattle.search_pass.specs.steps.Call.{Leaves, pass_leaves}
use Rattle.search.specs.steps.LevelPass.{Basis, sets_listed, rows_found, lent_by}

pub pass-answers : (basis : Basis) (limit pass turns draw : ℕ) (before : List ℕ) {choices : ℕ} {order sets : List ℕ} {left : Leaves}
    → choices ≡ min basis.day.counts.choices 64
    → order ≡ pass_order choices basis.orders (λ choice. get_or (rows_found basis.map basis.whole) choice 0) pass
    → sets ≡ sets_listed basis.levels basis.count basis.pools limit
    → left ≡ pass_leaves (lent_of basis.full basis.day basis.map basis.whole order sets basis.draws) turns draw before
    → left ≡ pass_leaves (lent_by basis limit pass) turns draw before
unfolding lent_by
pass-answers basis limit pass turns draw before c o s e =
    e
    ∙ ap (λ (l : Lent). pass_leaves l turns draw before)
    (ap₂ (λ (x y : List ℕ). lent_of basis.full basis.day basis.map basis.whole x y basis.draws)
    (o ∙ ap (λ (n : ℕ). pass_order n basis.orders (λ choice. get_or (rows_found basis.map basis.whole) choice 0) pass) c) s)
