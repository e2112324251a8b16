-- The draws one after the other.
use mathlib.Core.Path.{◌≡◌, sym, ap}
use mathlib.Core.Bool.{false}
use mathlib.Core.List.{List}
use Prim.Native.Nat.{ℕ, suc, ◌+◌, ◌≤◌, ◌<◌}
use native.Mathlib.Omega.{arith}
use borrow.Author.Tests.{lt-ltb, le-ltb, ne_eqb}
use lib.Dec.{eqb}
use lib.ListN.{length}
use Rattle.search_rules.specs.Pass.{next_draw}

module _ (list : List ℕ) (at : ℕ) where
  pub next_past : length list ≤ at → 0 ≡ next_draw list at
  unfolding next_draw
  next_past h = rw (le-ltb (suc at) (length list) (omega arith))

  pub next-on : at + 1 < length list → at + 1 ≡ next_draw list at
  unfolding next_draw
  next-on h = rw (lt-ltb (suc at) (length list) (omega arith)) (omega arith)

  pub next-first : length list ≤ at + 1 → 0 ≡ next_draw list at
  unfolding next_draw
  next-first h = rw (le-ltb (suc at) (length list) (omega arith))

-- a depth past the choices isn't the last
pub not_last : (choices depth : ℕ) → choices ≤ depth → false ≡ eqb (suc depth) choices
not_last choices depth h = sym (ne_eqb (suc depth) choices (λ e. omega arith))

pub last-is : (choices depth : ℕ) → eqb (depth + 1) choices ≡ eqb (suc depth) choices
last-is choices depth =
    let e : depth + 1 ≡ suc depth = omega arith in
    ap (λ (n : ℕ). eqb n choices) e
