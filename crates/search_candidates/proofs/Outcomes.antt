-- No two outcomes fit what `fill` promises.
use mathlib.Core.Path.{◌≡◌, sym, ◌∙◌, ap}
use mathlib.Core.List.{List}
use Prim.Native.Nat.{ℕ}
use Rattle.search_candidates.specs.Bucket.{Asked, Written, written, fill_of}
use Rattle.search_candidates.specs.declared.bucket.Filled.{Filled}

pub one_fill : (asked : Asked) (list : List ℕ) {a b : Filled} {l m : List ℕ} → written a.count a.drew l ≡ fill_of asked list → written b.count b.drew m ≡ fill_of asked list
    → (a ≡ b) × (l ≡ m)
one_fill asked list p q =
    let z = p ∙ sym q in
    (ap (λ w. filled w) z, ap (λ w. w.list) z)
  where
    filled : Written → Filled
    filled w = record { count = w.count; drew = w.drew }
