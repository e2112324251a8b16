-- Runs of stores: one behind the other, and a list copied element by element.
use mathlib.Core.Path.{◌≡◌}
use mathlib.Core.List.{List, [], ◌∷◌, ◌++◌}
use Prim.Native.Nat.{ℕ, suc, ◌+◌, ◌≤◌, ◌<◌}
use native.Mathlib.Nat.{add-zero}
use native.Mathlib.Numerals.{add-one}
use native.Mathlib.Omega.{arith}
use lib.ListN.{length, get_or, set, drop, drop_of_length-le}
use lib.Seq.{sets, drop-cons}

module _ {ℓ} {A : Type ℓ} where
  -- two runs of stores, the second where the first ends, are one run
  pub sets_join : (l : List A) (i : ℕ) (vs ws : List A) → sets (sets l i vs) (i + length vs) ws ≡ sets l i (vs ++ ws)
  sets_join l i [] ws = rw add-zero
  sets_join l i (v ∷ vs) ws =
      let e : i + suc (length vs) ≡ suc i + length vs = omega arith in
      rw e (sets_join (set l i v) (suc i) vs ws)

  -- the copying loop at place i: that element is stored, the rest is left
  pub copy_more : (out l : List A) (at i : ℕ) (d : A) → i < length l → sets (set out (at + i) (get_or l i d)) (at + (i + 1)) (drop (i + 1) l) ≡ sets out (at + i) (drop i l)
  copy_more out l at i d h =
      let e : at + (i + 1) ≡ suc (at + i) = omega arith in
      rw (e, add-one i, drop-cons l i d h)

  -- the copying loop at its end: nothing is left to store
  pub copy_all : (out l : List A) (at i : ℕ) → length l ≤ i → sets out at (drop i l) ≡ out
  copy_all out l at i h = rw (drop_of_length-le l h)
