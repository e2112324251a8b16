-- A pool cleared past its result, whatever the entries' width.
use mathlib.Core.Path.{◌≡◌, sym, ◌∙◌, ap}
use mathlib.Core.List.{List, ◌++◌, append-nil}
use Prim.Native.Nat.{ℕ, ◌-◌, ◌≤◌}
use native.Mathlib.Omega.{arith}
use borrow.Rule.Slice.PartMut.{put_mid, mid_of, mid_len, Post-is}
use lib.ListN.{length, take, replicate}
use lib.Seq.{drop-length, length-take-le}
use Rattle.base_lists.specs.Pool.{pad}

-- a pool whose part past its result was cleared is the result, padded
pub cleared-past : (n m : ℕ) (pool result cleared : List ℕ) → length pool ≡ m → n ≤ m → take n pool ≡ result
    → cleared ≡ replicate (length (mid_of n (length pool - n) pool)) 0 → put_mid n (length pool - n) pool cleared ≡ pad m result
unfolding pad
cleared-past n m pool result cleared same fits front z =
    let within : n ≤ length pool = omega arith in
    let k : length (mid_of n (length pool - n) pool) ≡ length pool - n = mid_len n (length pool) pool (omega arith) in
    let e : length result ≡ n = sym (ap length front) ∙ length-take-le n pool within in
    ap (λ (rest : List ℕ). take n pool ++ (cleared ++ rest)) (Post-is n (length pool) pool within ∙ drop-length pool)
    ∙ ap (λ (rest : List ℕ). take n pool ++ rest) (append-nil cleared ∙ z ∙ ap (λ (i : ℕ). replicate i 0) k)
    ∙ rw (front, same, e)
