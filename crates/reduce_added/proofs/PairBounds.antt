-- How many pairs a stage writes: few enough for every count to fit.
use mathlib.Core.List.{List, [], ◌∷◌, map, flat_map}
use Prim.Native.Nat.{ℕ, zero, suc, ◌*◌, ◌≤◌}
use native.Mathlib.Nat.{suc-mul}
use native.Mathlib.Omega.{arith}
use lib.ListN.{length, length-append, length-map}
use Rattle.base_lists.specs.steps.Cut.{cut_at}
use Rattle.reduce_added.proofs.GroupBounds.{cut_most}
use Rattle.reduce_added.specs.Pairs.{pair_row, pairs_of, mandatory, mandatory_pairs}
use Rattle.reduce_added.proofs.Pairing.{mandatory-most}

pub pairs-most : (list : List ℕ) (n : ℕ) → length list ≤ n → length (pairs_of list) ≤ length list * n
unfolding pairs_of
pairs-most [] n h = omega arith
pairs-most (x ∷ list) n h =
    rw (length-append (map (pair_row x) list) (pairs_of list), length-map list (pair_row x), suc-mul (length list) n) (omega (arith, pairs-most list n (omega arith)))

-- the most pairs that each of the two stages writes
pub group_pairs-most : (members ends : List ℕ) → length members ≤ 64 → length ends ≤ 64 → length (flat_map pairs_of (cut_at 0 ends members)) ≤ 262144
group_pairs-most members ends m e =
    omega (arith, cut_most pairs_of 64 4096 (λ l h. omega (arith, pairs-most l 64 h)) members m ends 0)

pub mandatory-pairs-most : (rows : List ℕ) → length rows ≤ 128 → (choosers : ℕ) → length (mandatory_pairs rows choosers) ≤ choosers * 16384
unfolding mandatory_pairs
mandatory-pairs-most rows h zero = omega arith
mandatory-pairs-most rows h (suc choosers) =
    rw (length-append (mandatory_pairs rows choosers) (pairs_of (mandatory rows choosers)))
    (omega (arith, mandatory-pairs-most rows h choosers, pairs-most (mandatory rows choosers) 128 (omega (arith, mandatory-most rows choosers)), mandatory-most rows choosers))
