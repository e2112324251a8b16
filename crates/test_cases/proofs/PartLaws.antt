-- The part of a list from a place on, as it is taken from the rest of the list.
use Rattle.std.proofs.Common.{◌≡◌, ℕ, ◌-◌, ◌<◌, List, [], length, take, drop, sym, ap, ◌∙◌, arith, length-drop, drop_of_length-le, take_all}
use lib.Seq.{take-nil}

-- behind the list there is nothing
pub part_none : {A : Type 0} (list : List A) (at n : ℕ) → length list < at → take 0 list ≡ take n (drop at list)
part_none list at n h =
    let e : drop at list ≡ [] = drop_of_length-le list {i = at} (omega arith) in
    sym (ap (take n) e ∙ take-nil n)

-- else the rest of the list is all that follows
pub part-rest : {A : Type 0} (list : List A) (at n : ℕ) → take n (take (length list - at) (drop at list)) ≡ take n (drop at list)
part-rest list at n = ap (take n) (take_all (length list - at) (drop at list) (rw length-drop (omega arith)))
