-- Each kind's arm is its sentence, one arm for kinds 3 to 5; past them all, no place is allowed.
use mathlib.Core.Path.{sym, ◌∙◌, ap}
use native.Mathlib.Omega.{arith}
use lib.Dec.{eqb}
use Rattle.search_candidates.specs.Loads.{size_of}
use Rattle.search_candidates.proofs.CaseLaws.{allows_in_slot, allows-not_in_slot, allows-between, allows_limited_size, allows-none-below, allows-none-above}
use Rattle.search_candidates.proofs.allow.row_allows.Goals as goal

pub returns-in-1 : goal.returns-in-1
returns-in-1 c =
    ap (eqb _) c.right_of.ensures ∙ sym (allows_in_slot _ _ _ _ _ (sym c.kind_of.ensures ∙ c.in-1.is))

pub returns-in-2 : goal.returns-in-2
returns-in-2 c =
    rw c.right_of-in-2.ensures (sym (allows-not_in_slot _ _ _ _ _ (sym c.kind_of.ensures ∙ c.in-2.is)))

pub returns-in-6 : goal.returns-in-6
unfolding size_of
returns-in-6 c =
    c.room_allows.ensures ∙ sym (allows_limited_size _ _ _ _ _ (sym c.kind_of.ensures ∙ c.in-6.is))

pub returns-in-3 : goal.returns-in-3
returns-in-3 c =
    let e = c.kind_of.ensures in
    c.pair_allows.ensures ∙ sym (allows-between _ _ _ _ _ (omega arith) (omega arith) (λ k. omega arith) (λ k. omega arith))

pub returns-in_default : goal.returns-in_default
returns-in_default c =
    let e = c.kind_of.ensures in
    sym (allows-none-below _ _ _ _ _ (omega arith))

pub returns-in_default-2 : goal.returns-in_default-2
returns-in_default-2 c =
    let e = c.kind_of.ensures in
    sym (allows-none-above _ _ _ _ _ (omega arith) (λ k. omega arith))
