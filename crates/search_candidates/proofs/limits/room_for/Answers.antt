-- Each op's arm has the key that it matched; past them all, none is asked.
use mathlib.Core.Path.{sym}
use Rattle.search_candidates.proofs.CaseLaws.{room_eq, room_leq, room_lt, room-other}
use Rattle.search_candidates.proofs.limits.room_for.Goals as goal

pub returns-in-32769 : goal.returns-in-32769
returns-in-32769 c =
    sym (room_eq _ _ _ c.in-32769.is)

pub returns-in-32766 : goal.returns-in-32766
returns-in-32766 c =
    sym (room_leq _ _ _ c.in-32766.is)

pub returns-in-32765 : goal.returns-in-32765
returns-in-32765 c =
    sym (room_lt _ _ _ c.in-32765.is)

pub returns-in_default : goal.returns-in_default
returns-in_default c =
    let r = c.in_default.in_default-own.rest in
    sym (room-other _ _ _ r.0.0.1 r.0.1 r.1)
