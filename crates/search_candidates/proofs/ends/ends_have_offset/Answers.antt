-- Left omitted, right alone omitted, both scheduled.
use mathlib.Core.Path.{sym}
use Rattle.search_candidates.proofs.CaseLaws.{offset-left-out, offset-right-out, offset-both}
use Rattle.search_candidates.proofs.ends.ends_have_offset.Goals as goal

pub returns-then-left-eq-OMITTED : goal.returns-then-left-eq-OMITTED
returns-then-left-eq-OMITTED c =
    sym (offset-left-out _ _ _ c.if-left-eq-OMITTED.true)

pub returns-then-right-eq-OMITTED : goal.returns-then-right-eq-OMITTED
returns-then-right-eq-OMITTED c =
    sym (offset-right-out _ _ _ c.if-left-eq-OMITTED.false c.if-right-eq-OMITTED.true)

pub returns : goal.returns
returns c =
    sym (offset-both _ _ _ c.if-left-eq-OMITTED.false c.if-right-eq-OMITTED.false)
