-- An omitted choice passes; a scheduled one by comparing the bytes.
use mathlib.Core.Path.{sym}
use Rattle.search_candidates.proofs.CaseLaws.{ends-out, ends_in}
use Rattle.search_candidates.proofs.ends.ends_differ.Goals as goal

pub returns-then-left-eq-OMITTED : goal.returns-then-left-eq-OMITTED
returns-then-left-eq-OMITTED c =
    sym (ends-out _ _ c.if-left-eq-OMITTED.true)

pub returns : goal.returns
returns c =
    sym (ends_in _ _ c.if-left-eq-OMITTED.false)
