-- A dead start has no places, another one keeps its domains.
use mathlib.Core.Path.{sym, ◌∙◌}
use Rattle.list_look.proofs.StepLaws.{ends, goes_on}
use Rattle.list_look.proofs.alive.alive_or.Goals as goal

pub returns-then-not-is_alive : goal.returns-then-not-is_alive
returns-then-not-is_alive c =
    ends _ _ (sym c.is_alive.ensures ∙ c.if-not-is_alive.true)

pub returns : goal.returns
returns c =
    goes_on _ _ (sym c.is_alive.ensures ∙ c.if-not-is_alive.false)
