-- Each choice's first domain, one after the other.
use Rattle.list_domains.proofs.DomainLaws.{FirstUpTo}
use Rattle.list_domains.proofs.places.first_domains.Given as goal

abbrev pub invariant-loop-choice : goal.invariant-loop-choice
invariant-loop-choice l = FirstUpTo l.slots l.optional l.domain-items l.choice
