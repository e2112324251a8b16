use mathlib.Core.Path.{refl}
use native.Mathlib.Omega.{arith}
use Rattle.list_domains.proofs.DomainLaws.{first-none, first_more}
use Rattle.list_domains.proofs.places.first_domains.Goals as goal

pub loop-choice-init : goal.loop-choice-init
loop-choice-init c =
    first-none _ _ refl

pub loop-choice-preserved : goal.loop-choice-preserved
loop-choice-preserved c =
    let f = c.loop-choice.invariant in
    first_more f (omega (arith, f.size)) (rw c.flag_of.ensures at c.first_domain.ensures)

pub returns : goal.returns
returns c =
    let f = c.loop-choice.invariant in
    (f.size, λ choice h. f.first choice (omega (arith, h, f.size)))
