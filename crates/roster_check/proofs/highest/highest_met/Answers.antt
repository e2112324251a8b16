use borrow.Author.Rules.{rules}
use mathlib.Core.Path.{refl}
use native.Mathlib.Omega.{arith}
use Rattle.roster_check.specs.Roster.{highest_met}
use Rattle.roster_check.specs.Passes.{highest}
use Rattle.roster_check.proofs.SeatLaws.{part_at, part_small}
use Rattle.roster_check.proofs.HighestLaws.{highest-none, highest-more, highest-done, chooser-highest, from-few}
use Rattle.roster_check.proofs.highest.highest_met.Goals as goal

pub loop-chooser-init : goal.loop-chooser-init
loop-chooser-init c =
    highest-none _

pub overflow_mul-at : goal.overflow_mul-at
overflow_mul-at c =
    omega (arith, part_small _ _ _ _ refl _ c.requires.seated c.loop-chooser-test.true)

pub overflow_add-end : goal.overflow_add-end
overflow_add-end c =
    omega (arith, part_small _ _ _ _ refl _ c.requires.seated c.loop-chooser-test.true)

pub highest_of-met-requires : goal.highest_of-met-requires
highest_of-met-requires c =
    from-few _ _ _ _ refl (omega (arith, c.loop-chooser-test.true)) c.requires.seated.few-choosers c.requires.few-choices

pub loop-chooser-preserved : goal.loop-chooser-preserved
loop-chooser-preserved c =
    highest-more _ _ c.loop-chooser.invariant (chooser-highest _ _ _ _ _ _ c.requires.seated c.loop-chooser-test.true (part_at _ _ _ _ refl) refl c.highest_of-met.ensures) (search rules)

pub returns : goal.returns
unfolding highest highest_met
returns c =
    highest-done _ _ _ (omega arith) c.loop-chooser-test.false c.loop-chooser.invariant
