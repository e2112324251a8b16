-- A row of a lower kind, of a higher one, and of these.
use native.Mathlib.Omega.{arith}
use Rattle.thalluscrest_figures.proofs.KindLaws.{none-low, none-high, one-counted}
use Rattle.thalluscrest_figures.proofs.day.one_of_kinds.Goals as goal

pub returns-then-kind-low : goal.returns-then-kind-low
returns-then-kind-low c = (none-low _ _ _ c.kind_of-kind.ensures c.if-kind-low.true, omega arith)

pub returns-then-high-kind : goal.returns-then-high-kind
returns-then-high-kind c = (none-high _ _ _ c.kind_of-kind.ensures c.if-kind-low.false c.if-high-kind.true, omega arith)

pub returns : goal.returns
returns c = (one-counted _ _ _ c.kind_of-kind.ensures c.if-kind-low.false c.if-high-kind.false, omega arith)
