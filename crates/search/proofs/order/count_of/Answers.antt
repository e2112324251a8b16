-- The rows looked up are counted.
use mathlib.Core.Path.{◌∙◌, ap}
use mathlib.Core.List.{List}
use Prim.Native.Nat.{ℕ, min}
use lib.ListN.{length}
use Rattle.search.proofs.order.count_of.Goals as goal

pub returns : goal.returns
returns c = c.min.ensures ∙ ap (λ (found : List ℕ). min (length found) 65535) c.rows_of.ensures
