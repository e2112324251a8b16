-- One law, of bits.
use native.Mathlib.Omega.{arith}
use lib.Count.{trailing_le}
use Rattle.list_domains.proofs.LowestLaws.{lowest_law}
use Rattle.list_domains.proofs.places.lowest_place.Goals as goal

pub overflow_cast-result : goal.overflow_cast-result
overflow_cast-result c = omega (arith, trailing_le 64 c.args.domain)

pub returns : goal.returns
returns c = lowest_law _
