-- The other set's members are taken away.
use Rattle.std.proofs.Common.{rules}
use Rattle.list_walk.proofs.StillLaws.{minus_has}
use Rattle.list_walk.proofs.stand.without.Goals as goal

pub returns : goal.returns
returns c = minus_has _ _ (search rules) (search rules)
