-- No choice is left, or few are.
use Rattle.std.proofs.Common.{rules}
use Rattle.list_look.proofs.StepLaws.{few_left}
use Rattle.list_look.proofs.see.near_end.Goals as goal

pub returns : goal.returns
returns c =
    few_left _ _ _ (search rules)
