-- What is refused, and else what the worker finds.
use Rattle.search_map.proofs.Looking.{lookup_refused, lookup_found}
use Rattle.search_map.proofs.lookup.lookup.Goals as goal

pub returns-in_err-judge : goal.returns-in_err-judge
returns-in_err-judge c =
    lookup_refused _ _ _ _ _ _ c.from_residual.ensures.1 c.in_err-judge.ensures

pub returns : goal.returns
returns c =
    lookup_found _ _ _ _ c.in_ok-judge.ensures c.rows_of.ensures
