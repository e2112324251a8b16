use Rattle.search_turn.proofs.SightLaws.{sight_above, sight_of_full, sight_of_the_rust}
use Rattle.search_turn.proofs.sight.sight_at.Goals as goal

pub returns-then-depth-choices : goal.returns-then-depth-choices
returns-then-depth-choices c =
    sight_above _ _ _ _ c.if-depth-choices.true

pub returns-then-full : goal.returns-then-full
returns-then-full c =
    sight_of_full _ _ _ _ _ _ _ c.if-depth-choices.false c.front.ensures c.is_feasible-passes.ensures c.if-full.true c.sight_full.ensures

pub returns : goal.returns
returns c =
    sight_of_the_rust _ _ _ _ _ _ _ c.if-depth-choices.false c.front.ensures c.is_feasible-passes.ensures c.if-full.false c.sight_as_the_rust.ensures
