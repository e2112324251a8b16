-- What is refused, and else what the worker fills.
use Rattle.day_rows.proofs.ToldLaws.{passed_on}
use Rattle.search_map.proofs.Filling.{own-refused, own-good, own-done, own-over}
use Rattle.search_map.proofs.own_map.own_map.Goals as goal

pub returns-in_err-judge : goal.returns-in_err-judge
returns-in_err-judge c =
    own-refused _ _ _ _ _ _ (passed_on _ _ c.from_residual.ensures.1) c.in_err-judge.ensures

pub fill-count-requires : goal.fill-count-requires
fill-count-requires c =
    own-good _ _ _ _ _ c.in_ok-judge.ensures

pub returns-then-count-gt-MOST_NUMBERS : goal.returns-then-count-gt-MOST_NUMBERS
returns-then-count-gt-MOST_NUMBERS c =
    own-over _ _ _ _ _ c.in_ok-judge.ensures c.fill-count.ensures c.if-count-gt-MOST_NUMBERS.true

pub returns : goal.returns
returns c =
    own-done _ _ _ _ _ c.in_ok-judge.ensures c.fill-count.ensures c.if-count-gt-MOST_NUMBERS.false
