-- Nothing is written for too many rows or choosers.
use Rattle.reduce_added.proofs.Limits.{many-rows, many-choosers, choosers_require, choosers-written}
use Rattle.reduce_added.proofs.pairs.mandatory_pairs.Goals as goal

pub returns-then-rows-gt128 : goal.returns-then-rows-gt128
returns-then-rows-gt128 c = many-rows _ _ _ c.if-rows-gt128.true

pub returns-then-choosers-gt200 : goal.returns-then-choosers-gt200
returns-then-choosers-gt200 c = many-choosers _ _ c.if-rows-gt128.false _ c.if-choosers-gt200.true

pub write_mandatory_pairs-requires : goal.write_mandatory_pairs-requires
write_mandatory_pairs-requires c =
    choosers_require _ _ c.if-rows-gt128.false c.if-choosers-gt200.false

pub returns : goal.returns
returns c =
    choosers-written _ _ c.if-rows-gt128.false c.if-choosers-gt200.false _ _ c.write_mandatory_pairs.ensures
