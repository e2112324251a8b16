-- The length, then version and counts.
use Rattle.day_file.proofs.CountLaws.{in_range}
use Rattle.day_write.proofs.WriteLaws.{head-put, rest-fits}
use Rattle.day_write.proofs.put.put_head.Goals as goal

pub put_length-requires : goal.put_length-requires
put_length-requires c =
    record { fits = rest-fits (in_range _ c.requires.ranges) c.rest_of.ensures; room = c.requires.room }

pub returns : goal.returns
returns c =
    head-put _ _ c.rest_of.ensures c.put_length.ensures c.put_counts.ensures
