-- The part lent to the read is as long as the record.
use Rattle.std.proofs.Common.{sym, length-take-le}
use Rattle.test_cases.proofs.read_next.Goals as goal

pub slice_bounds-read_full-end-3 : goal.slice_bounds-read_full-end-3
slice_bounds-read_full-end-3 c =
    sym (length-take-le _ _ c.if-buffer-size.false)
