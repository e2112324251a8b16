-- The part that is filled has as many entries as are asked for.
use Rattle.std.proofs.Common.{sym, length-take-le}
use Rattle.test_cases.proofs.parts.few_bytes.Goals as goal

pub slice_bounds-read_bytes-end-then-n-pool : goal.slice_bounds-read_bytes-end-then-n-pool
slice_bounds-read_bytes-end-then-n-pool c = sym (length-take-le _ _ c.if-n-pool.true)
