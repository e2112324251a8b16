-- The groups are read back from where they were written.
use Rattle.reduce.proofs.Filling.{count_most, count-is, ends-length, groups-read, small_of, filled-added}
use native.Mathlib.Omega.{arith}
use Rattle.reduce.proofs.expand.add_following.Goals as goal

pub slice_bounds-ends-end : goal.slice_bounds-ends-end
slice_bounds-ends-end c =
    omega (arith, count_most _ _ c.requires.choices_in _ _ _ c.groups-found.ensures, ends-length _ _ c.requires.choices_in _ _ _ c.groups-found.ensures)

pub slice_bounds-groups-end-2 : goal.slice_bounds-groups-end-2
slice_bounds-groups-end-2 c =
    count-is _ _ c.requires.choices_in _ _ _ c.groups-found.ensures

pub add_rows-requires : goal.add_rows-requires
add_rows-requires c =
    let s = c.requires in
    small_of _ _ _ _ s.choices_in _ _ _ c.groups-found.ensures s.choosers_in s.rows_in s.pool-is

pub returns : goal.returns
returns c =
    filled-added _ _ _ _ _ _ _ _ (groups-read _ _ c.requires.choices_in _ _ _ c.groups-found.ensures) c.add_rows.ensures
