-- Each part stands within the file and fits its pool; the six lists padded are the pools.
use mathlib.Core.Path.{refl}
use Rattle.day_file.proofs.CountLaws.{within, mins_ask, maxs_ask, optional_ask, levels_ask, preferences_ask, rows_ask, full}
use Rattle.day_file.proofs.ReadLaws.{filled}
use Rattle.day_file.proofs.read.fill_pools.Goals as goal

pub fill_words-requires : goal.fill_words-requires
fill_words-requires c =
    let a = mins_ask (within c.requires.ranges c.requires.end refl) (full _ _ _ _ _ _ c.requires.full).mins-full in
    rw c.columns-lists.ensures (record { room = a.0; within = a.1 })

pub fill_words-requires-2 : goal.fill_words-requires-2
fill_words-requires-2 c =
    let a = maxs_ask (within c.requires.ranges c.requires.end refl) (full _ _ _ _ _ _ c.requires.full).maxs-full in
    rw c.columns-lists.ensures (record { room = a.0; within = a.1 })

pub fill_optional-requires : goal.fill_optional-requires
fill_optional-requires c =
    let a = optional_ask (within c.requires.ranges c.requires.end refl) (full _ _ _ _ _ _ c.requires.full).optional-full in
    rw c.columns-lists.ensures (record { room = a.0; within = a.1 })

pub fill_words-requires-3 : goal.fill_words-requires-3
fill_words-requires-3 c =
    let a = levels_ask (within c.requires.ranges c.requires.end refl) (full _ _ _ _ _ _ c.requires.full).levels-full in
    rw c.columns-lists.ensures (record { room = a.0; within = a.1 })

pub fill_words-requires-4 : goal.fill_words-requires-4
fill_words-requires-4 c =
    let a = preferences_ask (within c.requires.ranges c.requires.end refl) (full _ _ _ _ _ _ c.requires.full).preferences-full in
    rw c.columns-lists.ensures (record { room = a.0; within = a.1 })

pub fill_rows-requires : goal.fill_rows-requires
fill_rows-requires c =
    let a = rows_ask (within c.requires.ranges c.requires.end refl) (full _ _ _ _ _ _ c.requires.full).rows-full in
    rw c.columns-lists.ensures (record { room = a.0; within = a.1 })

pub returns : goal.returns
returns c =
    let e = c.columns-lists.ensures in
    filled _ _ refl (full _ _ _ _ _ _ c.requires.full) (rw e at c.fill_words.ensures) (rw e at c.fill_words-2.ensures) (rw e at c.fill_optional.ensures) (rw e at c.fill_words-3.ensures) (rw e at c.fill_words-4.ensures) (rw e at c.fill_rows.ensures)
