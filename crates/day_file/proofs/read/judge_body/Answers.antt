-- Each return is one law: the tests before it held, and its own did not.
use Rattle.day_file.proofs.CountLaws.{within, rows_ask}
use Rattle.day_file.proofs.ReadLaws.{body_optional, body_levels, body_preference, body_rows}
use mathlib.Core.Path.{refl}
use Rattle.day_file.proofs.read.judge_body.Goals as goal

pub returns-then-not-optional_in : goal.returns-then-not-optional_in
returns-then-not-optional_in c =
    body_optional _ _ refl (rw c.columns-lists.ensures at c.optional_in.ensures) (c.if-not-optional_in.true)

pub returns-then-not-levels_in : goal.returns-then-not-levels_in
returns-then-not-levels_in c =
    body_levels _ _ refl (rw c.columns-lists.ensures at c.optional_in.ensures) (c.if-not-optional_in.false) (rw c.columns-lists.ensures at c.levels_in.ensures) (c.if-not-levels_in.true)

pub returns-then-not-preferences_in : goal.returns-then-not-preferences_in
returns-then-not-preferences_in c =
    body_preference _ _ refl (rw c.columns-lists.ensures at c.optional_in.ensures) (c.if-not-optional_in.false) (rw c.columns-lists.ensures at c.levels_in.ensures) (c.if-not-levels_in.false) (within c.requires.ranges c.requires.end refl) (rw c.columns-lists.ensures at c.word_at-last.ensures) (rw c.columns-lists.ensures at c.preferences_in.ensures) (c.if-not-preferences_in.true)

pub rows_in-requires : goal.rows_in-requires
rows_in-requires c =
    let a = rows_ask (within c.requires.ranges c.requires.end refl) refl in
    rw c.columns-lists.ensures (record { few = a.0; within = a.1 })

pub returns : goal.returns
returns c =
    body_rows _ _ refl (rw c.columns-lists.ensures at c.optional_in.ensures) (c.if-not-optional_in.false) (rw c.columns-lists.ensures at c.levels_in.ensures) (c.if-not-levels_in.false) (within c.requires.ranges c.requires.end refl) (rw c.columns-lists.ensures at c.word_at-last.ensures) (rw c.columns-lists.ensures at c.preferences_in.ensures) (c.if-not-preferences_in.false) c.for_rows.ensures (rw c.columns-lists.ensures at c.rows_in.ensures)
