-- Each part has room in the pool; the parts together are the day's bytes.
use mathlib.Core.Path.{◌∙◌, ap}
use Prim.Native.Nat.{ℕ}
use lib.ListN.{replicate}
use Rattle.day_file.specs.FileDay.{file_day_lent}
use Rattle.day_file.proofs.CountLaws.{in_range}
use Rattle.day_file.proofs.FileLaws.{lengths}
use Rattle.day_write.proofs.WriteLaws.{choices-room, levels-room, preferences-room, rows-room, parts-put, rows_fit}
use Rattle.day_write.proofs.write.put_day.Goals as goal

pub put_choices-levels_at-requires : goal.put_choices-levels_at-requires
put_choices-levels_at-requires c =
    let d = file_day_lent c.args.day.now in
    let a = choices-room d.counts d.lists (lengths d.counts d.lists c.requires.lengths) (in_range d.counts c.requires.ranges) (c.put_head.auto.pool ∙ c.fill.auto.self ∙ c.requires.room) in
    record { lengths = (a.0, a.1.0, a.1.1.0); room = a.1.1.1 }

pub put_words-preferences_at-requires : goal.put_words-preferences_at-requires
put_words-preferences_at-requires c =
    let d = file_day_lent c.args.day.now in
    levels-room d.counts d.lists (lengths d.counts d.lists c.requires.lengths) (in_range d.counts c.requires.ranges) (c.put_choices-levels_at.auto.pool ∙ c.put_head.auto.pool ∙ c.fill.auto.self ∙ c.requires.room) c.put_choices-levels_at.ensures.end

pub put_words-rows_at-requires : goal.put_words-rows_at-requires
put_words-rows_at-requires c =
    let d = file_day_lent c.args.day.now in
    preferences-room d.counts d.lists (lengths d.counts d.lists c.requires.lengths) (in_range d.counts c.requires.ranges) (c.put_words-preferences_at.auto.pool ∙ c.put_choices-levels_at.auto.pool ∙ c.put_head.auto.pool ∙ c.fill.auto.self ∙ c.requires.room) c.put_choices-levels_at.ensures.end c.put_words-preferences_at.ensures.end

pub put_rows-requires : goal.put_rows-requires
put_rows-requires c =
    let d = file_day_lent c.args.day.now in
    record { room = rows-room d.counts d.lists (lengths d.counts d.lists c.requires.lengths) (in_range d.counts c.requires.ranges) (c.put_words-rows_at.auto.pool ∙ c.put_words-preferences_at.auto.pool ∙ c.put_choices-levels_at.auto.pool ∙ c.put_head.auto.pool ∙ c.fill.auto.self ∙ c.requires.room) c.put_choices-levels_at.ensures.end c.put_words-preferences_at.ensures.end c.put_words-rows_at.ensures.end; held = rows_fit d c.requires.ranges c.requires.rows }

pub returns : goal.returns
returns c =
    let d = file_day_lent c.args.day.now in
    parts-put d.counts d.lists (lengths d.counts d.lists c.requires.lengths) (in_range d.counts c.requires.ranges) _ (c.fill.ensures.after (λ _ e. e) ∙ ap (λ (n : ℕ). replicate n 0) c.requires.room) c.put_head.ensures c.put_choices-levels_at.ensures.end c.put_choices-levels_at.ensures.bytes c.put_words-preferences_at.ensures.end c.put_words-preferences_at.ensures.bytes c.put_words-rows_at.ensures.end c.put_words-rows_at.ensures.bytes c.put_rows.ensures.end c.put_rows.ensures.bytes
