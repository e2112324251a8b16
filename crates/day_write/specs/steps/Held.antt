-- What putting a row's bytes asks of it.
use Rattle.std.specs.Prelude.{ℕ, ◌<◌}
use Rattle.day_rows.specs.Row.{row_of}

-- kind and left of a row fit their byte each
abbrev pub BytesHold : ℕ → Type 0
BytesHold number = ((row_of number).kind < 256) × ((row_of number).left < 256)
