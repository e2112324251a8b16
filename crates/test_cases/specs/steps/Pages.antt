-- A page of a day's plans held against the whole list, of which the replays tell.
use Rattle.std.specs.Prelude.{ℕ, ◌-◌, ◌*◌, ◌%◌, ◌^◌, min, Bool, ◌&&◌, List, ◌==◌, drop}
use Rattle.test_cases.specs.declared.pages.Whole.{Whole}
use Rattle.test_cases.specs.steps.Alike.{alike}
use Rattle.test_cases.specs.steps.Buffers.{filled}

-- how many bytes this many plans take
abbrev pub bytes_of : Whole → ℕ → ℕ
bytes_of whole plans = whole.choices * plans % 2 ^ 64

-- how many plans a page from the first number on holds
abbrev pub on_page : ℕ → ℕ → ℕ → ℕ
on_page total first room = min (total - first) room

-- so many plans written are the page from the first number on, and the buffer holds them and else blanks
abbrev pub is_page : Whole → ℕ → ℕ → ℕ → List ℕ → Bool
is_page whole first room written buffer =
    (written == on_page whole.total first room)
    && alike buffer 0 whole.plans.now (bytes_of whole (on_page whole.total 0 first)) (bytes_of whole written)
    && filled 119 (drop (bytes_of whole written) buffer)
