-- What records of days tell: the counts at their front, and a refusal.
use Rattle.std.specs.Prelude.{ℕ, ◌+◌, ◌%◌, ◌^◌, List, slice_index}
use Rattle.day_rows.specs.Refusal.{number_of, carried_by}
use Rattle.day_rows.specs.declared.check.Counts.{Counts}
use Rattle.day_rows.specs.declared.refusal.Refusal.{Refusal}
use Rattle.test_cases.specs.declared.days.Told.{Told}
use Rattle.test_cases.specs.steps.Numbers.{word_at}

-- C, S and H, a byte each, and the number of rows
abbrev pub counts_at_front : List ℕ → Counts
counts_at_front bytes =
    record {
      choices = slice_index bytes 0;
      slots = slice_index bytes 1;
      choosers = slice_index bytes 2;
      rows = word_at bytes 3;
    }

-- 01's number, and the row that is carried, 0 where there is none
abbrev pub told_of : Refusal → Told
told_of why = record { number = number_of why; row = slice_index (carried_by why) 0 }

-- the number of a refusal whose byte is 100 more
abbrev pub told_number : ℕ → ℕ
told_number written = (written + 156) % 256

-- the refusal that stands at a place: its number with 100 more, and the row in two bytes
abbrev pub refusal_at : List ℕ → ℕ → Told
refusal_at bytes at =
    record { number = told_number (slice_index bytes at); row = word_at bytes ((at + 1) % 2 ^ 64) }
