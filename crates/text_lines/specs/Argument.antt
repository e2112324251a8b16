-- A program's arguments, as the system tells of them.
use Rattle.std.specs.Prelude.{Bool, true, false, ℕ, Result, Ok, Err}
use Rattle.std.specs.declared.env.FillError.{FillError}
use Rattle.std.specs.declared.env.FillError.TheVariants as told

-- there is an argument unless the system says that there is none: one that is longer than its buffer is there
abbrev pub is_given : Result ℕ FillError → Bool
is_given (Ok size) = true
is_given (Err told.TooLong) = true
is_given (Err told.NotPresent) = false
