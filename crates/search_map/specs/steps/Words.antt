-- What is read of a pool of words.
use Rattle.std.specs.Prelude.{◌≡◌, List, ℕ, ◌≤◌, get_or}

-- the word at a place, or the number for past the end; sixteen bits
pub record WordAt (words : List ℕ) (i past word : ℕ) : Type 0 where
  pub is : word ≡ get_or words i past
  pub small : word ≤ 65535
