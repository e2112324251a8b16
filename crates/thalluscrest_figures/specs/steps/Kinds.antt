-- The rows of some kinds: the search's list and the roster's are two of these.
use Rattle.std.specs.Prelude.{◌&&◌, List, ℕ, leb}
use Rattle.base_lists.specs.Keep.{keep}
use Rattle.reduce_turn.specs.Turn.{kind_of}

-- the rows of the kinds from low to high, in order
unfoldable pub of_kinds : ℕ → ℕ → List ℕ → List ℕ
of_kinds low high rows = keep (λ number. leb low (kind_of number) && leb (kind_of number) high) rows
