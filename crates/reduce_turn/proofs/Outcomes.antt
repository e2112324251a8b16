-- No two outcomes fit what this crate's functions promise.
use mathlib.Core.Path.{◌≡◌}
use mathlib.Core.Bool.{Bool}
use mathlib.Core.List.{List}
use Prim.Native.Nat.{ℕ}
use Rattle.base_lists.proofs.Outcome.{no_two}
use Rattle.day_rows.specs.Row.{plain_row}
use Rattle.day_rows.specs.declared.row.Row.{Row}
use Rattle.reduce_turn.specs.Turn.{clash_of}
use Rattle.reduce_turn.specs.declared.free.Free.{Free}
use Rattle.reduce_turn.specs.steps.Free.{Wrote, Put}

pub one-put : (free : Free) (row : ℕ) (a b : Free) → Put free row a → Put free row b → (a.rows.now ≡ b.rows.now) × (a.at ≡ b.at)
one-put free row a b e f = (no_two e.1 f.1, no_two e.2 f.2)

-- the outcomes of `copy`, and of `turn` by the rows turned
pub one_writing : (free : List ℕ) (at : ℕ) (rows : List ℕ) {m n : ℕ} {a b : List ℕ} → Wrote free at rows m a → Wrote free at rows n b → (m ≡ n) × (a ≡ b)
one_writing free at rows e f = (no_two e.0 f.0, no_two e.1 f.1)

pub one-pair : (earlier later : ℕ) {a b : Row} → a ≡ plain_row 4 earlier later → b ≡ plain_row 4 earlier later → a ≡ b
one-pair earlier later = no_two

pub one-clash : (rows : List ℕ) {a b : Bool} → a ≡ clash_of rows → b ≡ clash_of rows → a ≡ b
one-clash rows = no_two
