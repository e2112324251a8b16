-- Choices left and places left fall at each call of the second run, and what it adds up fits.
use mathlib.Core.Path.{◌≡◌}
use Prim.Native.Nat.{ℕ, ◌+◌, ◌-◌, ◌*◌, ◌≤◌, ◌<◌, ◌^◌}
use native.Mathlib.Omega.{arith}

-- the measure falls from a choice to its places
pub to_place : (t size choice left slots : ℕ) → (size - choice) * 32 + 31 ≡ t → left ≤ slots + 1 → slots ≤ 24 → (size - choice) * 32 + left < t
to_place t size choice left slots e h few = omega arith

-- the measure falls from a place to the next choice
pub to_choice : (t size choice left : ℕ) → (size - choice) * 32 + left ≡ t → choice + 1 ≤ size → 0 < left → (size - (choice + 1)) * 32 + 31 < t
to_choice t size choice left e h some = omega arith

-- the measure falls from a place to the next place
pub to_next : (t size choice left next : ℕ) → (size - choice) * 32 + left ≡ t → next < left → (size - choice) * 32 + next < t
to_next t size choice left next e h = omega arith

pub next-choice : (choice size : ℕ) → choice + 1 ≤ size → size ≤ 64 → choice + 1 < 2 ^ 64
next-choice choice size h few = omega arith
