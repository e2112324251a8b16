-- A number read from its digits: an argument that is no number is told from one that is.
use Rattle.std.specs.Prelude.{Bool, cond, ◌&&◌, List, [], ◌∷◌, ℕ, ◌+◌, ◌*◌, ◌-◌, ◌^◌, ltb, leb, length, Option, None, Some}
use Rattle.base_lists.specs.All.{all_of}

-- a byte from `0` to `9`
unfoldable pub is_digit : ℕ → Bool
is_digit byte = leb 48 byte && leb byte 57

-- the number that the digits give behind one that is read already
unfoldable pub value_from : ℕ → List ℕ → ℕ
value_from value [] = value
value_from value (byte ∷ bytes) = value_from (10 * value + (byte - 48)) bytes

-- at least one digit, nothing but digits, and a value of 64 bits
unfoldable pub is_number : List ℕ → Bool
is_number bytes = leb 1 (length bytes) && all_of is_digit bytes && ltb (value_from 0 bytes) (2 ^ 64)

-- the number that the bytes are, or none
unfoldable pub number_in : List ℕ → Option ℕ
number_in bytes = cond (is_number bytes) (Some (value_from 0 bytes)) None
