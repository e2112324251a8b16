-- What programs print, as bytes: a text in ASCII, and a number in decimal.
use Rattle.std.specs.Prelude.{cond, List, [], ◌∷◌, ◌++◌, ℕ, zero, suc, ◌+◌, ◌/◌, ◌%◌, ltb}
use Prim.Native.Char.{code}
use Prim.Native.String.{String, len, char_at}

-- n characters of a text from a place on
abbrev pub codes_from : String → ℕ → ℕ → List ℕ
codes_from text at zero = []
codes_from text at (suc n) = code (char_at text at) ∷ codes_from text (suc at) n

-- the bytes of a text in ASCII
abbrev pub ascii : String → List ℕ
ascii text = codes_from text 0 (len text)

-- a number's digits, the highest first and no zero before it, up to so many of them
unfoldable pub digits_within : ℕ → ℕ → List ℕ
digits_within zero number = []
digits_within (suc most) number =
    cond (ltb number 10) ((48 + number) ∷ []) (digits_within most (number / 10) ++ ((48 + number % 10) ∷ []))

-- a 64-bit number in decimal: it has at most 20 digits
unfoldable pub decimal : ℕ → List ℕ
decimal number = digits_within 20 number

-- a line with a number at its end
unfoldable pub number_line : List ℕ → ℕ → List ℕ
number_line word number = word ++ (decimal number ++ (10 ∷ []))

-- what a program prints of rows that clash
unfoldable pub clash_text : List ℕ
clash_text = ascii "result clash\n"

-- what a program prints of a refusal with 01's number
unfoldable pub refused_text : ℕ → List ℕ
refused_text number = number_line (ascii "result refused ") number
