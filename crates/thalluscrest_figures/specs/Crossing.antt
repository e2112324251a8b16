-- How every call crosses to other languages: 0 or 01's number is handed back, and the rest of the answer
-- stands in eight lent figures.
use Rattle.std.specs.Prelude.{List, [], ◌∷◌, ℕ}
use Rattle.day_rows.specs.Told.{Told, done, refused, Outcome}

-- an answer in another language: the number handed back, and the figures at exit
pub record NumberAndFigures : Type 0 where
  pub number : ℕ
  pub figures : List ℕ

-- an answer by its two parts
abbrev pub answer : ℕ → List ℕ → NumberAndFigures
answer number figures = record { number = number; figures = figures }

-- the figures of a refusal: the row that 5 carries, and nothing else
abbrev pub refusal_figures : List ℕ → List ℕ
refusal_figures [] = 0 ∷ 0 ∷ 0 ∷ 0 ∷ 0 ∷ 0 ∷ 0 ∷ 0 ∷ []
refusal_figures (row ∷ rest) = row ∷ 0 ∷ 0 ∷ 0 ∷ 0 ∷ 0 ∷ 0 ∷ 0 ∷ []

-- what a call's answer is in number and figures. Done: 0, and the values as the call's layout has them;
-- refused: 01's number, and what it carries
abbrev pub told_figures : {A : Type 0} → (A → List ℕ) → Told A → NumberAndFigures
told_figures layout (done value) = answer 0 (layout value)
told_figures layout (refused number carried) = answer number (refusal_figures carried)

-- what a call hands back and leaves in other languages: its answer, and the lent buffers at exit
pub record Crossed (B : Type 0) : Type 0 where
  pub answer : NumberAndFigures
  pub buffers : B

-- what a call hands back and leaves, by its parts
abbrev pub crossed : {B : Type 0} → ℕ → List ℕ → B → Crossed B
crossed number figures buffers = record { answer = answer number figures; buffers = buffers }

-- an outcome of the library as it crosses
abbrev pub across : {A B : Type 0} → (A → List ℕ) → Outcome A B → Crossed B
across layout left = record { answer = told_figures layout left.answer; buffers = left.buffers }
