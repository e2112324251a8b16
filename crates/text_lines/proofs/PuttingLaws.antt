-- An answer that has room is put, any other isn't.
use mathlib.Core.Path.{◌≡◌, sym, subst}
use mathlib.Core.List.{List}
use Prim.Native.Nat.{ℕ, ◌≤◌, ◌<◌}
use borrow.Author.Tests.{le-leb, lt-leb}
use lib.ListN.{length}
use Rattle.text_lines.specs.Put.{pool, put_at}
use Rattle.text_lines.specs.steps.Put.{Fits, Put}
use Rattle.text_lines.specs.PlanLines.{PlanAnswer, found, answer_text}
use Rattle.text_lines.specs.Putting.{put_if, put_whole, put_found}

module _ (text : List ℕ) (answer : PlanAnswer) where
  pub whole-short : length text < 1311 → pool text 0 ≡ put_whole text answer
  unfolding put_whole put_if
  whole-short h = rw (lt-leb _ _ h)

  pub whole-put : 1311 ≤ length text → put_at text 0 (answer_text answer) ≡ put_whole text answer
  unfolding put_whole put_if
  whole-put h = rw (le-leb _ _ h)

module _ (text : List ℕ) (turns passes limit : ℕ) (plan : List ℕ) where
  pub found-over : 64 < length plan → pool text 0 ≡ put_found text turns passes limit plan
  unfolding put_found put_if
  found-over h = rw (lt-leb _ _ h)

  module _ (n : length plan ≤ 64) where
    pub found-short : length text < 1311 → pool text 0 ≡ put_found text turns passes limit plan
    unfolding put_found put_if
    found-short h = rw (le-leb _ _ n, lt-leb _ _ h)

    pub found-put : 1311 ≤ length text → put_at text 0 (answer_text (found turns passes limit plan)) ≡ put_found text turns passes limit plan
    unfolding put_found put_if
    found-put h = rw (le-leb _ _ n, le-leb _ _ h)

-- a text by its parts: what has room for one has room for the other, and what puts one puts the other
pub fits_as : (text : List ℕ) {p q : List ℕ} → p ≡ q → Fits text 0 q → Fits text 0 p
fits_as text e h = subst (λ (l : List ℕ). Fits text 0 l) (sym e) h

pub puts_as : (text : List ℕ) {p q : List ℕ} → p ≡ q → {text' : List ℕ} {next : ℕ} → Put text 0 p text' next → Put text 0 q text' next
puts_as text e {text'} {next} w = subst (λ (l : List ℕ). Put text 0 l text' next) e w
