-- No two outcomes fit: the promise of a call settles its number, its figures and its buffers, whatever the
-- call; a page's is in PageOutcomes.
use mathlib.Core.Path.{◌≡◌, ap}
use mathlib.Core.List.{List}
use Prim.Native.Nat.{ℕ}
use Rattle.base_lists.proofs.Outcome.{no_two}
use Rattle.thalluscrest_figures.specs.Crossing.{NumberAndFigures, answer, Crossed, crossed}

-- of every call that leaves buffers one outcome fits
pub one_call : {B : Type 0} {given : Crossed B} {number other : ℕ} {figures rest : List ℕ} {buffers after : B}
    → crossed number figures buffers ≡ given → crossed other rest after ≡ given
    → (number ≡ other) × (figures ≡ rest) × (buffers ≡ after)
one_call {B} p q =
    let e = no_two p q in
    (ap (λ (c : Crossed B). c.answer.number) e, ap (λ (c : Crossed B). c.answer.figures) e, ap (λ (c : Crossed B). c.buffers) e)

-- of the calls that leave no buffers, the checks of a plan and of a roster, one outcome fits
pub one_answer : {given : NumberAndFigures} {number other : ℕ} {figures rest : List ℕ}
    → answer number figures ≡ given → answer other rest ≡ given → (number ≡ other) × (figures ≡ rest)
one_answer p q =
    let e = no_two p q in
    (ap (λ (a : NumberAndFigures). a.number) e, ap (λ (a : NumberAndFigures). a.figures) e)
