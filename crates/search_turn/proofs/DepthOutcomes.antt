-- No two outcomes fit what `open_if_new` promises.
use mathlib.Core.Path.{◌≡◌, ap}
use mathlib.Core.Bool.{Bool}
use mathlib.Core.List.{List}
use Prim.Native.Nat.{ℕ}
use Rattle.base_lists.proofs.Outcome.{no_two}
use Rattle.search_candidates.specs.Loads.{Loads}
use Rattle.search_rules.specs.Pass.{Lent}
use Rattle.search_turn.specs.steps.Opening.{Opening, opening, opening_of}

-- a depth opened leaves one place of the next draw, and one content of the three lists
pub one-opening : (lent : Lent) (loads : Loads) (new : Bool) (depth draw remaining : ℕ) (pool next end : List ℕ) {m n : ℕ} {p q i j k l : List ℕ}
    → opening m p i k ≡ opening_of lent loads new depth draw remaining pool next end → opening n q j l ≡ opening_of lent loads new depth draw remaining pool next end
    → (m ≡ n) × (p ≡ q) × (i ≡ j) × (k ≡ l)
one-opening lent loads new depth draw remaining pool next end a b =
    let e = no_two a b in
    (ap (λ (o : Opening). o.draw) e, ap (λ (o : Opening). o.pool) e, ap (λ (o : Opening). o.next) e, ap (λ (o : Opening). o.end) e)
