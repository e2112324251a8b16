-- What a call that makes a text leaves.
use Rattle.std.specs.Prelude.{List, ℕ, length}
use Rattle.base_lists.specs.Pool.{pad}
use Rattle.day_rows.specs.Told.{done, Verdict, Outcome, outcome, judged}

-- what the call tells and leaves: the text, and zeros after it in a pool of this length; a refusal leaves the
-- pool untouched
abbrev pub made_of : ℕ → Verdict → List ℕ → List ℕ → Outcome ℕ (List ℕ)
made_of longest verdict pool text = judged verdict pool (outcome (done (length text)) (pad longest text))
