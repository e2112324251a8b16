-- Figures of the slots by the settled choices in one pass: each has at most one place, so each
-- changes at most one slot's figure.
use Rattle.std.specs.Prelude.{◌&&◌, cond, List, ℕ, ltb, get_or, set}
use Rattle.list_domains.specs.steps.Domains.{settled, lowest_place}

-- a settled choice changes the figure of its place, if that is one of the slots
unfoldable pub changed_by : ℕ → (ℕ → ℕ) → ℕ → List ℕ → List ℕ
changed_by slots change domain figures =
    cond (settled domain && ltb (lowest_place domain) slots)
    (set figures (lowest_place domain) (change (get_or figures (lowest_place domain) 0)))
    figures
