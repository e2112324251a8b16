-- Where turns don't run out there is one page: the answer and the buffer are the same under any budget.
use mathlib.Core.Path.{◌≡◌, refl}
use mathlib.Core.Bool.{true, false≢true}
use mathlib.Core.List.{List}
use mathlib.Core.Logic.{◌⊎◌, ⊎_elim}
use Prim.Native.Nat.{ℕ, ◌+◌, ◌≤◌, ◌<◌}
use native.Mathlib.Omega.{arith}
use Rattle.plan_check.specs.Day.{Day}
use Rattle.list_nodes.specs.Placements.{total, nodes}
use Rattle.list_nodes.specs.Page.{PageTold, in_time, page_put, Gives, ended, goes_on, out}

module _ (day : Day) (first room : ℕ) (buffer : List ℕ) where
  -- a list that ends with the page doesn't go on past it
  not-both : (room ≡ 0) ⊎ (total day ≤ first + room) → 0 < room → first + room < total day → ⊥
  not-both c r t = ⊎_elim (λ e. omega (arith, e, r)) (λ l. omega (arith, l, t)) c

  -- two pages that may be given, under whatever budgets, are one
  pub one-page : {budget budget' : ℕ} {told told' : PageTold} {buffer₁ buffer₂ : List ℕ} → Gives day first room budget buffer told buffer₁
      → Gives day first room budget' buffer told' buffer₂ → in_time told ≡ true → in_time told' ≡ true → (told ≡ told') × (buffer₁ ≡ buffer₂)
  unfolding page_put
  one-page (ended c) (ended c') t t' = (refl, refl)
  one-page (ended c) (goes_on r l) t t' = absurd (not-both c r l)
  one-page (ended c) (out met n l o) t t' = absurd (false≢true t')
  one-page (goes_on r l) (ended c) t t' = absurd (not-both c r l)
  one-page (goes_on r l) (goes_on r' l') t t' = (refl, refl)
  one-page (goes_on r l) (out met n l' o) t t' = absurd (false≢true t')
  one-page (out met n l o) g t t' = absurd (false≢true t)

  -- with request 03's nodes within the budget turns don't run out
  pub enough_turns : {budget : ℕ} {told : PageTold} {buffer₁ : List ℕ} → nodes day ≤ budget → Gives day first room budget buffer told buffer₁ → in_time told ≡ true
  enough_turns h (ended c) = refl
  enough_turns h (goes_on r l) = refl
  enough_turns h (out met n l o) = absurd (omega arith)
