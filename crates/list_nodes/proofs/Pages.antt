-- 'pages joined are the whole', for any cut of the list into pages.
use mathlib.Core.Path.{◌≡◌, refl, sym, ap, ◌∙◌}
use mathlib.Core.List.{List, [], ◌∷◌, ◌++◌}
use Prim.Native.Nat.{ℕ, ◌+◌, ◌≤◌}
use lib.ListN.{drop}
use lib.Seq.{take-add, drop-drop, take_all}
use Rattle.base_lists.specs.Keep.{sum_over}
use Rattle.plan_check.specs.Day.{Day}
use Rattle.list_nodes.specs.Placements.{plans, page, total}

-- pages read one after another, each from where the one before it ends, with these rooms
unfoldable pub pages_from : Day → ℕ → List ℕ → List (List ℕ)
pages_from day first [] = []
pages_from day first (room ∷ rooms) = page day first room ++ pages_from day (first + room) rooms

module _ (day : Day) where
  -- two pages that meet are one
  pub page_join : (first room more : ℕ) → page day first room ++ page day (first + room) more ≡ page day first (room + more)
  unfolding page
  page_join first room more = rw (take-add room more (drop first (plans day)), drop-drop room first (plans day))

  -- room 0 is an empty page
  pub page-none : (first : ℕ) → page day first 0 ≡ []
  unfolding page
  page-none first = refl

  -- any number of pages that meet are one
  pub pages_join : (first : ℕ) (rooms : List ℕ) → pages_from day first rooms ≡ page day first (sum_over (λ room. room) rooms)
  unfolding pages_from sum_over
  pages_join first [] = sym (page-none first)
  pages_join first (room ∷ rooms) =
      ap (λ (l : List (List ℕ)). page day first room ++ l) (pages_join (first + room) rooms) ∙ page_join first room (sum_over (λ r. r) rooms)

  -- pages that meet and reach the total are the whole list
  pub pages_whole : (rooms : List ℕ) → total day ≤ sum_over (λ room. room) rooms → pages_from day 0 rooms ≡ plans day
  unfolding page total
  pages_whole rooms h = pages_join 0 rooms ∙ take_all (sum_over (λ room. room) rooms) (plans day) h
