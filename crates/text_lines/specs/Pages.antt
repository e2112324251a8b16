-- The plans that lie one after another in a page, and their text put into a pool.
use Rattle.std.specs.Prelude.{Bool, cond, ◌&&◌, List, [], ◌∷◌, ℕ, zero, suc, ◌+◌, ◌*◌, ◌^◌, ltb, leb, length, take, drop}
use Rattle.text_lines.specs.Put.{Pool, pool, put_at}
use Rattle.text_lines.specs.PlansLines.{page_text}
use Rattle.text_lines.specs.declared.plans_lines.Page as lent

-- the first so many plans of a page, of so many choices each
unfoldable pub plans_in : ℕ → ℕ → List ℕ → List (List ℕ)
plans_in zero choices page = []
plans_in (suc count) choices page = take choices page ∷ plans_in count choices (drop choices page)

-- the plans of a page that is lent
abbrev pub plans_lent : lent.Page → List (List ℕ)
plans_lent page = plans_in page.count page.choices page.plans.now

-- the length of the longest text of `plans`: 50 bytes of two lines, and 1,024 plans of 64 places at 282 bytes
abbrev pub longest : ℕ
longest = 288818

-- at most 1,024 plans of at most 64 places, which the page holds and 64 bits number, a head of at most 29
-- bytes, and a pool for the longest text
unfoldable pub page_fits : ℕ → ℕ → ℕ → ℕ → ℕ → ℕ → Bool
page_fits first count choices page head text =
    leb count 1024 && leb choices 64 && leb (count * choices) page
    && ltb (first + count) (2 ^ 64) && leb head 29 && leb longest text

-- the text of a page within these limits from the pool's front on; else the pool stays as it is
unfoldable pub put_page : List ℕ → List ℕ → ℕ → ℕ → ℕ → ℕ → List ℕ → Pool
put_page text head first number count choices page =
    cond (page_fits first count choices (length page) (length head) (length text))
    (put_at text 0 (page_text head first number (plans_in count choices page)))
    (pool text 0)
