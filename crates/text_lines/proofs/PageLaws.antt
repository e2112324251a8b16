-- A page within the limits is put, any other isn't.
use mathlib.Core.Path.{◌≡◌}
use mathlib.Core.List.{List}
use Prim.Native.Nat.{ℕ, ◌+◌, ◌*◌, ◌^◌, ◌≤◌, ◌<◌}
use native.Mathlib.Nat.{mul-le-mul_right}
use native.Mathlib.Omega.{arith}
use borrow.Author.Tests.{lt-ltb, le-ltb, le-leb, lt-leb}
use lib.ListN.{length}
use Rattle.text_lines.specs.Put.{pool, put_at}
use Rattle.text_lines.specs.PlansLines.{page_text}
use Rattle.text_lines.specs.Pages.{plans_in, page_fits, put_page}

-- a page within the limits has at most 65,536 places
pub places-few : (count choices : ℕ) → count ≤ 1024 → choices ≤ 64 → count * choices ≤ 65536
places-few count choices n c =
    let a : count * choices ≤ 1024 * choices = mul-le-mul_right choices n in
    omega arith

module _ (text head : List ℕ) (first number count choices : ℕ) (page : List ℕ) where
  pub over-count : 1024 < count → pool text 0 ≡ put_page text head first number count choices page
  unfolding put_page page_fits
  over-count h = rw (lt-leb _ _ h)

  module _ (n : count ≤ 1024) where
    pub over-choices : 64 < choices → pool text 0 ≡ put_page text head first number count choices page
    unfolding put_page page_fits
    over-choices h = rw (le-leb _ _ n, lt-leb _ _ h)

    module _ (c : choices ≤ 64) where
      pub short-page : length page < count * choices → pool text 0 ≡ put_page text head first number count choices page
      unfolding put_page page_fits
      short-page h = rw (le-leb _ _ n, le-leb _ _ c, lt-leb _ _ h)

      module _ (p : count * choices ≤ length page) where
        pub over-number : 2 ^ 64 ≤ first + count → pool text 0 ≡ put_page text head first number count choices page
        unfolding put_page page_fits
        over-number h = rw (le-leb _ _ n, le-leb _ _ c, le-leb _ _ p, le-ltb _ _ h)

        module _ (f : first + count < 2 ^ 64) where
          pub over-head : 29 < length head → pool text 0 ≡ put_page text head first number count choices page
          unfolding put_page page_fits
          over-head h = rw (le-leb _ _ n, le-leb _ _ c, le-leb _ _ p, lt-ltb _ _ f, lt-leb _ _ h)

          module _ (s : length head ≤ 29) where
            pub short-text : length text < 288818 → pool text 0 ≡ put_page text head first number count choices page
            unfolding put_page page_fits
            short-text h = rw (le-leb _ _ n, le-leb _ _ c, le-leb _ _ p, lt-ltb _ _ f, le-leb _ _ s, lt-leb _ _ h)

            pub page-put : 288818 ≤ length text
                → put_page text head first number count choices page ≡ put_at text 0 (page_text head first number (plans_in count choices page))
            unfolding put_page page_fits
            page-put h = rw (le-leb _ _ n, le-leb _ _ c, le-leb _ _ p, lt-ltb _ _ f, le-leb _ _ s, le-leb _ _ h)
