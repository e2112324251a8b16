-- Parts of a text put one behind the other.
use mathlib.Core.Path.{◌≡◌, refl, sym, ap, ◌∙◌, subst}
use mathlib.Core.List.{List, ◌++◌, append_assoc, flat_map}
use Prim.Native.Nat.{ℕ, ◌+◌, ◌-◌, ◌≤◌, ◌<◌}
use native.Mathlib.Omega.{arith}
use borrow.Author.Tests.{le-leb, lt-leb}
use lib.ListN.{length, get_or, take, drop, length-append}
use lib.Seq.{sets, sets-eq, length-sets, drop-drop}
use borrow.Rule.Slice.PartMut.{put_mid}
use Rattle.base_lists.proofs.Stores.{sets-append, Each, each-room}
use Rattle.text_lines.specs.Put.{Pool, pool, put_at}
use Rattle.text_lines.specs.steps.Put.{Fits, Put}

-- a part that is overwritten is a run of stores from its start on
pub overwritten : (text : List ℕ) (at : ℕ) (bytes part : List ℕ) → Fits text at bytes → part ≡ bytes → put_mid at (at + length bytes - at) text part ≡ sets text at bytes
overwritten text at bytes part h e =
    let n : at + length bytes - at ≡ length bytes = omega arith in
    rw (e, n, drop-drop (length bytes) at text) (sym (sets-eq bytes text at h ∙ append_assoc (take at text) bytes (drop (at + length bytes) text)))

-- what has no room is not put
pub put-none : (text : List ℕ) (at : ℕ) (bytes : List ℕ) → length text < at + length bytes → pool text at ≡ put_at text at bytes
unfolding put_at
put-none text at bytes h = rw (lt-leb (at + length bytes) (length text) h)

-- what has room is put
pub put_some : (text : List ℕ) (at : ℕ) (bytes : List ℕ) → Fits text at bytes → {text' : List ℕ} {next : ℕ} → Put text at bytes text' next
    → pool text' next ≡ put_at text at bytes
unfolding put_at
put_some text at bytes h w = rw (le-leb (at + length bytes) (length text) h, w.0, w.1)

-- and the other way
pub put-fits : (text : List ℕ) (at : ℕ) (bytes : List ℕ) → Fits text at bytes → {text' : List ℕ} {next : ℕ} → pool text' next ≡ put_at text at bytes
    → Put text at bytes text' next
unfolding put_at
put-fits text at bytes h {text'} {next} w =
    let e : pool text' next ≡ pool (sets text at bytes) (at + length bytes) = w ∙ rw (le-leb (at + length bytes) (length text) h) in
    (ap (λ (p : Pool). p.next) e, ap (λ (p : Pool). p.bytes) e)

-- the length of two parts
both : {whole : List ℕ} (p q : List ℕ) → whole ≡ p ++ q → length whole ≡ length p + length q
both p q e = ap length e ∙ length-append p q

module _ (text : List ℕ) (at : ℕ) (whole p q : List ℕ) (e : whole ≡ p ++ q) where
  -- where both parts fit, the first does
  pub fits-first : Fits text at whole → Fits text at p
  fits-first h = let l : length whole ≡ length p + length q = both p q e in omega arith

  -- and behind the first the second does
  pub fits_next : {text' : List ℕ} {next : ℕ} → Fits text at whole → Put text at p text' next → Fits text' next q
  fits_next {text'} {next} h w =
      let l : length whole ≡ length p + length q = both p q e in
      let n : next ≡ at + length p = w.0 in
      let s : length text' ≡ length text = ap length w.1 ∙ length-sets text at p in
      omega arith

  -- one part put, then the other behind it: both are put
  pub put_both : {text' text'' : List ℕ} {next next' : ℕ} → Put text at p text' next → Put text' next q text'' next' → Put text at whole text'' next'
  put_both {text'} {text''} {next} {next'} w v =
      let l : length whole ≡ length p + length q = both p q e in
      let n : next ≡ at + length p = w.0 in
      let m : next' ≡ next + length q = v.0 in
      (omega arith, v.1 ∙ rw (w.1, w.0, e) (sym (sets-append text at p q)))

  -- behind a part put where all have room, the rest has room
  pub fits_then : {text' : List ℕ} {next : ℕ} → Fits text at whole → pool text' next ≡ put_at text at p → Fits text' next q
  fits_then h w = fits_next h (put-fits text at p (fits-first h) w)

  -- a part put where all have room, and then the rest
  pub put_then : {text' text'' : List ℕ} {next next' : ℕ} → Fits text at whole → pool text' next ≡ put_at text at p
      → (Fits text' next q → Put text' next q text'' next') → Put text at whole text'' next'
  put_then h w rest = let v = put-fits text at p (fits-first h) w in put_both v (rest (fits_next h v))

-- of three parts the second fits behind the first
pub fits-second : (text : List ℕ) (at : ℕ) (whole p q r : List ℕ) → whole ≡ p ++ (q ++ r) → {text' : List ℕ} {next : ℕ} → Fits text at whole → pool text' next ≡ put_at text at p
    → Fits text' next q
fits-second text at whole p q r e {text'} {next} h w = fits-first text' next (q ++ r) q r refl (fits_then text at whole p (q ++ r) e h w)

-- what is equal to a part is put as it is
pub put_as : (text : List ℕ) (at : ℕ) {p q : List ℕ} → p ≡ q → {put : Pool} → put ≡ put_at text at p → put ≡ put_at text at q
put_as text at e w = w ∙ ap (put_at text at) e

-- the loop over a list whose elements each give a part: the part at i fits
pub each_fits {ℓ} : {A : Type ℓ} (f : A → List ℕ) (xs : List A) (free : List ℕ) (at : ℕ) {free' : List ℕ} {at' : ℕ} (i : ℕ) (d : A)
    → Fits free at (flat_map f xs) → Each f xs free at free' at' i → i < length xs → Fits free' at' (f (get_or xs i d))
each_fits f xs free at {free'} {at'} i d h s l =
    let r : length (f (get_or xs i d)) ≤ length (flat_map f (drop i xs)) = each-room f xs i d l in
    let c : at' + length (flat_map f (drop i xs)) ≡ at + length (flat_map f xs) = s.1.counted in
    let k : length free' ≡ length free = s.1.same in
    omega arith

-- a new pool's text goes to its front
module _ {text bytes : List ℕ} {at : ℕ} (new : pool bytes at ≡ pool text 0) where
  pub put_front : {put : Pool} (part : List ℕ) → put ≡ put_at bytes at part → put ≡ put_at text 0 part
  put_front part w = w ∙ ap (λ (z : Pool). put_at z.bytes z.next part) new

  pub fits_front : (part : List ℕ) → Fits text 0 part → Fits bytes at part
  fits_front part = subst (λ (z : Pool). Fits z.bytes z.next part) (sym new)

  pub puts_front : (part : List ℕ) {text' : List ℕ} {next : ℕ} → Put bytes at part text' next → Put text 0 part text' next
  puts_front part {text'} {next} = subst (λ (z : Pool). Put z.bytes z.next part text' next) new
