-- A text put into a cleared pool.
use mathlib.Core.Path.{◌≡◌, ◌∙◌, ap, ap₂}
use mathlib.Core.List.{List}
use Prim.Native.Nat.{ℕ, ◌≤◌}
use native.Mathlib.Nat.{zero-add}
use native.Mathlib.Omega.{arith}
use lib.ListN.{length, replicate, length-replicate}
use lib.Seq.{sets}
use Rattle.base_lists.specs.Pool.{pad}
use Rattle.base_lists.proofs.Stores.{sets-zeros}
use Rattle.day_rows.specs.Told.{done, outcome}
use Rattle.text_lines.specs.Put.{pool, put_at}
use Rattle.text_lines.proofs.PutLaws.{put-fits}

-- the text stands at the pool's front, and zeros behind it
pub made-whole : (longest : ℕ) (text before : List ℕ) → length text ≤ longest → {cleared after : List ℕ} {size : ℕ} → length before ≡ longest → cleared ≡ replicate (length before) 0
    → pool after size ≡ put_at cleared 0 text → outcome (done size) after ≡ outcome (done (length text)) (pad longest text)
made-whole longest text before fits {cleared} {after} {size} e z w =
    let l : length cleared ≡ longest = ap length z ∙ length-replicate (length before) 0 ∙ e in
    let p = put-fits cleared 0 text (omega (arith, fits, l)) w in
    let n : size ≡ length text = p.0 ∙ zero-add _ in
    let t : after ≡ pad longest text = p.1 ∙ ap (λ (l : List ℕ). sets l 0 text) (z ∙ ap (λ (k : ℕ). replicate k 0) e) ∙ sets-zeros longest text fits in
    ap₂ (λ (k : ℕ) (l : List ℕ). outcome (done k) l) n t
