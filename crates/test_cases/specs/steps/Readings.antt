-- Entries of a record, read or compared one after another, each so many bytes after the one before it.
-- Places wrap.
use Rattle.std.specs.Prelude.{◌≡◌, ℕ, zero, suc, ◌+◌, ◌%◌, ◌^◌, Bool, true, false, List, [], ◌∷◌, ⊤, ◌⊎◌}

-- each is read at its place
unfoldable pub EachRead : {T : Type 0} → (ℕ → T → Type 0) → ℕ → ℕ → List T → Type 0
EachRead reads apart at [] = ⊤
EachRead reads apart at (x ∷ rest) = reads at x × EachRead reads apart ((at + apart) % 2 ^ 64) rest

-- an entry equals what it is held against, and the rest decides; or it doesn't, and the answer is no
abbrev pub ToldBy : Bool → Bool → Type 0 → Type 0
ToldBy equal told Rest = ((equal ≡ true) × Rest) ⊎ ((equal ≡ false) × (told ≡ false))

-- the answer to whether the first n entries of a list are those read, and each after them equals `past`; of a
-- list with fewer than n, its own are asked about
unfoldable pub Agreed : {T : Type 0} → (ℕ → T → Type 0) → (T → T → Bool) → T → ℕ → ℕ → ℕ → List T → Bool → Type 0
Agreed reads eq past apart at n [] told = told ≡ true
Agreed reads eq past apart at zero (x ∷ rest) told =
    ToldBy (eq x past) told (Agreed reads eq past apart ((at + apart) % 2 ^ 64) zero rest told)
Agreed {T} reads eq past apart at (suc n) (x ∷ rest) told =
    (y : T) × reads at y × ToldBy (eq x y) told (Agreed reads eq past apart ((at + apart) % 2 ^ 64) n rest told)
