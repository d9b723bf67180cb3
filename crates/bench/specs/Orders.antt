-- The orders of the fields that are built.
use Rattle.std.specs.Prelude.{◌⊎◌, ◌≡◌, ℕ}

abbrev pub Known : ℕ → Type 0
Known q = (q ≡ 2) ⊎ ((q ≡ 3) ⊎ ((q ≡ 4) ⊎ (q ≡ 16)))
