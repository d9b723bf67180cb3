-- A symbol and the character that writes it.
use Rattle.std.specs.Prelude.{◌≡◌, ℕ, ◌<◌, codes, slice_index}

-- the character c writes the symbol v: the sixteen symbols are written by these, in order
unfoldable pub Writes : ℕ → ℕ → Type 0
Writes c v = (v < 16) × (c ≡ slice_index (codes "0123456789abcdef") v)

-- the symbol v is written by the character c
abbrev pub Written : ℕ → ℕ → Type 0
Written v c = Writes c v
