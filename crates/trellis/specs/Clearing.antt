-- Work memory that is left clear.
use Rattle.std.specs.Prelude.{◌≡◌, ℕ, ◌<◌, List, length, slice_index}

-- every word is 0
abbrev pub Cleared : List ℕ → Type 0
Cleared words = (k : ℕ) → k < length words → slice_index words k ≡ 0
