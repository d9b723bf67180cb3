-- The steps from state to state at a place, in tables.
use Rattle.std.specs.Prelude.{◌≡◌, ℕ, ◌+◌, ◌*◌, ◌^◌, ◌<◌, List, length, slice_index}
use Rattle.field.specs.Field.{Ops}
use Rattle.algebra.specs.Words.{word}
use Rattle.cosets.specs.States.{moved}

-- The states that have one digit y more than some state move to `base` and the sum of y and `added`, times `unit`.
abbrev pub Spread : Ops → ℕ → ℕ → ℕ → List ℕ → Type 0
Spread f base added unit out = (y : ℕ) → y < length out → slice_index out y ≡ base + f.sum y added * unit

-- the same for each of `count` states, where the state u moved to what stood at u
abbrev pub Widened : Ops → ℕ → ℕ → ℕ → List ℕ → List ℕ → Type 0
Widened f count added unit was is = (u y : ℕ) → u < count → y < f.order → slice_index is (u * f.order + y) ≡ slice_index was u * f.order + f.sum y added * unit

-- where the symbol x takes a state of as many digits as the column has symbols
abbrev pub stepped : Ops → List ℕ → ℕ → ℕ → ℕ
stepped f column s x = moved f (word column) (length column) s x

-- where the symbol x takes each of those states, times `unit`
abbrev pub Tabulated : Ops → List ℕ → ℕ → ℕ → List ℕ → Type 0
Tabulated f column x unit out = (s : ℕ) → s < f.order ^ length column → slice_index out s ≡ stepped f column s x * unit
