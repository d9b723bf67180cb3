-- Partial syndromes as numbers, and how a symbol moves them on.
use Rattle.std.specs.Prelude.{ℕ, zero, suc, ◌+◌, ◌-◌, ◌*◌, ◌/◌, ◌%◌, ◌^◌}
use Rattle.field.specs.Field.{Ops}
use Rattle.generator.specs.declared.Generator.{Generator}
use Rattle.generator.specs.Parts.{size, dimension, check_place_of, check_row_of}

-- The state s stands for c symbols: its digits in base q, the first most significant. Where the
-- check rows have the symbols `column` at some place, the symbol x there adds x times the column.
abbrev pub moved : Ops → (ℕ → ℕ) → ℕ → ℕ → ℕ → ℕ
moved f column zero s x = 0
moved f column (suc c) s x = moved f column c (s / f.order) x * f.order + f.sum (s % f.order) (f.product x (column c))

-- how many check rows a generator has
abbrev pub checks : Generator → ℕ
checks g = size g - dimension g

-- how many cosets its code has
abbrev pub cosets : Ops → Generator → ℕ
cosets f g = f.order ^ checks g

-- what stands at the place p in its check rows
abbrev pub column_at : Ops → Generator → ℕ → ℕ → ℕ
column_at f g p i = check_row_of f g (check_place_of g i) p

-- where the symbol x at the place p takes the state s
unfoldable pub next : Ops → Generator → ℕ → ℕ → ℕ → ℕ
next f g p s x = moved f (column_at f g p) (checks g) s x
