-- The words of a generator's length, its codewords, and its cosets.
use Rattle.std.specs.Prelude.{◌≡◌, ℕ, ◌≤◌}
use Rattle.field.specs.Field.{Ops}
use Rattle.algebra.specs.Words.{Symbols, Span}
use Rattle.algebra.specs.Checks.{index}
use Rattle.generator.specs.declared.Generator.{Generator}
use Rattle.generator.specs.Parts.{size, dimension, rows_of, syndrome_of}
use Rattle.cosets.specs.States.{checks}

-- a word of the generator's length: only symbols, and 0s past its end
abbrev pub Word : Ops → Generator → (ℕ → ℕ) → Type 0
Word f g w = Symbols f w × ((p : ℕ) → size g ≤ p → w p ≡ 0)

-- the index of a word's syndrome
abbrev pub syndrome_index : Ops → Generator → (ℕ → ℕ) → ℕ
syndrome_index f g w = index f.order (syndrome_of f g w) (checks g)

-- the coset of an index: the words whose syndrome has it
abbrev pub Coset : Ops → Generator → ℕ → (ℕ → ℕ) → Type 0
Coset f g t w = Word f g w × (syndrome_index f g w ≡ t)

-- the codewords: all sums of multiples of the rows
abbrev pub Codeword : Ops → Generator → (ℕ → ℕ) → Type 0
Codeword f g w = Span f (dimension g) (rows_of f g) w
