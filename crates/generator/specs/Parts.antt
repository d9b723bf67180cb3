-- What a generator is to its readers.
use Rattle.std.specs.Prelude.{◌≡◌, ℕ, ◌<◌, ◌≤◌, List, length}
use Rattle.field.specs.Field.{Ops}
use Rattle.algebra.specs.Words.{word, cells, cut, symbol_cells, combination, Symbols, Span}
use Rattle.algebra.specs.Checks.{check_place, check_row, syndrome}
use Rattle.linear.specs.Rows.{symbols, places}
use Rattle.generator.specs.declared.Generator.{Generator}

-- its length
abbrev pub size : Generator → ℕ
size g = g.n

-- how many rows it has
abbrev pub dimension : Generator → ℕ
dimension g = g.k

-- its rows in a field
abbrev pub rows_of : Ops → Generator → ℕ → ℕ → ℕ
rows_of f g = symbol_cells f (symbols g.rows)

-- the information place of each row
abbrev pub places_of : Generator → ℕ → ℕ
places_of g = word (places g.rows)

-- its check place i
abbrev pub check_place_of : Generator → ℕ → ℕ
check_place_of g i = check_place (places_of g) (dimension g) (size g) i

-- its check row of the check place p
abbrev pub check_row_of : Ops → Generator → ℕ → ℕ → ℕ
check_row_of f g = check_row f (dimension g) (rows_of f g) (places_of g)

-- the syndrome that it gives a word
abbrev pub syndrome_of : Ops → Generator → (ℕ → ℕ) → ℕ → ℕ
syndrome_of f g = syndrome f (size g) (dimension g) (rows_of f g) (places_of g)

-- a message: as many symbols as there are rows
abbrev pub Message : Ops → Generator → List ℕ → Type 0
Message f g m = (length m ≡ dimension g) × ((j : ℕ) → j < length m → word m j < f.order)

-- the codeword of a message: the sum of the rows, each times its symbol
abbrev pub codeword : Ops → Generator → List ℕ → ℕ → ℕ
codeword f g m = combination f (word m) (rows_of f g) (dimension g)

-- the first n places of rows of numbers, in a field
abbrev pub first_rows : Ops → ℕ → List (List ℕ) → ℕ → ℕ → ℕ
first_rows f n rows i = cut f n (cells rows i)

-- the number r is 0 exactly if w, a word of the generator's length with only symbols, is a codeword
abbrev pub ZeroExactly : Ops → Generator → (ℕ → ℕ) → ℕ → Type 0
ZeroExactly f g w r =
    Symbols f w → ((p : ℕ) → size g ≤ p → w p ≡ 0)
    → (r ≡ 0 → Span f (dimension g) (rows_of f g) w) × (Span f (dimension g) (rows_of f g) w → r ≡ 0)
