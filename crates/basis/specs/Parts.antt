-- What a basis is to its readers, and what one more row makes of it.
use Rattle.std.specs.Prelude.{◌≡◌, ℕ, ◌+◌, ◌<◌, Bool, true, false}
use Rattle.field.specs.Field.{Ops}
use Rattle.algebra.specs.Words.{word, symbol_cells, with_row, Span, SameSpan}
use Rattle.linear.specs.Rows.{symbols, places}
use Rattle.basis.specs.declared.Basis.{Basis}

-- its length
abbrev pub size : Basis → ℕ
size b = b.n

-- how many rows it has
abbrev pub count : Basis → ℕ
count b = b.k

-- its rows in a field
abbrev pub rows_of : Ops → Basis → ℕ → ℕ → ℕ
rows_of f b = symbol_cells f (symbols b.rows)

-- the pivot place of each row
abbrev pub pivots_of : Basis → ℕ → ℕ
pivots_of b = word (places b.rows)

-- A word w is offered to the basis b, which then is c. It is taken exactly if the rows do not span
-- it: then there is one row more, the rows before it are as they were, and all span what the old
-- rows with w after them do. Otherwise nothing has changed.
abbrev pub Offered : Ops → Basis → (ℕ → ℕ) → Bool → Basis → Type 0
Offered f b w true c =
    (Span f (count b) (rows_of f b) w → ⊥) × (size c ≡ size b) × (count c ≡ count b + 1)
    × ((i p : ℕ) → i < count b → rows_of f c i p ≡ rows_of f b i p)
    × SameSpan f (count b + 1) (rows_of f c) (count b + 1) (with_row (rows_of f b) (count b) w)
Offered f b w false c = Span f (count b) (rows_of f b) w × (c ≡ b)

-- The last row has been taken off b, which then is c: there was one, and the others are as they were; or there was none.
abbrev pub Shortened : Basis → Bool → Basis → Type 0
Shortened b true c = (count b ≡ count c + 1) × (size c ≡ size b) × (symbols c.rows ≡ symbols b.rows)
Shortened b false c = (count b ≡ 0) × (c ≡ b)
