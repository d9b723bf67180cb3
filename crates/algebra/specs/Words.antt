-- Words of symbols, their sums and multiples, and what rows span.
-- A word is a function from places to numbers, and rows are a function from a row's number and a place.
use Rattle.std.specs.Prelude.{◌≡◌, ℕ, zero, suc, ◌<◌, cond, List, [], length, ◌==◌, nat_lt, slice_index, slice_index_or}
use Rattle.field.specs.Field.{Ops}

-- A list of numbers as a word: past its end it has 0s.
abbrev pub word : List ℕ → ℕ → ℕ
word w k = slice_index w k

-- A list of lists as rows: past its end there are rows of 0s.
abbrev pub cells : List (List ℕ) → ℕ → ℕ → ℕ
cells rows i k = slice_index (slice_index_or rows i []) k

-- A number that is no symbol of the field counts as 0.
unfoldable pub symbol : Ops → ℕ → ℕ
symbol f x = cond (nat_lt x f.order) x 0

-- The rows that an array of bytes stands for in a field.
abbrev pub symbol_cells : Ops → List (List ℕ) → ℕ → ℕ → ℕ
symbol_cells f rows i k = symbol f (cells rows i k)

-- The first n places of a word, as symbols: past them it has 0s, and so where it has no symbol.
abbrev pub cut : Ops → ℕ → (ℕ → ℕ) → ℕ → ℕ
cut f n w k = cond (nat_lt k n) (symbol f (w k)) 0

-- the rows rs, but for the word w in the place of the row m
abbrev pub with_row : (ℕ → ℕ → ℕ) → ℕ → (ℕ → ℕ) → ℕ → ℕ → ℕ
with_row rs m w i k = cond (i == m) (w k) (rs i k)

-- each place holds a symbol
abbrev pub Symbols : Ops → (ℕ → ℕ) → Type 0
Symbols f w = (k : ℕ) → w k < f.order

abbrev pub SymbolRows : Ops → (ℕ → ℕ → ℕ) → Type 0
SymbolRows f rs = (i : ℕ) → Symbols f (rs i)

-- the sum of two words, place by place
abbrev pub plus : Ops → (ℕ → ℕ) → (ℕ → ℕ) → ℕ → ℕ
plus f v w k = f.sum (v k) (w k)

-- a multiple of a word: every place times one and the same symbol
abbrev pub times : Ops → ℕ → (ℕ → ℕ) → ℕ → ℕ
times f c w k = f.product c (w k)

-- g 0 + g 1 + .. + g (m - 1) in the field; the sum of nothing is 0
abbrev pub total : Ops → (ℕ → ℕ) → ℕ → ℕ
total f g zero = 0
total f g (suc m) = f.sum (total f g m) (g m)

-- the sum of m rows, each times its coefficient; the sum of no rows is the row of 0s
abbrev pub combination : Ops → (ℕ → ℕ) → (ℕ → ℕ → ℕ) → ℕ → ℕ → ℕ
combination f cs rs m k = total f (λ i. times f (cs i) (rs i) k) m

-- The word w is a sum of multiples of the first m rows. (A coefficient past the last row is not used.)
pub record Span (f : Ops) (m : ℕ) (rs : ℕ → ℕ → ℕ) (w : ℕ → ℕ) : Type 0 where
  pub coefficients : ℕ → ℕ
  pub symbols : Symbols f coefficients
  pub is : (k : ℕ) → w k ≡ combination f coefficients rs m k

-- the same words are sums of multiples of the one lot of rows and of the other
pub record SameSpan (f : Ops) (m : ℕ) (rs : ℕ → ℕ → ℕ) (n : ℕ) (ss : ℕ → ℕ → ℕ) : Type 0 where
  pub there : (w : ℕ → ℕ) → Span f m rs w → Span f n ss w
  pub back : (w : ℕ → ℕ) → Span f n ss w → Span f m rs w

-- A row depends on rows if it is a sum of multiples of them.
abbrev pub Dependent : Ops → List (List ℕ) → List ℕ → Type 0
Dependent f rows w = Span f (length rows) (cells rows) (word w)

-- no row is a sum of multiples of the rows before it
abbrev pub Independent : Ops → ℕ → (ℕ → ℕ → ℕ) → Type 0
Independent f m rs = (i : ℕ) → i < m → Span f i rs (rs i) → ⊥
