-- What the type of a basis says of its rows in a field.
use Rattle.std.proofs.Common.{◌≡◌, ℕ, ◌<◌, ◌≤◌, ap, ◌∙◌}
use Rattle.field.specs.Field.{Ops, Laws}
use Rattle.algebra.specs.Words.{symbol, SymbolRows}
use Rattle.algebra.proofs.Symbols.{symbol_zero, symbol_one}
use Rattle.algebra.proofs.Cells.{symbol_rows}
use Rattle.algebra.proofs.Triangular.{Triangular}
use Rattle.linear.specs.Rows.{symbols}
use Rattle.basis.specs.declared.Basis.{Basis}
use Rattle.basis.specs.Parts.{size, count, rows_of, pivots_of}

pub symbols_of : (f : Ops) → Laws f → (b : Basis) → SymbolRows f (rows_of f b)
symbols_of f l b = symbol_rows f l (symbols b.rows)

pub triangular : (f : Ops) → Laws f → (b : Basis) → Triangular (count b) (rows_of f b) (pivots_of b)
triangular f l b = record {
  own = λ i h. ap (symbol f) (b.own i h) ∙ symbol_one f l;
  cleared = λ i j h k. ap (symbol f) (b.cleared i j (h, k)) ∙ symbol_zero f l;
}

pub ends : (f : Ops) → Laws f → (b : Basis) (i p : ℕ) → i < count b → size b ≤ p → rows_of f b i p ≡ 0
ends f l b i p h k = ap (symbol f) (b.ends i p (h, k)) ∙ symbol_zero f l
