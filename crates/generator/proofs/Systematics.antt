-- What the type of a generator says of its rows in a field.
use Rattle.std.proofs.Common.{◌≡◌, ℕ, ◌+◌, ◌-◌, ◌*◌, ◌^◌, ◌<◌, ◌≤◌, ap, ◌∙◌, arith}
use Rattle.field.specs.Field.{Ops, Laws}
use Rattle.algebra.specs.Words.{symbol, SymbolRows}
use Rattle.algebra.specs.Reduced.{Systematic}
use Rattle.algebra.specs.Checks.{index}
use Rattle.algebra.proofs.Symbols.{zero_symbol, symbol_zero, symbol_one}
use Rattle.algebra.proofs.Cells.{symbol_rows}
use Rattle.algebra.proofs.Syndromes.{syndrome_symbol, index_fits, index_zero, zero_index, codeword_checks, checks_codeword}
use Rattle.linear.specs.Rows.{symbols}
use Rattle.generator.specs.declared.Generator.{Generator}
use Rattle.generator.specs.Parts.{size, dimension, rows_of, places_of, syndrome_of, ZeroExactly}

pub symbols_of : (f : Ops) → Laws f → (g : Generator) → SymbolRows f (rows_of f g)
symbols_of f l g = symbol_rows f l (symbols g.rows)

pub systematic : (f : Ops) → Laws f → (g : Generator) → Systematic (dimension g) (rows_of f g) (places_of g)
systematic f l g = record {
  ascends = λ i j h k. g.ascends i j (h, k);
  own = λ i h. ap (symbol f) (g.own i h) ∙ symbol_one f l;
  others = λ i j h k n. ap (symbol f) (g.others i j (h, k, n)) ∙ symbol_zero f l;
}

pub inside : (g : Generator) (j : ℕ) → j < dimension g → places_of g j < size g
inside g j h = g.inside j h

pub ends : (f : Ops) → Laws f → (g : Generator) (i p : ℕ) → size g ≤ p → rows_of f g i p ≡ 0
ends f l g i p h = ap (symbol f) (g.ends i p h) ∙ symbol_zero f l

-- the index of a syndrome stays below 2 ^ 96
pub index_room : (f : Ops) → Laws f → (g : Generator) (w : ℕ → ℕ) (i : ℕ) → i < size g → index f.order (syndrome_of f g w) i * f.order + syndrome_of f g w i < 2 ^ 96
index_room f l g w i h =
    index_fits f.order (syndrome_of f g w) i l.most (syndrome_symbol f l (size g) (dimension g) (rows_of f g) (symbols_of f l g) (places_of g) w) (let b = g.short in omega arith)

pub index_tells : (f : Ops) → Laws f → (g : Generator) (w : ℕ → ℕ) → ZeroExactly f g w (index f.order (syndrome_of f g w) (size g - dimension g))
index_tells f l g w symbols past =
    let few = g.few in (
      (λ z. checks_codeword f l (size g) (dimension g) (rows_of f g) (symbols_of f l g) (places_of g) (systematic f l g) (inside g) (λ i p _ h. ends f l g i p h) w symbols past
          (λ i h. index_zero f.order (zero_symbol l) (syndrome_of f g w) (size g - dimension g) z i (omega arith))),
      (λ s. zero_index f.order (syndrome_of f g w) (size g - dimension g)
          (λ i h. codeword_checks f l (size g) (dimension g) (rows_of f g) (symbols_of f l g) (places_of g) (systematic f l g) (inside g) w symbols s i (omega arith))),
    )
