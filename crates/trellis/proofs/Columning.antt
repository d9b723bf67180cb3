-- The columns of check rows, as they are written row by row.
use Rattle.std.proofs.Common.{◌≡◌, ℕ, ◌<◌, ◌≤◌, List, [], length, get_or, take, ◌∙◌, arith}
use Rattle.std.proofs.lemmas.List.{get_or-take, length-take}
use Rattle.field.specs.Field.{Ops}
use Rattle.algebra.specs.Words.{word, cells}
use Rattle.generator.specs.declared.Generator.{Generator}
use Rattle.generator.specs.Parts.{size}
use Rattle.cosets.specs.States.{moved, checks, column_at, next}
use Rattle.trellis.specs.Columns.{Columns}
use Rattle.trellis.proofs.Stepping.{moved_next}

-- all columns have the symbols of the first i check rows, and the first n columns that of the row i too
pub record Written (f : Ops) (g : Generator) (columns : List (List ℕ)) (i n : ℕ) : Type 0 where
  pub tall : length columns ≡ 24
  pub wide : (p : ℕ) → p < 24 → length (get_or columns p []) ≡ 24
  pub rows : (p j : ℕ) → p < size g → j < i → cells columns p j ≡ column_at f g p j
  pub row : (p : ℕ) → p < n → p < size g → cells columns p i ≡ column_at f g p i

-- the column of a place moves a state as the generator does
module _ (f : Ops) (g : Generator) (columns : List (List ℕ)) (made : Columns f g columns) (p digits : ℕ) (inside : p < size g) (all : digits ≡ checks g) where
  abbrev pub column : List ℕ
  column = take digits (get_or columns p [])

  pub column_fits : digits ≤ length (get_or columns p [])
  column_fits = let short : size g ≤ 24 = g.short in omega (arith, made.wide p (omega arith))

  pub column_length : length column ≡ checks g
  column_length = simp length-take (omega (arith, column_fits))

  pub column_moves : (s x : ℕ) → moved f (word column) (checks g) s x ≡ next f g p s x
  column_moves s x = moved_next f g (word column) p s x (λ i h. get_or-take digits (get_or columns p []) i 0 (omega arith) ∙ made.symbols p i inside h)
