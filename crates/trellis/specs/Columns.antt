-- The columns of a generator's check rows.
use Rattle.std.specs.Prelude.{◌≡◌, ℕ, ◌<◌, List, [], length, slice_index_or}
use Rattle.field.specs.Field.{Ops}
use Rattle.algebra.specs.Words.{cells}
use Rattle.generator.specs.declared.Generator.{Generator}
use Rattle.generator.specs.Parts.{size}
use Rattle.cosets.specs.States.{checks, column_at}

-- for each place what the check rows have there, in a table of 24 times 24 symbols
pub record Columns (f : Ops) (g : Generator) (columns : List (List ℕ)) : Type 0 where
  pub tall : length columns ≡ 24
  pub wide : (p : ℕ) → p < 24 → length (slice_index_or columns p []) ≡ 24
  pub symbols : (p i : ℕ) → p < size g → i < checks g → cells columns p i ≡ column_at f g p i
