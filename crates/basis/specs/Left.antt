-- What the rows of a basis leave of a word.
use Rattle.std.specs.Prelude.{◌≡◌, ℕ, ◌≤◌, ◌≢◌}
use Rattle.field.specs.Field.{Ops}
use Rattle.algebra.specs.Words.{word}
use Rattle.algebra.specs.Elimination.{Remainder}
use Rattle.linear.specs.declared.rows.Row.{Row}
use Rattle.basis.specs.declared.Basis.{Basis}
use Rattle.basis.specs.Parts.{size, count, rows_of, pivots_of}

-- The row r is what multiples of the rows of b leave of the word w, scaled to have 1 at its place.
pub record Left (f : Ops) (b : Basis) (w : ℕ → ℕ) (r : Row) : Type 0 where
  pub rest : ℕ → ℕ
  pub remainder : Remainder f (rows_of f b) (pivots_of b) w rest (count b)
  pub past : (k : ℕ) → size b ≤ k → rest k ≡ 0
  pub some : rest r.place ≢ 0
  pub is : (k : ℕ) → word r.symbols k ≡ f.product (f.inverse (rest r.place)) (rest k)
