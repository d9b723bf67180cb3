-- The reduced row echelon form, as a relation between rows and their information places.
use Rattle.std.specs.Prelude.{◌≡◌, ℕ, ◌<◌, ◌≢◌}
use Rattle.field.specs.Field.{Ops}
use Rattle.algebra.specs.Words.{SymbolRows, SameSpan}

-- The m rows are systematic at the places `at`: these ascend, and each row has 1 at its own place
-- and 0 at those of the other rows. A message can be read off there.
pub record Systematic (m : ℕ) (rs : ℕ → ℕ → ℕ) (at : ℕ → ℕ) : Type 0 where
  pub ascends : (i j : ℕ) → i < j → j < m → at i < at j
  pub own : (i : ℕ) → i < m → rs i (at i) ≡ 1
  pub others : (i j : ℕ) → i < m → j < m → (i ≢ j) → rs i (at j) ≡ 0

-- Each row has 0 at every place before its own.
pub record Leading (m : ℕ) (rs : ℕ → ℕ → ℕ) (at : ℕ → ℕ) : Type 0 where
  pub before : (i k : ℕ) → i < m → k < at i → rs i k ≡ 0

-- Reduced rows: systematic, and 1 is the first symbol of each row that is not 0.
pub record Reduced (m : ℕ) (rs : ℕ → ℕ → ℕ) (at : ℕ → ℕ) : Type 0 where
  pub systematic : Systematic m rs at
  pub leading : Leading m rs at

-- The k rows ss are the reduced row echelon form of the m rows rs, with information places `at`.
pub record ReducedForm (f : Ops) (m : ℕ) (rs : ℕ → ℕ → ℕ) (k : ℕ) (ss : ℕ → ℕ → ℕ) (at : ℕ → ℕ) : Type 0 where
  pub span : SameSpan f m rs k ss
  pub reduced : Reduced k ss at

-- Every reduced form of the m rows rs is the k rows ss with the places `at`: the same count, places and rows.
abbrev pub OnlyForm : Ops → ℕ → (ℕ → ℕ → ℕ) → ℕ → (ℕ → ℕ → ℕ) → (ℕ → ℕ) → Type 0
OnlyForm f m rs k ss at =
    (j : ℕ) (ts : ℕ → ℕ → ℕ) (bt : ℕ → ℕ) → SymbolRows f ts → ReducedForm f m rs j ts bt
    → (j ≡ k) × ((i : ℕ) → i < k → bt i ≡ at i) × ((i p : ℕ) → i < k → ts i p ≡ ss i p)

-- p is the first place at which some of the m rows is not 0
pub record FirstPlace (m : ℕ) (rs : ℕ → ℕ → ℕ) (p : ℕ) : Type 0 where
  pub row : ℕ
  pub inside : row < m
  pub some : rs row p ≡ 0 → ⊥
  pub before : (i k : ℕ) → i < m → k < p → rs i k ≡ 0
