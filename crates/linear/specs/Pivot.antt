-- Where a pivot is found.
use Rattle.std.specs.Prelude.{◌≡◌, ℕ, ◌<◌, ◌≤◌, Some, None, Option, ◌≢◌}
use Rattle.linear.specs.declared.elimination.Found.{Found}

-- the rows from `row` on, of m, have 0 at the place p
abbrev pub Blank : (ℕ → ℕ → ℕ) → ℕ → ℕ → ℕ → Type 0
Blank rs m row p = (i : ℕ) → row ≤ i → i < m → rs i p ≡ 0

-- and at each place from `place` on, below p
abbrev pub BlankFrom : (ℕ → ℕ → ℕ) → ℕ → ℕ → ℕ → ℕ → Type 0
BlankFrom rs m row place p = (k : ℕ) → place ≤ k → k < p → Blank rs m row k

-- v is the first place from `place` on, below 24, at which one of the rows from `row` on is not 0, with the first such row
pub record First (rs : ℕ → ℕ → ℕ) (m row place : ℕ) (v : Found) : Type 0 where
  pub onward : place ≤ v.place
  pub inside : v.place < 24
  pub below : row ≤ v.row
  pub held : v.row < m
  pub some : rs v.row v.place ≢ 0
  pub blank : BlankFrom rs m row place v.place
  pub above : Blank rs v.row row v.place

-- what the rows from `row` on have first; nothing where they have 0 everywhere from `place` on
abbrev pub FirstFrom : (ℕ → ℕ → ℕ) → ℕ → ℕ → ℕ → Option Found → Type 0
FirstFrom rs m row place None = BlankFrom rs m row place 24
FirstFrom rs m row place (Some v) = First rs m row place v
