-- Rows of a table.
use Rattle.std.specs.Prelude.{◌≡◌, ℕ, ◌<◌, List, length, slice_index}
use Rattle.least.specs.Paths.{Trellis}
use Rattle.least.specs.Least.{best}
use Rattle.least.specs.Tables.{Row}

-- from each state at the place i the least cost of k symbols, and its ways
pub record Holds (t : Trellis) (k i : ℕ) (costs ways : List ℕ) : Type 0 where
  pub costs_are : (s : ℕ) → s < length costs → slice_index costs s ≡ (best t k i s).0
  pub ways_are : (s : ℕ) → s < length costs → slice_index ways s ≡ (best t k i s).1

-- the same for m states, in one list: the costs, and then the ways
abbrev pub Filled : Trellis → ℕ → ℕ → ℕ → List ℕ → Type 0
Filled t k i m words = Row t k i m 0 m words
