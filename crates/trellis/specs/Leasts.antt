-- Least costs, as the theory counts the words that have them.
use Rattle.std.specs.Prelude.{◌≡◌, ℕ, cond, Option, Some, None}
use Rattle.trellis.specs.declared.cost.Least.{Least}

-- in how many ways a cost is had, where 2 stands for more
abbrev pub ways_of : Least → ℕ
ways_of l = cond l.sole 1 2

-- a least cost with its ways; it costs nothing in no way
abbrev pub told : Option Least → ℕ × ℕ
told None = (0, 0)
told (Some l) = (l.cost, ways_of l)

-- what is told where a cost is had in so many ways, or in none
abbrev pub Tells : Option Least → ℕ → ℕ → Type 0
Tells None cost ways = ways ≡ 0
Tells (Some l) cost ways = (l.cost ≡ cost) × (ways_of l ≡ ways)
