use Rattle.std.proofs.Common.{◌≡◌, ℕ, ◌<◌, ◌≤◌, [], get_or}
use Rattle.algebra.specs.Words.{cells, symbol_cells}
use Rattle.linear.proofs.elimination.as_symbols.Given as goal

abbrev pub invariant-loop-row : goal.invariant-loop-row
invariant-loop-row g l =
    ((i k : ℕ) → i < l.row-index → cells l.rows i k ≡ symbol_cells g.F.Field.ops l.initial.rows i k)
    × ((i : ℕ) → l.row-index ≤ i → get_or l.rows i [] ≡ get_or l.initial.rows i [])
