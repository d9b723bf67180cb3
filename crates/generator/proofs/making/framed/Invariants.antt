use Rattle.std.proofs.Common.{◌≡◌, ℕ, ◌<◌, ◌≤◌, length}
use Rattle.algebra.specs.Words.{cells, cut}
use Rattle.generator.proofs.making.framed.Given as goal

abbrev pub invariant-loop-i : goal.invariant-loop-i
invariant-loop-i g l =
    (length l.table ≡ 24)
    × ((i p : ℕ) → i < l.i → cells l.table i p ≡ cut g.F.Field.ops l.n (cells l.rows i) p)
    × ((i p : ℕ) → l.i ≤ i → cells l.table i p ≡ 0)
