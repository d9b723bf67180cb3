use Rattle.std.proofs.Common.{◌≡◌, ℕ, ◌≤◌, get_or}
use Rattle.algebra.specs.Words.{word, cut}
use Rattle.algebra.specs.Elimination.{Remainder}
use Rattle.basis.specs.Parts.{size, rows_of, pivots_of}
use Rattle.basis.proofs.Basis.remainder.Given as goal

abbrev pub invariant-loop-row : goal.invariant-loop-row
invariant-loop-row g l =
    let f = g.F.Field.ops in
    Remainder f (rows_of f l.self) (pivots_of l.self) (cut f (size l.self) (word l.word)) (word l.rest) l.row-index
    × ((p : ℕ) → size l.self ≤ p → get_or l.rest p 0 ≡ 0)
