use Rattle.std.proofs.Common.{◌≡◌, ◌-◌, ◌≤◌, length}
use Rattle.algebra.specs.Words.{word, cells}
use Rattle.algebra.specs.Elimination.{Progress}
use Rattle.linear.proofs.elimination.eliminate.Given as goal

abbrev pub invariant-loop-found : goal.invariant-loop-found
invariant-loop-found g l =
    (length l.places ≡ 24) × (l.place ≤ 24)
    × Progress g.F.Field.ops (length l.initial.rows) (cells l.initial.rows) (cells l.rows) l.rank l.place (word l.places)

abbrev pub decreases-loop-found : goal.decreases-loop-found
decreases-loop-found g l = 24 - l.place
