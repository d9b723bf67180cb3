use Rattle.std.proofs.Common.{length, ◌+◌}
use Rattle.algebra.specs.Words.{cells}
use Rattle.linear.specs.Pivot.{Blank, BlankFrom}
use Rattle.linear.proofs.elimination.find_pivot.Given as goal

abbrev pub invariant-loop-p : goal.invariant-loop-p
invariant-loop-p l = BlankFrom (cells l.rows) (length l.rows) l.row l.place l.p

abbrev pub invariant-loop-i : goal.invariant-loop-i
invariant-loop-i l = BlankFrom (cells l.rows) (length l.rows) l.row l.place l.p × Blank (cells l.rows) (l.row + l.i) l.row l.p
