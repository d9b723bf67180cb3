use Rattle.linear.proofs.Clearing.{Clearing}
use Rattle.linear.proofs.elimination.clear_column.Given as goal

abbrev pub invariant-loop-h : goal.invariant-loop-h
invariant-loop-h g l = Clearing g.F.Field.ops l.initial.rows l.rows l.i l.p l.h
