use Rattle.trellis.proofs.Columning.{Written}
use Rattle.trellis.proofs.code_trellis.check_columns.Given as goal

abbrev pub invariant-loop-i : goal.invariant-loop-i
invariant-loop-i g l = Written g.F.Field.ops l.generator l.columns l.i 0

abbrev pub invariant-loop-p : goal.invariant-loop-p
invariant-loop-p g l = Written g.F.Field.ops l.generator l.columns l.i l.p
