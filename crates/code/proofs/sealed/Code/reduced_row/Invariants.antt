use Rattle.std.proofs.Common.{◌≡◌, ℕ, ◌<◌, get_or}
use Rattle.generator.specs.Parts.{rows_of}
use Rattle.code.proofs.sealed.Code.reduced_row.Given as goal

abbrev pub invariant-loop-p : goal.invariant-loop-p
invariant-loop-p g l = (k : ℕ) → k < l.p → get_or l.out k 0 ≡ rows_of g.F.Field.ops l.self.generator l.i k
