use Rattle.std.proofs.Common.{◌≡◌}
use Rattle.algebra.specs.Words.{word, combination}
use Rattle.generator.specs.Parts.{rows_of}
use Rattle.generator.proofs.Generator.codeword_at.Given as goal

abbrev pub invariant-loop-j : goal.invariant-loop-j
invariant-loop-j g l = l.sum ≡ combination g.F.Field.ops (word l.message) (rows_of g.F.Field.ops l.self) l.j l.p
