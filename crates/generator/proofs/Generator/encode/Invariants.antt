use Rattle.std.proofs.Common.{◌≡◌, ℕ, ◌<◌, get_or}
use Rattle.algebra.specs.Words.{word, combination}
use Rattle.generator.specs.Parts.{rows_of, dimension}
use Rattle.generator.proofs.Generator.encode.Given as goal

abbrev pub invariant-loop-p : goal.invariant-loop-p
invariant-loop-p g l =
    (p : ℕ) → p < l.p → get_or l.out p 0 ≡ combination g.F.Field.ops (word l.message) (rows_of g.F.Field.ops l.self) (dimension l.self) p
