use Rattle.std.proofs.Common.{◌≡◌, ℕ, ◌<◌, get_or}
use Rattle.generator.specs.Parts.{check_row_of}
use Rattle.generator.proofs.Generator.check_row.Given as goal

abbrev pub invariant-loop-p : goal.invariant-loop-p
invariant-loop-p g l = let f = g.F.Field.ops in (p : ℕ) → p < l.p → get_or l.out p 0 ≡ check_row_of f l.self l.place p
