use Rattle.std.proofs.Common.{◌≡◌, get_or}
use Rattle.algebra.specs.Checks.{index}
use Rattle.generator.specs.Parts.{syndrome_of}
use Rattle.generator.proofs.Generator.syndrome_index.Given as goal

abbrev pub invariant-loop-i : goal.invariant-loop-i
invariant-loop-i g l = let f = g.F.Field.ops in l.index ≡ index f.order (syndrome_of f l.self (λ p. get_or l.word p 0)) l.i
