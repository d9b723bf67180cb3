use Rattle.generator.specs.Parts.{places_of}
use Rattle.generator.proofs.Checking.{Walked}
use Rattle.generator.proofs.Generator.check_place.Given as goal

abbrev pub invariant-loop-row : goal.invariant-loop-row
invariant-loop-row l = Walked (places_of l.self) l.i l.row-index l.p
