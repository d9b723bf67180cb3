use Rattle.std.proofs.Common.{◌*◌}
use Rattle.generator.specs.Parts.{size}
use Rattle.least.specs.Tables.{Table}
use Rattle.cheapest.specs.Trellises.{trellis_of}
use Rattle.trellis.proofs.code_trellis.Trellis.fill.Given as goal

abbrev pub invariant-loop-place : goal.invariant-loop-place
invariant-loop-place g l =
    let trellis = l.self in
    Table (trellis_of g.F.Field.ops trellis.generator.now (g.R.Reception.costs trellis.reception.now) trellis.coset) (trellis.shape.highs * trellis.shape.lows) (size trellis.generator.now) l.place l.words
