use Rattle.std.proofs.Common.{◌-◌, ◌*◌, ◌<◌, take}
use Rattle.generator.specs.Parts.{size}
use Rattle.least.proofs.Tracing.{Traced}
use Rattle.cheapest.specs.Trellises.{trellis_of}
use Rattle.trellis.proofs.table.LeastCosts.trace.Given as goal

abbrev pub invariant-loop-place : goal.invariant-loop-place
invariant-loop-place g l =
    let trellis = l.self.trellis.now in
    let n = size trellis.generator.now in
    Traced (trellis_of g.F.Field.ops trellis.generator.now (g.R.Reception.costs trellis.reception.now) trellis.coset) n (n - l.place) l.place l.state (take l.place l.out) × (l.state < trellis.shape.highs * trellis.shape.lows)
