use Rattle.std.proofs.Common.{◌≡◌, ◌-◌}
use Rattle.generator.specs.Parts.{size}
use Rattle.least.specs.Least.{best_other}
use Rattle.cheapest.specs.Trellises.{trellis_of}
use Rattle.trellis.specs.Leasts.{told}
use Rattle.trellis.proofs.table.LeastCosts.least_other.Given as goal

abbrev pub invariant-loop-place : goal.invariant-loop-place
invariant-loop-place g l =
    let trellis = l.self.trellis.now in
    told l.least ≡ best_other (trellis_of g.F.Field.ops trellis.generator.now (g.R.Reception.costs trellis.reception.now) trellis.coset) (size trellis.generator.now - l.place) l.place
