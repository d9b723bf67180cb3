use Rattle.std.proofs.Common.{◌≡◌, ◌+◌, ◌-◌}
use Rattle.generator.specs.Parts.{size}
use Rattle.least.specs.Least.{best_of}
use Rattle.cheapest.specs.Trellises.{trellis_of}
use Rattle.trellis.specs.Leasts.{told}
use Rattle.trellis.proofs.Following.{other_rest}
use Rattle.trellis.proofs.table.LeastCosts.other_at.Given as goal

abbrev pub invariant-loop-x : goal.invariant-loop-x
invariant-loop-x g l =
    let trellis = l.self.trellis.now in
    let t = trellis_of g.F.Field.ops trellis.generator.now (g.R.Reception.costs trellis.reception.now) trellis.coset in
    let rest = other_rest t (size trellis.generator.now - (l.place + 1)) (l.place + 1) l.place in
    told l.least ≡ best_of (λ y. t.cost l.place y + (rest y).0) (λ y. (rest y).1) l.x
