use Rattle.std.proofs.Common.{◌≡◌, ◌+◌, ◌-◌, ◌*◌}
use Rattle.generator.specs.Parts.{size}
use Rattle.least.specs.Least.{best_of, best}
use Rattle.cheapest.specs.Trellises.{trellis_of}
use Rattle.trellis.proofs.section.Section.reach.Given as goal

abbrev pub invariant-loop-x : goal.invariant-loop-x
invariant-loop-x g l =
    let t = trellis_of g.F.Field.ops l.self.trellis.now.generator.now (g.R.Reception.costs l.self.trellis.now.reception.now) l.self.trellis.now.coset in
    let i = l.self.place in
    let k = size l.self.trellis.now.generator.now - (i + 1) in
    let s = l.u * l.self.trellis.now.shape.lows + l.v in
    (l.least, l.ways) ≡ best_of (λ x. t.cost i x + (best t k (i + 1) (t.next i s x)).0) (λ x. (best t k (i + 1) (t.next i s x)).1) l.x
