use Rattle.std.proofs.Common.{◌≡◌, ℕ, ◌+◌, ◌-◌, ◌*◌, ◌<◌, get_or}
use Rattle.generator.specs.Parts.{size}
use Rattle.least.specs.Least.{best}
use Rattle.cheapest.specs.Trellises.{trellis_of}
use Rattle.trellis.proofs.section.Section.fill_part.Given as goal

abbrev pub invariant-loop-v : goal.invariant-loop-v
invariant-loop-v g l =
    let section = l.self in
    let trellis = section.trellis.now in
    (v : ℕ) → v < l.v → (get_or l.costs v 0, get_or l.ways v 0) ≡ best (trellis_of g.F.Field.ops trellis.generator.now (g.R.Reception.costs trellis.reception.now) trellis.coset) (size trellis.generator.now - section.place) section.place (l.u * trellis.shape.lows + v)
