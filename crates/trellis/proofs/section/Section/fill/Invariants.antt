use Rattle.std.proofs.Common.{◌≡◌, ℕ, ◌-◌, ◌*◌, ◌<◌, get_or}
use Rattle.generator.specs.Parts.{size}
use Rattle.least.specs.Least.{best}
use Rattle.cheapest.specs.Trellises.{trellis_of}
use Rattle.trellis.proofs.section.Section.fill.Given as goal

abbrev pub invariant-loop-u : goal.invariant-loop-u
invariant-loop-u g l =
    let section = l.self in
    let trellis = section.trellis.now in
    (s : ℕ) → s < l.u * trellis.shape.lows → (get_or l.costs s 0, get_or l.ways s 0) ≡ best (trellis_of g.F.Field.ops trellis.generator.now (g.R.Reception.costs trellis.reception.now) trellis.coset) (size trellis.generator.now - section.place) section.place s
