use Rattle.std.proofs.Common.{◌≡◌, ℕ, ◌+◌, ◌-◌, ◌*◌, ◌≤◌, length, refl, mul-le-mul_right, add-mul, arith}
use Rattle.generator.specs.Parts.{size}
use Rattle.least.specs.Least.{best}
use Rattle.cheapest.specs.Trellises.{trellis_of}
use Rattle.trellis.proofs.Filling.{part_more, row_filled}
use Rattle.trellis.proofs.Splicing.{length_part}
use Rattle.trellis.proofs.section.Section.fill.Goals as goal

pub loop-u-preserved : goal.loop-u-preserved
loop-u-preserved g c s h =
    let section = c.args.self.now in
    let trellis = section.trellis.now in
    let t = trellis_of g.F.Field.ops trellis.generator.now (g.R.Reception.costs trellis.reception.now) trellis.coset in
    let lows : ℕ = trellis.shape.lows in
    let u : ℕ = c.loop-u.u in
    let a : ℕ = u * lows in
    let k : ℕ = a + lows - a in
    let up : (u + 1) * lows ≤ trellis.shape.highs * lows = mul-le-mul_right lows (omega arith) in
    let room : a + k ≤ length c.loop-u.costs = omega (arith, add-mul u 1 lows) in
    part_more (best t (size trellis.generator.now - section.place) section.place) u lows a k c.loop-u.costs c.loop-u.ways c.fill_part.new.costs c.fill_part.new.ways refl (omega arith)
    room (omega arith) (omega (arith, length_part a k c.loop-u.costs room)) (omega (arith, length_part a k c.loop-u.ways (omega arith))) c.loop-u.invariant c.fill_part.ensures s h

pub returns : goal.returns
returns g c =
    let section = c.args.self.now in
    let trellis = section.trellis.now in
    let t = trellis_of g.F.Field.ops trellis.generator.now (g.R.Reception.costs trellis.reception.now) trellis.coset in
    let all : c.loop-u.u ≡ trellis.shape.highs = omega arith in
    row_filled t (size trellis.generator.now - section.place) section.place (trellis.shape.highs * trellis.shape.lows) c.loop-u.costs c.loop-u.ways (omega arith) (omega arith) (rw all at c.loop-u.invariant)
