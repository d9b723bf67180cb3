use Rattle.std.proofs.Common.{ℕ, ◌+◌, ◌-◌, ◌*◌, ◌≤◌, arith}
use Rattle.generator.specs.Parts.{size}
use Rattle.cheapest.specs.Trellises.{trellis_of}
use Rattle.trellis.proofs.Tabling.{half_long, filled_small, filled_counted, filled_holds}
use Rattle.trellis.proofs.code_trellis.Trellis.fill_row.Goals as goal

pub new-requires : goal.new-requires
new-requires g c =
    let trellis = c.args.self.now in
    let gen = trellis.generator.now in
    let each = (g.R.Reception.laws trellis.reception.now).most in
    let short : size gen ≤ 24 = gen.short in
    let m : ℕ = trellis.shape.highs * trellis.shape.lows in
    let i : ℕ = c.args.place in
    let t = trellis_of g.F.Field.ops gen (g.R.Reception.costs trellis.reception.now) trellis.coset in
    rw c.states.ensures (record {
      long = c.requires.next;
      small = filled_small t each (size gen - (i + 1)) (i + 1) m (omega arith) c.args.after.now c.requires.done;
      counted = filled_counted t each (size gen - (i + 1)) (i + 1) m (omega arith) c.args.after.now c.requires.done;
    })

pub invariant_of-section : goal.invariant_of-section
invariant_of-section g c =
    let trellis = c.args.self.now in
    let gen = trellis.generator.now in
    let each = (g.R.Reception.laws trellis.reception.now).most in
    let short : size gen ≤ 24 = gen.short in
    let m : ℕ = trellis.shape.highs * trellis.shape.lows in
    let i : ℕ = c.args.place in
    let t = trellis_of g.F.Field.ops gen (g.R.Reception.costs trellis.reception.now) trellis.coset in
    let e = rw c.states.ensures at c.new.ensures.costs in
    let w = rw c.states.ensures at c.new.ensures.ways in
    record {
      inside = c.requires.inside;
      symbols = c.requires.symbols;
      branched = c.requires.branched;
      states = half_long m c.args.after.now c.new.result.costs.now c.requires.next e;
      row = filled_holds t each (size gen - (i + 1)) (i + 1) m (omega arith) c.args.after.now c.requires.done c.new.result.costs.now c.new.result.ways.now c.requires.next e w;
    }
