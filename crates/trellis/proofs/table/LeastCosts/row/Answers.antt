use Rattle.std.proofs.Common.{◌≡◌, ℕ, ◌+◌, ◌-◌, ◌*◌, ◌≤◌, length, refl, ◌∙◌, add-mul, mul-le-mul_right, arith}
use Rattle.generator.specs.Parts.{size}
use Rattle.cheapest.specs.Trellises.{trellis_of}
use Rattle.trellis.proofs.Splicing.{length_part}
use Rattle.trellis.proofs.Tabling.{half_long, table_part, filled_small, filled_counted, filled_holds}
use Rattle.trellis.proofs.table.LeastCosts.row.Goals as goal

pub new-requires : goal.new-requires
new-requires g c =
    let table = c.args.self.now in
    let trellis = table.trellis.now in
    let gen = trellis.generator.now in
    let costs = g.R.Reception.costs trellis.reception.now in
    let each = (g.R.Reception.laws trellis.reception.now).most in
    let short : size gen ≤ 24 = gen.short in
    let m : ℕ = trellis.shape.highs * trellis.shape.lows in
    let i : ℕ = c.args.place in
    let a : ℕ = i * (m + m) in
    let d : ℕ = a + (m + m) - a in
    let t = trellis_of g.F.Field.ops gen costs trellis.coset in
    let same : d ≡ m + m = omega arith in
    let up : (i + 1) * (m + m) ≤ (size gen + 1) * (m + m) = mul-le-mul_right (m + m) (omega arith) in
    let room : a + d ≤ length table.words.now = omega (arith, table.room, add-mul i 1 (m + m)) in
    let part = table_part t m (size gen) 0 i a d table.words.now table.filled (omega arith) c.requires refl same in
    rw c.states-states.ensures (record {
      long = length_part a d table.words.now room ∙ same;
      small = filled_small t each (size gen - i) i m (omega arith) _ part;
      counted = filled_counted t each (size gen - i) i m (omega arith) _ part;
    })

pub returns : goal.returns
returns g c =
    let table = c.args.self.now in
    let trellis = table.trellis.now in
    let gen = trellis.generator.now in
    let costs = g.R.Reception.costs trellis.reception.now in
    let each = (g.R.Reception.laws trellis.reception.now).most in
    let short : size gen ≤ 24 = gen.short in
    let m : ℕ = trellis.shape.highs * trellis.shape.lows in
    let i : ℕ = c.args.place in
    let a : ℕ = i * (m + m) in
    let d : ℕ = a + (m + m) - a in
    let t = trellis_of g.F.Field.ops gen costs trellis.coset in
    let same : d ≡ m + m = omega arith in
    let up : (i + 1) * (m + m) ≤ (size gen + 1) * (m + m) = mul-le-mul_right (m + m) (omega arith) in
    let room : a + d ≤ length table.words.now = omega (arith, table.room, add-mul i 1 (m + m)) in
    let part = table_part t m (size gen) 0 i a d table.words.now table.filled (omega arith) c.requires refl same in
    let long = length_part a d table.words.now room ∙ same in
    let e = rw c.states-states.ensures at c.new.ensures.costs in
    let w = rw c.states-states.ensures at c.new.ensures.ways in
    record {
      states = half_long m _ c.new.result.costs.now long e;
      holds = filled_holds t each (size gen - i) i m (omega arith) _ part c.new.result.costs.now c.new.result.ways.now long e w;
    }
