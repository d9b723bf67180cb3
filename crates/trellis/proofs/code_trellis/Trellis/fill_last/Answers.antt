use Rattle.std.proofs.Common.{ℕ, ◌*◌, ◌<◌, arith, rules}
use Rattle.generator.specs.Parts.{size}
use Rattle.cheapest.specs.Trellises.{trellis_of}
use Rattle.trellis.proofs.Filling.{last_filled}
use Rattle.trellis.proofs.Shaping.{states_are}
use Rattle.trellis.proofs.code_trellis.Trellis.fill_last.Goals as goal

pub overflow_add-row : goal.overflow_add-row
overflow_add-row g c = let trellis = c.args.self.now in omega (arith, states_are g.F.Field.ops trellis.generator.now trellis.shape trellis.shaped, trellis.known, trellis.shape.few)

pub offset_bounds-row-states : goal.offset_bounds-row-states
offset_bounds-row-states g c = let trellis = c.args.self.now in omega (arith, states_are g.F.Field.ops trellis.generator.now trellis.shape trellis.shaped, trellis.known, trellis.shape.few)

pub bounds-row-states : goal.bounds-row-states
bounds-row-states g c = let trellis = c.args.self.now in omega (arith, states_are g.F.Field.ops trellis.generator.now trellis.shape trellis.shaped, trellis.known)

pub returns : goal.returns
returns g c =
    let trellis = c.args.self.now in
    let gen = trellis.generator.now in
    let t = trellis_of g.F.Field.ops gen (g.R.Reception.costs trellis.reception.now) trellis.coset in
    let m : ℕ = trellis.shape.highs * trellis.shape.lows in
    let known : trellis.coset < m = omega (arith, states_are g.F.Field.ops gen trellis.shape trellis.shaped, trellis.known) in
    rw c.states.ensures (last_filled t (size gen) m c.fill.new.self (omega arith) known (λ k h. search rules))
