use Rattle.std.proofs.Common.{◌≡◌, ◌<◌, length, sym, ap, ◌∙◌, subst, rules, arith}
use Rattle.reception.specs.Layers.{hard_word}
use Rattle.least.specs.Least.{best_other}
use Rattle.cheapest.specs.Lightest.{Lightest}
use Rattle.cheapest.specs.Trellises.{trellis_of}
use Rattle.trellis.specs.Leasts.{told}
use Rattle.trellis.proofs.Lightening.{weight_of, lightest_told}
use Rattle.generator.specs.Parts.{size}
use Rattle.cosets.specs.States.{checks}
use Rattle.algebra.proofs.Symbols.{zero_symbol}
use Rattle.trellis.specs.Rooms.{needed}
use Rattle.trellis.proofs.Powers.{power_positive}
use Rattle.trellis.proofs.Rooming.{enough, said}
use Rattle.trellis.proofs.weight.lightest.Goals as goal

pub new-trellis-requires-clause-known : goal.new-trellis-requires-clause-known
new-trellis-requires-clause-known g c = power_positive g.F.Field.ops.order (checks c.args.generator.now) (zero_symbol g.F.Field.laws)

pub fill-requires : goal.fill-requires
fill-requires g c =
    let f = g.F.Field.ops in
    let trellis = c.new-trellis.result in
    enough f trellis.generator.now trellis.shape trellis.shaped (length c.args.work.now) (subst (λ k. length c.args.work.now < needed f k → ⊥) (sym c.new-trellis.ensures.generator) c.in_ok-shape.ensures.1.0)

pub invariant_of-table : goal.invariant_of-table
invariant_of-table g c =
    let f = g.F.Field.ops in
    let trellis = c.new-trellis.result in
    let room = enough f trellis.generator.now trellis.shape trellis.shaped (length c.args.work.now) (subst (λ k. length c.args.work.now < needed f k → ⊥) (sym c.new-trellis.ensures.generator) c.in_ok-shape.ensures.1.0) in
    record { room = omega (arith, c.fill.auto.words); filled = c.fill.ensures }

pub returns-clause-told : goal.returns-clause-told
returns-clause-told g c =
    let f = g.F.Field.ops in
    let gen = c.args.generator.now in
    let made = c.new-trellis.ensures in
    let costs = ap (λ w. hard_word w.bytes.now) made.reception ∙ c.weights-weights.ensures in
    let least = said (λ a b t. told c.least_other.result ≡ best_other (trellis_of f a b t) (size a) 0) made.generator costs made.coset c.least_other.ensures in
    let is : c.map-weight.result ≡ weight_of c.least_other.result = search rules in
    (c.in_ok-shape.ensures.0, (c.in_ok-shape.ensures.1.0, subst (Lightest f gen) (sym is) (lightest_told f g.F.Field.laws gen c.least_other.result least)))
