use Rattle.std.proofs.Common.{◌≡◌, ◌<◌, length, Some, sym, refl, ap, ◌∙◌, subst, inl, inr, arith}
use Rattle.algebra.specs.Words.{word}
use Rattle.cosets.specs.States.{cosets}
use Rattle.cheapest.specs.Cheapest.{Cheapest, Sole}
use Rattle.trellis.specs.Rooms.{needed}
use Rattle.trellis.proofs.Rooming.{enough, said}
use Rattle.trellis.proofs.Shaping.{states_are}
use Rattle.trellis.proofs.coset.cheapest.Goals as goal

pub returns-then-coset-states-clause-told : goal.returns-then-coset-states-clause-told
returns-then-coset-states-clause-told g c =
    let gen = c.args.generator.now in
    let room = c.in_ok-shape.ensures in
    let is : c.states-states.result ≡ cosets g.F.Field.ops gen = c.states-states.ensures ∙ states_are g.F.Field.ops gen c.in_ok-shape.shape room.1.1 in
    let long = c.if-word-n.false ∙ c.length-n.ensures in
    inr (room.0, inr (room.1.0, inr ((λ n. n long), inl (omega (arith, is), refl, ap (λ k. Some k) is))))

pub new-trellis-requires-clause-known : goal.new-trellis-requires-clause-known
new-trellis-requires-clause-known g c = omega (arith, c.states-states.ensures, states_are g.F.Field.ops c.args.generator.now c.in_ok-shape.shape c.in_ok-shape.ensures.1.1)

pub fill-requires : goal.fill-requires
fill-requires g c =
    let f = g.F.Field.ops in
    let trellis = c.new-trellis.result in
    enough f trellis.generator.now trellis.shape trellis.shaped (length c.args.work.now) (subst (λ k. length c.args.work.now < needed f k → ⊥) (sym c.new-trellis.ensures.generator) c.in_ok-shape.ensures.1.0)

pub invariant_of-table : goal.invariant_of-table
invariant_of-table g c =
    let f = g.F.Field.ops in
    let trellis = c.new-trellis.result in
    let room = enough f trellis.generator.now trellis.shape trellis.shaped (length c.args.work.now) (subst (λ k. length c.args.work.now < needed f k → ⊥) (sym c.new-trellis.ensures.generator) c.in_ok-shape.ensures.1.0) in
    record { room = omega (arith, c.fill.auto.words); filled = c.fill.ensures }

pub returns-clause-told : goal.returns-clause-told
returns-clause-told g c =
    let f = g.F.Field.ops in
    let room = c.in_ok-shape.ensures in
    let long = c.if-word-n.false ∙ c.length-n.ensures in
    let made = c.new-trellis.ensures in
    let costs = ap g.R.Reception.costs made.reception in
    let w = word c.trace.new.out in
    let least = c.trace.result in (
      room.0,
      (
        room.1.0,
        (
          (λ n. n long),
          (
            (λ past. omega (arith, c.states-states.ensures, states_are f c.args.generator.now c.in_ok-shape.shape room.1.1)),
            (
              said (λ a b t. Cheapest f a b t w least.cost) made.generator costs made.coset c.trace.ensures.cheapest,
              said (λ a b t. Sole f a b t w least.cost least.sole) made.generator costs made.coset c.trace.ensures.sole,
            ),
          ),
        ),
      ),
    )
