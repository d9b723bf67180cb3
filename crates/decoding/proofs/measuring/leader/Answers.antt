use Rattle.std.proofs.Common.{subst}
use Rattle.algebra.specs.Words.{word}
use Rattle.cheapest.specs.Cheapest.{Cheapest, Sole}
use Rattle.decoding.proofs.Leading.{cheapest_leader, sole_leader}
use Rattle.decoding.proofs.measuring.leader.Goals as goal

pub returns : goal.returns
returns g c =
    let f = g.F.Field.ops in
    let gen = c.args.generator.now in
    let t = c.args.index in
    let w = word c.cheapest.new.word in
    let least = c.in_ok-least.least in
    let costs = c.weights-weights.ensures in
    let h = c.in_ok-least.ensures in
    let told = h.told in
    let found = told.1.1.1.1 in
    record {
      told = (
        told.0,
        (
          told.1.0,
          (
            told.1.1.0,
            (
              told.1.1.1.0,
              (
                cheapest_leader f gen t w least.cost (subst (λ e. Cheapest f gen e t w least.cost) costs found.0),
                sole_leader f gen t w least.cost least.sole (subst (λ e. Sole f gen e t w least.cost least.sole) costs found.1),
              ),
            ),
          ),
        ),
      );
      work = h.work;
      out = h.word;
    }
