use Rattle.std.proofs.Common.{length, Ok, subst, arith}
use Rattle.decoding.specs.Distances.{DistanceFound}
use Rattle.decoding.proofs.Distances.{distance_found}
use Rattle.decoding.proofs.measuring.distance.Goals as goal

pub returns : goal.returns
returns g c = record {
  told = subst (λ least. DistanceFound g.F.Field.ops c.args.generator.now (length c.args.work.now) (Ok least)) (grind arith) (distance_found g.F.Field.ops g.F.Field.laws c.args.generator.now (length c.args.work.now) (Ok c.in_ok-found.found) c.in_ok-found.ensures.told);
  work = c.in_ok-found.ensures.work;
}
