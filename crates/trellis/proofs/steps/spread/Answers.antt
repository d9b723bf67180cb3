use Rattle.std.proofs.Common.{◌*◌, ◌≤◌, mul-le-mul_right, arith}
use Rattle.trellis.proofs.Stepping.{sum_closed}
use Rattle.trellis.proofs.steps.spread.Given as given
use Rattle.trellis.proofs.steps.spread.Goals as goal
use Rattle.trellis.proofs.steps.spread.Goals.{After-sum}

-- what is added is at most what the caller keeps room for
small : (g : given.Over) (c : After-sum g) → c.sum.result * c.args.unit ≤ g.F.Field.ops.order * c.args.unit
small g c = mul-le-mul_right c.args.unit (omega (arith, sum_closed g.F.Field.ops g.F.Field.laws c.loop-y.y c.args.added, c.sum.ensures))

pub overflow_mul-to : goal.overflow_mul-to
overflow_mul-to g c = omega (arith, small g c)

pub overflow_add-to : goal.overflow_add-to
overflow_add-to g c = omega (arith, small g c)
