use Rattle.std.proofs.Common.{◌≡◌, ℕ, ◌+◌, ◌*◌, ◌<◌, get_or}
use Rattle.trellis.proofs.steps.spread.Given as goal

abbrev pub invariant-loop-y : goal.invariant-loop-y
invariant-loop-y g l = (y : ℕ) → y < l.y → get_or l.out y 0 ≡ l.base + g.F.Field.ops.sum y l.added * l.unit
