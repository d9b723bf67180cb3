use Rattle.std.proofs.Common.{◌≡◌, ℕ, ◌+◌, ◌*◌, ◌<◌, ◌≤◌, get_or}
use Rattle.trellis.proofs.steps.widen.Given as goal

abbrev pub invariant-loop-u : goal.invariant-loop-u
invariant-loop-u g l =
    ((v y : ℕ) → l.u ≤ v → v < l.count → y < g.F.Field.ops.order → get_or l.out (v * g.F.Field.ops.order + y) 0 ≡ get_or l.initial.out v 0 * g.F.Field.ops.order + g.F.Field.ops.sum y l.added * l.unit) ×
    ((s : ℕ) → s < l.u → get_or l.out s 0 ≡ get_or l.initial.out s 0)
