use Rattle.std.proofs.Common.{◌≡◌, ℕ, ◌*◌, ◌^◌, ◌<◌, get_or}
use Rattle.algebra.specs.Words.{word}
use Rattle.cosets.specs.States.{moved}
use Rattle.trellis.proofs.steps.tabulate.Given as goal

abbrev pub invariant-loop-check : goal.invariant-loop-check
invariant-loop-check g l =
    (l.count ≡ g.F.Field.ops.order ^ l.check-index)
    × ((s : ℕ) → s < g.F.Field.ops.order ^ l.check-index → get_or l.out s 0 ≡ moved g.F.Field.ops (word l.column) l.check-index s l.x * l.unit)
