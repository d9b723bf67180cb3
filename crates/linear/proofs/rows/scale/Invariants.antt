use Rattle.std.proofs.Common.{◌≡◌, ℕ, ◌<◌, ◌≤◌, get_or}
use Rattle.linear.proofs.rows.scale.Given as goal

abbrev pub invariant-loop-x : goal.invariant-loop-x
invariant-loop-x g l =
    ((k : ℕ) → k < l.x-index → get_or l.row k 0 ≡ g.F.Field.ops.product l.factor (get_or l.initial.row k 0))
    × ((k : ℕ) → l.x-index ≤ k → get_or l.row k 0 ≡ get_or l.initial.row k 0)
