use Rattle.std.proofs.Common.{◌≡◌, ℕ, ◌<◌, ◌≤◌, get_or}
use Rattle.linear.proofs.rows.add_multiple.Given as goal

abbrev pub invariant-loop-i : goal.invariant-loop-i
invariant-loop-i g l =
    let f = g.F.Field.ops in
    ((k : ℕ) → k < l.i → get_or l.row k 0 ≡ f.sum (get_or l.initial.row k 0) (f.product l.factor (get_or l.by k 0)))
    × ((k : ℕ) → l.i ≤ k → get_or l.row k 0 ≡ get_or l.initial.row k 0)
