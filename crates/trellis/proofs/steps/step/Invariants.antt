use Rattle.std.proofs.Common.{◌≡◌, ℕ, ◌+◌, ◌*◌, ◌^◌, ◌≤◌, length, ◌-◌}
use Rattle.algebra.specs.Words.{word}
use Rattle.cosets.specs.States.{moved}
use Rattle.trellis.proofs.steps.step.Given as goal

abbrev pub invariant-loop-check : goal.invariant-loop-check
invariant-loop-check g l =
    let f = g.F.Field.ops in
    let left : ℕ = length l.column - length l.yielded in
    (goal.iterator-loop-check g).can_next l.check-iterator ×
    (goal.iterator-loop-check g).is_finite l.check-iterator ×
    (l.to + moved f (word l.column) left l.rest l.x * l.unit ≡ moved f (word l.column) (length l.column) l.state l.x) ×
    (l.unit ≡ f.order ^ length l.yielded) × (length l.yielded ≤ length l.column)
