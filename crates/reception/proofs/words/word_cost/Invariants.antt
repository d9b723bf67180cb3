use Rattle.std.proofs.Common.{◌≡◌, ◌*◌, ◌≤◌}
use Rattle.reception.specs.Costs.{word_cost, symbol_at}
use Rattle.reception.proofs.words.word_cost.Given as goal

abbrev pub invariant-loop-place : goal.invariant-loop-place
invariant-loop-place g l = (l.total ≤ 65535 * l.place) × (l.total ≡ word_cost (g.R.Reception.costs l.reception) l.place (symbol_at l.word))
