use Rattle.std.proofs.Common.{◌≡◌, ℕ, ◌+◌, ◌<◌, get_or, length}
use Rattle.sampling.specs.Numbers.{state_after, drawn}
use Rattle.sampling.proofs.numbers.Numbers.word.Given as goal

abbrev pub invariant-loop-number : goal.invariant-loop-number
invariant-loop-number g l = record {
  long : length l.number-items ≡ g.row.N;
  state : l.self.state ≡ state_after l.fn.self.state l.number-index;
  values : (p : ℕ) → p < l.number-index → get_or l.number-items p 0 ≡ drawn l.count (state_after l.fn.self.state (p + 1));
}
