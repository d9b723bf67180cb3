use Rattle.std.proofs.Common.{arith, add-one, ◌+◌, ap, ◌∙◌, rules}
use Rattle.sampling.specs.Numbers.{state_after, drawn, next_state}
use Rattle.sampling.proofs.Words.{written_more}
use Rattle.sampling.proofs.numbers.Numbers.word.Goals as goal

pub loop-number-preserved : goal.loop-number-preserved
loop-number-preserved g c =
    let state = ap next_state c.loop-number.invariant.state in
    let now = c.below.ensures.state ∙ state in
    record {
      long = search rules;
      state = rw add-one now;
      values = written_more _ _ _ (λ p. drawn c.args.count (state_after c.args.self.now.state (p + 1))) (omega arith) c.loop-number.invariant.values (c.below.ensures.value ∙ ap (drawn c.args.count) (rw add-one now));
    }
