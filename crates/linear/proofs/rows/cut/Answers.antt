use Rattle.std.proofs.Common.{rules, ◌≡◌}
use borrow.Author.Tests.{tests}
use Rattle.algebra.specs.Words.{word, cut}
use Rattle.algebra.proofs.Cuts.{cut_inside, cut_past}
use Rattle.algebra.proofs.Symbols.{one_times}
use Rattle.linear.proofs.Made.{made_at}
use Rattle.linear.proofs.rows.cut.Goals as goal

pub returns : goal.returns
returns g c k b =
    let f = g.F.Field.ops in
    let w = word c.args.word.now in
    let n = c.args.n in
    made_at _ _ (λ i x. x ≡ cut f n w i) (λ i y q h. search (rules, tests, cut_inside f n w, cut_past f n w, one_times f g.F.Field.laws)) _ 24 c.from_fn.ensures.items k 0 b
