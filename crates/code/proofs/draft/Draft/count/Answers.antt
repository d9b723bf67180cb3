use Rattle.std.proofs.Common.{◌∙◌}
use Rattle.code.proofs.Holding.{holds_independent}
use Rattle.code.proofs.Standing.{stands}
use Rattle.code.proofs.draft.Draft.count.Goals as goal

pub returns : goal.returns
returns g c =
    let f = g.F.Field.ops in
    let l = g.F.Field.laws in
    let b = c.args.self.now.basis in
    record {
      told = λ s h. c.count.ensures ∙ h.all;
      some = stands f l b;
      independent = λ s h. holds_independent f l b s h;
    }
