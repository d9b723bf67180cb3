use Rattle.std.proofs.Common.{rules}
use Rattle.code.specs.Drafts.{fresh, Holds}
use Rattle.code.specs.Histories.{Leads}
use Rattle.code.proofs.draft.Draft.new.Goals as goal

pub returns : goal.returns
returns g c =
    let holds : Holds g.F.Field.ops c.empty.result fresh = search rules in
    record { holds = holds; follows = (fresh, Leads.none, holds) }
