use Rattle.std.proofs.Common.{refl}
use Rattle.code.specs.Drafts.{fresh}
use Rattle.panel.proofs.session.open.Goals as goal

pub returns : goal.returns
returns g c = let t = c.in_ok-set_length.ensures.told fresh c.new-draft.ensures.holds in (c.set_length.new.self, refl, t.0, t.1)
