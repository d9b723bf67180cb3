use Rattle.std.proofs.Common.{sym, subst}
use Rattle.notation.specs.declared.command.Order.{Order}
use Rattle.panel.specs.declared.session.Panel.TheVariants.{Four, Sixteen}
use Rattle.panel.specs.Replies.{Chosen}
use Rattle.panel.proofs.Opening.{opens}
use Rattle.panel.proofs.session.choose.Goals as goal

pub returns-in-Four : goal.returns-in-Four
returns-in-Four c =
    subst (λ (q : Order). Chosen q c.args.length c.map-in-Four.result) (sym c.in-Four.is)
    (opens _ Four c.args.length c.open-in-Four.result c.map-in-Four.result c.open-in-Four.ensures c.map-in-Four.ensures.cases)

pub returns-in-Sixteen : goal.returns-in-Sixteen
returns-in-Sixteen c =
    subst (λ (q : Order). Chosen q c.args.length c.map-in-Sixteen.result) (sym c.in-Sixteen.is)
    (opens _ Sixteen c.args.length c.open-in-Sixteen.result c.map-in-Sixteen.result c.open-in-Sixteen.ensures c.map-in-Sixteen.ensures.cases)
