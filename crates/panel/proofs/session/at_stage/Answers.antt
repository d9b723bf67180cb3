use Rattle.std.proofs.Common.{sym, refl, subst}
use Rattle.panel.specs.declared.session.Stage.{Stage}
use Rattle.panel.specs.declared.session.Stage.TheVariants.{Sealed}
use Rattle.panel.specs.Replies.{AtStage}
use Rattle.panel.proofs.session.at_stage.Goals as goal

pub returns-in-Sealed : goal.returns-in-Sealed
returns-in-Sealed g c =
    let step = c.at_code-answer in
    let P : Stage g.row.F.Denot → Type 0 = λ s. AtStage g.F.Field.ops s c.args.command.now c.args.work.now (Sealed step.new.code) step.result step.new.work in
    subst P (sym c.in-Sealed.is) (step.new.code, refl, step.ensures)
