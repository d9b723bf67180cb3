use Rattle.std.proofs.Common.{ℕ, List, Some, sym, refl, subst}
use Rattle.notation.specs.declared.command.Command.{Command}
use Rattle.panel.specs.Calls.{Heard}
use Rattle.panel.specs.Replies.{AtCode}
use Rattle.panel.proofs.session.at_code.Goals as goal

pub returns-in-Hear : goal.returns-in-Hear
returns-in-Hear g c =
    let f = g.F.Field.ops in
    let code = c.args.code.now in
    let next = c.hear.new.code in
    let was = c.args.work.now in
    let left = c.hear.new.work in
    let W : List ℕ → Type 0 = λ w. Heard f code w was next c.hear.result left in
    let P : Command → Type 0 = λ k. AtCode f code k was next (Some c.hear.result) left in
    subst P (sym c.in-Hear.is) (c.hear.result, refl, subst W c.symbols-in-Hear.ensures.value c.hear.ensures)
