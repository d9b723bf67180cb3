use Rattle.std.proofs.Common.{rules}
use Rattle.notation.specs.declared.command.Command.TheVariants.{Kind, Row, Back, Seal, Send, Hear, Distance, Noise}
use Rattle.notation.specs.Commands.{Alone}
use Rattle.notation.proofs.command.command_alone.Goals as goal

pub returns-in_default : goal.returns-in_default
returns-in_default c = λ y.
    elim y as (λ v. Alone c.args.name.now v → ⊥) [
      | Back ↦ λ e. search rules
      | Seal ↦ λ e. search rules
      | Distance ↦ λ e. search rules
      | Noise ↦ λ e. search rules
      | Kind q n ↦ λ e. e
      | Row w ↦ λ e. e
      | Send w ↦ λ e. e
      | Hear w ↦ λ e. e
    ]
