use Rattle.std.proofs.Common.{arith}
use Rattle.notation.proofs.Lines.{says_with, says_alone}
use Rattle.notation.proofs.command.read_command.Goals as goal

pub returns-in-Some : goal.returns-in-Some
returns-in-Some c =
    says_with c.args.line.now c.in-Some.name.now c.in-Some.text.now (omega arith) c.in-Some.ensures c.command_with.result c.command_with.ensures

pub returns-in-None : goal.returns-in-None
returns-in-None c =
    says_alone c.args.line.now (omega arith) c.in-None.ensures c.command_alone.result c.command_alone.ensures
