use Rattle.std.proofs.Common.{rules}
use Rattle.field.proofs.Tables.{in_row}
use Rattle.field.proofs.binary.PolynomialsField.inverse.Goals as goal

pub returns-then-a-order : goal.returns-then-a-order
returns-then-a-order g c = search (rules, in_row)
