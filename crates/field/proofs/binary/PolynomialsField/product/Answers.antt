use Rattle.std.proofs.Common.{rules}
use Rattle.field.proofs.Tables.{in_table}
use Rattle.field.proofs.binary.PolynomialsField.product.Goals as goal

pub returns-then-b-order : goal.returns-then-b-order
returns-then-b-order g c = search (rules, in_table)
