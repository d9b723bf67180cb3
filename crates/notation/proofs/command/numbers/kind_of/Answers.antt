use Rattle.std.proofs.Common.{ℕ, Option, sym, subst}
use Rattle.notation.specs.Commands.{KindOf}
use Rattle.notation.specs.Only.{Only}
use Rattle.notation.specs.declared.command.Order.{Order}
use Rattle.notation.proofs.Lines.{kind_parted, kind_unparted}
use Rattle.notation.proofs.command.numbers.kind_of.Goals as goal

pub returns-in_err-order : goal.returns-in_err-order
returns-in_err-order c =
    let text = c.args.text.now in
    subst (λ (o : Option (Order × ℕ)). Only (KindOf text) o) (sym c.from_residual.ensures) (kind_unparted text c.in_err-order.ensures)

pub returns : goal.returns
returns c =
    let text = c.args.text.now in
    subst (λ (o : Option (Order × ℕ)). Only (KindOf text) o) (sym c.zip.ensures)
    (kind_parted text c.in_ok-order.order.now c.in_ok-order.length.now c.in_ok-order.ensures
    c.order_of.result c.number_of.result c.order_of.ensures c.number_of.ensures)
