use Rattle.std.proofs.Common.{◌≡◌, codes, None, Option, sym, subst, rules, arith}
use Rattle.std.proofs.lemmas.Slice.Eq.{text_from_reads}
use Rattle.std.specs.Option.{option_map}
use Rattle.notation.specs.Commands.{With}
use Rattle.notation.specs.Only.{Only}
use Rattle.notation.specs.declared.command.Command.{Command}
use Rattle.notation.specs.declared.command.Command.TheVariants.{Row, Send, Hear}
use Rattle.notation.proofs.Named.{kind, row, send, hear}
use Rattle.notation.proofs.command.command_with.Goals as goal

pub returns-in_err-order-in-kind : goal.returns-in_err-order-in-kind
returns-in_err-order-in-kind c =
    let is : c.args.name.now ≡ codes "kind" = text_from_reads c.args.name.now (codes "kind") (search rules) (omega arith, (omega arith, (omega arith, (omega arith, tt)))) in
    subst (λ (o : Option Command). Only (With c.args.name.now c.args.text.now) o) (sym c.from_residual.ensures) (kind c.args.name.now c.args.text.now is None c.in_err-order-in-kind.ensures)

pub returns-in-row : goal.returns-in-row
returns-in-row c =
    let name = c.args.name.now in
    let text = c.args.text.now in
    let is : name ≡ codes "row" = text_from_reads name (codes "row") (search rules) (omega arith, (omega arith, (omega arith, tt))) in
    let mapped : c.map.result ≡ option_map Row c.read_word.result = search rules in
    subst (λ (o : Option Command). Only (With name text) o) (sym mapped) (row name text is c.requires c.read_word.result c.read_word.ensures)

pub returns-in-send : goal.returns-in-send
returns-in-send c =
    let name = c.args.name.now in
    let text = c.args.text.now in
    let is : name ≡ codes "send" = text_from_reads name (codes "send") (search rules) (omega arith, (omega arith, (omega arith, (omega arith, tt)))) in
    let mapped : c.map-in-send.result ≡ option_map Send c.read_word-in-send.result = search rules in
    subst (λ (o : Option Command). Only (With name text) o) (sym mapped) (send name text is c.requires c.read_word-in-send.result c.read_word-in-send.ensures)

pub returns-in-hear : goal.returns-in-hear
returns-in-hear c =
    let name = c.args.name.now in
    let text = c.args.text.now in
    let is : name ≡ codes "hear" = text_from_reads name (codes "hear") (search rules) (omega arith, (omega arith, (omega arith, (omega arith, tt)))) in
    let mapped : c.map-in-hear.result ≡ option_map Hear c.read_word-in-hear.result = search rules in
    subst (λ (o : Option Command). Only (With name text) o) (sym mapped) (hear name text is c.requires c.read_word-in-hear.result c.read_word-in-hear.ensures)
