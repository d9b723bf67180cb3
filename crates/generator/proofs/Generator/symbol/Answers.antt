use Rattle.std.proofs.Common.{◌≡◌, ◌<◌, length, take, get_or, ap, ◌∙◌, arith}
use Rattle.std.proofs.lemmas.Grind.{common_steps}
use Rattle.std.proofs.lemmas.List.{length-take}
use Rattle.algebra.specs.Words.{word, cells}
use Rattle.algebra.proofs.Symbols.{one_times}
use Rattle.linear.specs.Rows.{symbols}
use Rattle.linear.proofs.Taken.{taken_symbols}
use Rattle.generator.proofs.Generator.symbol.Goals as goal

pub returns-in-Some : goal.returns-in-Some
returns-in-Some g c =
    let f = g.F.Field.ops in
    let s = c.args.self.now in
    let found = c.in-Some.ensures.lookup in
    let here : c.args.j < s.k = omega (arith, length-take s.k s.rows, found) in
    let held : c.args.j < length (take s.k s.rows) = omega (arith, found) in
    let same : c.in-Some.row.now ≡ get_or (take s.k s.rows) c.args.j c.in-Some.row.now = grind (arith, common_steps, found) in
    let symbol : c.at.result ≡ cells (symbols s.rows) c.args.j c.args.p = c.at.ensures ∙ ap (λ r. word r.symbols c.args.p) same ∙ ap (λ r. word r c.args.p) (taken_symbols s.rows s.k c.args.j c.in-Some.row.now held) in
    let is = c.product.ensures ∙ ap (f.product 1) symbol ∙ one_times f g.F.Field.laws (cells (symbols s.rows) c.args.j c.args.p) in
    ((λ _. is), (λ h. absurd (omega arith)))
