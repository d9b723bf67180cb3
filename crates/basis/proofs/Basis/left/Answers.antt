use Rattle.std.proofs.Common.{◌<◌, ap, ◌∙◌, rules, arith}
use Rattle.algebra.specs.Words.{word, cut, Span}
use Rattle.algebra.proofs.Cells.{scaled_all}
use Rattle.algebra.proofs.Cuts.{cut_symbols}
use Rattle.algebra.proofs.Growing.{spanned_from_zero}
use Rattle.basis.specs.Parts.{size, count, rows_of, pivots_of}
use Rattle.basis.proofs.Triangles.{symbols_of, triangular}
use Rattle.basis.proofs.Basis.left.Goals as goal

pub returns-in_err-place : goal.returns-in_err-place
returns-in_err-place g c =
    let f = g.F.Field.ops in
    let l = g.F.Field.laws in
    let s = c.args.self.now in
    let w = word c.args.word.now in
    let spanned : Span f (count s) (rows_of f s) (cut f (size s) w) =
    spanned_from_zero f l (rows_of f s) (symbols_of f l s) (pivots_of s) (cut f (size s) w) (cut_symbols f l (size s) w) (count s) (triangular f l s)
    (word c.remainder-symbols.result) c.remainder-symbols.ensures.rest c.in_err-place.ensures in
    search (rules, spanned)

pub returns : goal.returns
returns g c =
    let f = g.F.Field.ops in
    let l = g.F.Field.laws in
    let rest = c.remainder-symbols.result in
    let factor = c.inverse-factor.result in
    let remainder = c.remainder-symbols.ensures.rest in
    let symbol : factor < f.order = rw c.inverse-factor.ensures (l.inverse_symbol _ (remainder.symbols c.in_ok-place.place)) in
    record {
      rest = word rest;
      remainder = remainder;
      past = c.remainder-symbols.ensures.ends;
      some = c.in_ok-place.ensures.1;
      is = λ k. scaled_all f l rest c.scale.new.row factor symbol (omega arith) c.scale.ensures k ∙ ap (λ x. f.product x (word rest k)) c.inverse-factor.ensures;
    }
