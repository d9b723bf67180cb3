use Rattle.std.proofs.Common.{◌≡◌, ◌<◌, length, take, sym, ◌∙◌, ap₂}
use Rattle.algebra.specs.Words.{word, cells}
use Rattle.algebra.proofs.Cells.{product_as_symbol}
use Rattle.algebra.proofs.Totals.{total_more}
use Rattle.linear.specs.Rows.{symbols}
use Rattle.linear.proofs.Taken.{taken_symbols}
use Rattle.generator.specs.Parts.{rows_of}
use Rattle.generator.proofs.Generator.codeword_at.Goals as goal

pub loop-j-preserved : goal.loop-j-preserved
loop-j-preserved g c =
    let f = g.F.Field.ops in
    let s = c.args.self.now in
    let j = c.loop-j.j in
    let p = c.args.p in
    let w = word c.args.message.now in
    let held : j < length (take s.k s.rows) = c.loop-j-test.true in
    let symbol : c.at-in-loop-j.result ≡ cells (symbols s.rows) j p = rw (taken_symbols s.rows s.k j) at c.at-in-loop-j.ensures in
    c.sum-sum.ensures
    ∙ ap₂ f.sum c.loop-j.invariant
    (c.product.ensures ∙ ap₂ f.product c.at.ensures symbol ∙ sym (product_as_symbol f g.F.Field.laws (w j) (cells (symbols s.rows) j p)))
    ∙ sym (total_more f (λ i. f.product (w i) (rows_of f s i p)) j)
