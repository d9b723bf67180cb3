use Rattle.std.proofs.Common.{length, arith}
use Rattle.algebra.specs.Words.{word, cells, symbol_cells}
use Rattle.algebra.specs.Elimination.{Reduction}
use Rattle.algebra.proofs.Cells.{symbol_rows}
use Rattle.algebra.proofs.Forms.{reduction_of, only_form, first_place}
use Rattle.linear.proofs.elimination.reduce.Goals as goal

pub eliminate-requires : goal.eliminate-requires
eliminate-requires g c i k = rw (c.as_symbols.ensures i k) (symbol_rows g.F.Field.ops g.F.Field.laws c.args.rows.now i k)

pub returns : goal.returns
returns g c =
    let f = g.F.Field.ops in
    let l = g.F.Field.laws in
    let m = length c.args.rows.now in
    let start = symbol_cells f c.args.rows.now in
    let rs = cells c.eliminate.new.rows in
    let rank = c.eliminate.result.rank in
    let at = word c.eliminate.result.places in
    let all : Reduction f 24 m start rs rank at =
    reduction_of f l 24 (length c.as_symbols.new.rows) m (cells c.as_symbols.new.rows) start rs rank at (omega arith) c.as_symbols.ensures c.eliminate.ensures in
    record {
      form = all;
      only = only_form f l m start (symbol_rows f l c.args.rows.now) rank rs all.symbols at all.form;
      first = first_place f l m start (symbol_rows f l c.args.rows.now) rank rs all.symbols at all.form;
    }
