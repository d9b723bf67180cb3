use Rattle.std.proofs.Common.{◌≡◌, ℕ, ◌≤◌, min, length, ◌∙◌, subst, arith}
use Rattle.std.proofs.lemmas.List.{length-map}
use Rattle.algebra.specs.Words.{word, cells, symbol_cells, cut, SymbolRows}
use Rattle.algebra.specs.Reduced.{ReducedForm}
use Rattle.algebra.specs.Elimination.{Reduction}
use Rattle.algebra.proofs.Cells.{symbol_rows}
use Rattle.algebra.proofs.Cuts.{cut_symbols}
use Rattle.algebra.proofs.Forms.{only_form, first_place}
use Rattle.linear.specs.Rows.{symbols, places}
use Rattle.generator.proofs.Framing.{reduction_kept, rows_end, places_inside, rank_fits, framed_form}
use Rattle.generator.proofs.Generator.of_rows.Goals as goal

pub invariant_of-result : goal.invariant_of-result
invariant_of-result g c =
    let f = g.F.Field.ops in
    let l = g.F.Field.laws in
    let start = c.framed-table.result in
    let table = c.reduce-rank.new.rows in
    let rank = c.reduce-rank.result.rank in
    let rows = symbols c.placed-rows.result in
    let at = word (places c.placed-rows.result) in
    let n = c.min-n.result in
    let m = c.min.result in
    let old = c.args.rows.now in
    let few : m ≤ 24 = omega arith in
    let done : Reduction f 24 24 (symbol_cells f start) (cells rows) rank at =
    reduction_kept f l 24 (length start) 24 (symbol_cells f start) (cells table) (cells rows) rank (word c.reduce-rank.result.places) at (search arith)
    c.placed-rows.ensures.same (λ i _. c.placed-rows.ensures.at i) c.reduce-rank.ensures.form in
    let long : length c.placed-rows.result ≡ 24 = search arith in
    let wide : length rows ≡ 24 = length-map c.placed-rows.result (λ r. r.symbols) ∙ long in
    let inner = c.framed-table.ensures.inner in
    let below = c.framed-table.ensures.below in
    let sys = done.form.reduced.systematic in
    record {
      short = omega arith;
      few = rank_fits f l m n few old start rows rank at wide inner below done;
      inside = places_inside f l m n few old start rows rank at wide inner below done;
      ascends = λ i j h. sys.ascends i j h.0 h.1;
      own = λ i h. sys.own i h;
      others = λ i j h. sys.others i j h.0 h.1 h.2;
      ends = rows_end f l m n few old start rows rank at wide inner below done;
    }

pub returns : goal.returns
returns g c =
    let f = g.F.Field.ops in
    let l = g.F.Field.laws in
    let start = c.framed-table.result in
    let table = c.reduce-rank.new.rows in
    let rank = c.reduce-rank.result.rank in
    let rows = symbols c.placed-rows.result in
    let at = word (places c.placed-rows.result) in
    let old = c.args.rows.now in
    let n : ℕ = min c.args.n 24 in
    let m : ℕ = min c.args.count 24 in
    let en : c.min-n.result ≡ n = c.min-n.ensures in
    let em : c.min.result ≡ m = c.min.ensures in
    let done : Reduction f 24 24 (symbol_cells f start) (cells rows) rank at =
    reduction_kept f l 24 (length start) 24 (symbol_cells f start) (cells table) (cells rows) rank (word c.reduce-rank.result.places) at (search arith)
    c.placed-rows.ensures.same (λ i _. c.placed-rows.ensures.at i) c.reduce-rank.ensures.form in
    let long : length c.placed-rows.result ≡ 24 = search arith in
    let wide : length rows ≡ 24 = length-map c.placed-rows.result (λ r. r.symbols) ∙ long in
    let form : ReducedForm f c.min.result (λ i. cut f c.min-n.result (cells old i)) rank (symbol_cells f rows) at =
    framed_form f l c.min.result c.min-n.result (omega arith) old start rows rank at wide c.framed-table.ensures.inner c.framed-table.ensures.below done in
    let form' : ReducedForm f m (λ i. cut f n (cells old i)) rank (symbol_cells f rows) at =
    subst (λ (x : ℕ). ReducedForm f m (λ i. cut f x (cells old i)) rank (symbol_cells f rows) at) en
    (subst (λ (x : ℕ). ReducedForm f x (λ i. cut f c.min-n.result (cells old i)) rank (symbol_cells f rows) at) em form) in
    let r : SymbolRows f (λ i. cut f n (cells old i)) = λ i. cut_symbols f l n (cells old i) in
    record {
      long = en;
      form = form';
      only = only_form f l m (λ i. cut f n (cells old i)) r rank (symbol_cells f rows) (symbol_rows f l rows) at form';
      first = first_place f l m (λ i. cut f n (cells old i)) r rank (symbol_cells f rows) (symbol_rows f l rows) at form';
    }
