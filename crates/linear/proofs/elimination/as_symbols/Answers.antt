use Rattle.std.proofs.Common.{◌≡◌, ◌<◌, [], length, get_or, sym, ap, ◌∙◌, inl, inr, arith}
use Rattle.std.proofs.lemmas.List.{get_or-set_other, get_or_past}
use Rattle.std.proofs.lemmas.Bool.{cases_eq, cases_lt}
use Rattle.algebra.specs.Words.{word, cells, symbol}
use Rattle.algebra.proofs.Symbols.{one_symbol, one_times, symbol_zero}
use Rattle.algebra.proofs.Cells.{cells_set_same, cells_set_other, scaled_all}
use Rattle.linear.proofs.elimination.as_symbols.Goals as goal

pub loop-row-preserved : goal.loop-row-preserved
loop-row-preserved g c =
    let f = g.F.Field.ops in
    let l = g.F.Field.laws in
    let old = c.args.rows.now in
    let rows = c.loop-row.rows in
    let i = c.loop-row.row-index in
    let new = c.scale.new.row in
    let lt : i < length rows = omega arith in
    let same : get_or rows i [] ≡ get_or old i [] = c.loop-row.invariant.1 i (omega arith) in (
      (λ j k b. elim (cases_eq j i) [
        | inl e ↦ rw e (cells_set_same rows i new k lt ∙ scaled_all f l (get_or rows i []) new 1 (one_symbol l) (omega arith) c.scale.ensures k
            ∙ ap (λ r. f.product 1 (word r k)) same ∙ one_times f l (cells old i k))
        | inr n ↦ cells_set_other rows i new j k n ∙ c.loop-row.invariant.0 j k (omega arith)
      ]),
      (λ j b. get_or-set_other rows i j new [] (omega arith) ∙ c.loop-row.invariant.1 j (omega arith)),
    )

pub returns : goal.returns
returns g c i k =
    let f = g.F.Field.ops in
    let old = c.args.rows.now in
    elim (cases_lt i c.loop-row.row-index) [
      | inl h ↦ c.loop-row.invariant.0 i k h
      | inr h ↦ ap (λ r. word r k) (get_or_past c.loop-row.rows i [] (omega arith))
          ∙ sym (ap (λ r. symbol f (word r k)) (get_or_past old i [] (omega arith)) ∙ symbol_zero f g.F.Field.laws)
    ]
