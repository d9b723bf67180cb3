use Rattle.std.proofs.Common.{◌<◌, [], ◌∙◌, length, get_or, set, arith, rules}
use Rattle.std.proofs.lemmas.List.{length-set}
use Rattle.algebra.specs.Words.{cells}
use Rattle.algebra.specs.Elimination.{Swapped, Scaled}
use Rattle.algebra.proofs.Cells.{cells_set_same, cells_set_other, scaled_all}
use Rattle.algebra.proofs.Elimination.{pivots}
use Rattle.linear.proofs.Closed.{inverse_closed}
use Rattle.linear.proofs.elimination.make_pivot.Goals as goal

pub returns : goal.returns
returns g c =
    let f = g.F.Field.ops in
    let l = g.F.Field.laws in
    let old = c.args.rows.now in
    let raised = c.swap.new.self in
    let rank = c.args.rank in
    let factor = c.inverse-factor.result in
    let new = c.scale.new.row in
    let symbol : factor < f.order = rw c.inverse-factor.ensures (inverse_closed f l _) in
    let swapped : Swapped (cells old) (cells raised) rank c.args.j = search rules in
    let scaled : Scaled f (cells raised) (cells (set raised rank new)) rank factor = (
      (λ k. cells_set_same raised rank new k (omega arith) ∙ scaled_all f l (get_or raised rank []) new factor symbol (omega arith) c.scale.ensures k),
      (λ h k n. cells_set_other raised rank new h k n),
    ) in
    pivots f l (length old) (cells old) (cells raised) (cells (set raised rank new)) (cells c.clear_column.new.rows) rank c.args.j c.args.p factor
    c.requires.below c.requires.row_held c.requires.pivot swapped c.inverse-factor.ensures scaled
    (let d = c.clear_column.ensures in let long = length-set raised rank new in (d.0, (λ h k b n. d.1 h k (omega arith) n), (λ h k b. d.2 h k (omega arith))))
