use Rattle.std.proofs.Common.{◌≡◌, ℕ, ◌+◌, ◌<◌, List, [], length, get_or, sym, ap, ◌∙◌, subst, ap₂, arith}
use Rattle.std.proofs.lemmas.List.{set-get_or}
use Rattle.algebra.specs.Words.{word, cells}
use Rattle.algebra.proofs.Cells.{added_all}
use Rattle.linear.proofs.Closed.{negative_closed}
use Rattle.linear.proofs.Clearing.{Clearing, clearing_skip, clearing_more}
use Rattle.linear.proofs.elimination.clear_column.Goals as goal
use Rattle.linear.proofs.elimination.clear_column.Goals.{then-h-i, else-h-i}

pub loop-h-preserved : goal.loop-h-preserved
loop-h-preserved g c =
    let f = g.F.Field.ops in
    let l = g.F.Field.laws in
    let old = c.args.rows.now in
    let rows = c.loop-h.rows in
    let i = c.args.i in
    let p = c.args.p in
    let h = c.loop-h.h in
    let P : List (List ℕ) → Type 0 = λ r. Clearing f old r i p (h + 1) in
    elim c.if-h-i.branch [
      | then-h-i w ↦
          let same : get_or rows h [] ≡ get_or old h [] = c.loop-h.invariant.rest h (omega arith) in
          let factor : w.negative-factor.result ≡ f.negative (cells old h p) = w.negative-factor.ensures ∙ ap (λ r. f.negative (word r p)) same in
          let symbol : w.negative-factor.result < f.order = rw factor (negative_closed f l _) in
          let long : length (get_or rows h []) ≡ length (get_or old i []) = ap length same ∙ c.told-rows h (omega arith) ∙ sym (c.told-rows i (omega arith)) in
          subst P (sym w.rows-is)
          (clearing_more f old rows i p h c.loop-h.invariant w.add_multiple.new.row w.if-h-i.true (omega arith)
          (λ k. added_all f l (get_or rows h []) w.add_multiple.new.row (get_or old i []) w.negative-factor.result symbol (omega arith) (omega arith) w.add_multiple.ensures k
          ∙ ap₂ (λ r x. f.sum (word r k) (f.product x (cells old i k))) same factor))
      | else-h-i w ↦ subst P (sym w.rows-is) (rw (set-get_or rows h []) (clearing_skip f old rows i p h c.loop-h.invariant w.if-h-i.false))
    ]
