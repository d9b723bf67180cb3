use Rattle.std.proofs.Common.{◌≡◌, ◌<◌, [], length, refl, ap, ◌∙◌, inl, inr, arith}
use Rattle.std.proofs.lemmas.List.{length-set, length-take, get_or-take}
use Rattle.std.proofs.lemmas.Bool.{cases_eq}
use Rattle.algebra.specs.Words.{word, cut}
use Rattle.algebra.proofs.Cells.{blank_cells, cells_set_same, cells_set_other}
use Rattle.algebra.proofs.Cuts.{cut_everywhere}
use Rattle.generator.proofs.making.framed.Goals as goal

pub loop-i-init : goal.loop-i-init
loop-i-init g c = (refl, (λ i p h. absurd (omega arith)), (λ i p h. blank_cells 24 24 i p))

pub loop-i-preserved : goal.loop-i-preserved
loop-i-preserved g c =
    let f = g.F.Field.ops in
    let rows = c.args.rows.now in
    let table = c.loop-i.table in
    let i = c.loop-i.i in
    let n = c.args.n in
    let row = c.cut.result in
    let here : i < c.args.count = omega (arith, length-take c.args.count rows) in
    let wide : length row ≡ 24 = search arith in (
      length-set table i row ∙ c.loop-i.invariant.0,
      (λ j p h. elim (cases_eq j i) [
        | inl e ↦ rw e (cells_set_same table i row p (omega arith) ∙ cut_everywhere f n 24 _ row c.requires.short wide c.cut.ensures p ∙ ap (λ r. cut f n (word r) p) (get_or-take c.args.count rows i [] here))
        | inr q ↦ cells_set_other table i row j p q ∙ c.loop-i.invariant.1 j p (omega arith)
      ]),
      (λ j p h. cells_set_other table i row j p (omega arith) ∙ c.loop-i.invariant.2 j p (omega arith)),
    )
