use Rattle.std.proofs.Common.{ℕ, get_or, refl, ap, ◌∙◌, rules, arith}
use Rattle.std.proofs.lemmas.Iterator.{YieldsList-from_range}
use Rattle.std.proofs.lemmas.Iterator.Consumers.{fold_from_yields_List}
use Rattle.algebra.specs.Words.{total}
use Rattle.generator.specs.Parts.{size, check_row_of}
use Rattle.generator.proofs.Folding.{fold_total}
use Rattle.generator.proofs.Generator.syndrome_symbol.Goals as goal

pub returns : goal.returns
returns g c =
    let f = g.F.Field.ops in
    let s = c.args.self.now in
    let term : ℕ → ℕ = λ p. f.product (get_or c.args.word.now p 0) (check_row_of f s c.args.place p) in
    fold_from_yields_List _ (λ t p. f.sum t (term p)) 0 c.fold.result c.fold.ensures.ran (YieldsList-from_range 0 (size s) (size s) refl (omega arith)) (λ t p r q k. search rules)
    ∙ fold_total f term (size s) 0 ∙ ap (total f term) (omega arith)
