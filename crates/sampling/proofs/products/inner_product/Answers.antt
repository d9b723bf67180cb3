use Rattle.std.proofs.Common.{◌≡◌, ℕ, ap, ◌∙◌, rules}
use Rattle.std.specs.List.{fold, zip}
use Rattle.std.specs.Slice.Iter.{iter_rest}
use Rattle.std.proofs.lemmas.Iterator.{YieldsList-from_slice, YieldsList-from_zip}
use Rattle.std.proofs.lemmas.Iterator.Consumers.{fold_from_yields_List}
use Rattle.sampling.proofs.Totals.{fold_total}
use Rattle.sampling.proofs.products.inner_product.Goals as goal

pub returns : goal.returns
returns g c =
    let f = g.F.Field.ops in
    let add : ℕ → ℕ × ℕ → ℕ = λ s p. f.sum s (f.product p.0 p.1) in
    let pairs = YieldsList-from_zip {s = c.zip.result} (YieldsList-from_slice c.args.a.now (ap iter_rest c.zip.ensures.first ∙ c.iter.ensures.rest)) (YieldsList-from_slice c.args.b.now c.zip.ensures.second.0) in
    let e : c.fold.result ≡ fold add 0 (zip c.args.a.now c.args.b.now) =
    fold_from_yields_List _ add 0 c.fold.result c.fold.ensures.ran pairs (λ a x b q k. search rules) in
    e ∙ fold_total f c.args.a.now c.args.b.now
