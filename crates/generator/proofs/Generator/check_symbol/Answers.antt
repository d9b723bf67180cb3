use Rattle.std.proofs.Common.{◌≡◌, ℕ, sym, ap, ◌∙◌}
use Rattle.std.proofs.lemmas.Bool.{cond-false, ne_eqb}
use Rattle.algebra.specs.Checks.{at_information}
use Rattle.algebra.proofs.Checks.{information_own, information_other, informs_none}
use Rattle.generator.specs.Parts.{dimension, rows_of, places_of}
use Rattle.generator.proofs.Generator.check_symbol.Goals as goal

pub returns-in-Some : goal.returns-in-Some
returns-in-Some g c =
    let f = g.F.Field.ops in
    let s = c.args.self.now in
    let at = places_of s in
    let v : ℕ → ℕ = λ i. f.negative (rows_of f s i c.args.place) in
    let j = c.in-Some.j in
    let is = c.in-Some.ensures in
    let own : at_information at (dimension s) v (at j) ≡ v j = information_own at v (dimension s) (λ x y a b. s.ascends x y (a, b)) j is.0 in
    let here : at_information at (dimension s) v c.args.p ≡ v j = rw is.1 at own in
    c.negative.ensures ∙ ap f.negative (c.symbol.ensures.0 is.0) ∙ sym here ∙ sym (cond-false _ _ _ (ne_eqb _ _ c.if-p-place.false))

pub returns-in-None : goal.returns-in-None
returns-in-None g c =
    let f = g.F.Field.ops in
    let s = c.args.self.now in
    let at = places_of s in
    let v : ℕ → ℕ = λ i. f.negative (rows_of f s i c.args.place) in
    sym (information_other at v (dimension s) c.args.p (informs_none at (dimension s) c.args.p c.in-None.ensures)) ∙ sym (cond-false _ _ _ (ne_eqb _ _ c.if-p-place.false))
