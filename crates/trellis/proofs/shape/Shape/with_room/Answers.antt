use Rattle.std.proofs.Common.{◌≡◌, ◌+◌, ◌*◌, refl, ◌∙◌, ap, ap₂, inl, inr, Some, arith}
use Rattle.trellis.specs.Rooms.{needed}
use Rattle.trellis.proofs.Shaping.{states_are, few_cosets}
use Rattle.trellis.proofs.shape.Shape.with_room.Goals as goal

pub returns-then-words-needed : goal.returns-then-words-needed
returns-then-words-needed g c =
    let f = g.F.Field.ops in
    let gen = c.args.generator.now in
    let shaped = c.in-Some.ensures in
    let e : (2 * c.length-n.result + 2) * c.states.result ≡ needed f gen = ap₂ (λ n m. (2 * n + 2) * m) c.length-n.ensures (c.states.ensures ∙ states_are f gen c.in-Some.shape shaped) in
    inr ((λ h. omega (arith, few_cosets f gen c.in-Some.shape shaped)), inl (omega (arith, e), refl, ap (λ k. Some k) e))

pub returns : goal.returns
returns g c =
    let f = g.F.Field.ops in
    let gen = c.args.generator.now in
    let shaped = c.in-Some.ensures in
    let e : (2 * c.length-n.result + 2) * c.states.result ≡ needed f gen = ap₂ (λ n m. (2 * n + 2) * m) c.length-n.ensures (c.states.ensures ∙ states_are f gen c.in-Some.shape shaped) in
    ((λ h. omega (arith, few_cosets f gen c.in-Some.shape shaped)), ((λ h. omega (arith, e)), shaped))
