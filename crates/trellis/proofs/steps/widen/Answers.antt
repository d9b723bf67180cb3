use Rattle.std.proofs.Common.{◌≡◌, ℕ, ◌+◌, ◌-◌, ◌*◌, ◌≤◌, length, get_or, ap, ◌∙◌, ap₂, inl, inr, arith}
use Rattle.std.proofs.lemmas.Bool.{cases_eq}
use Rattle.algebra.proofs.Symbols.{zero_symbol}
use Rattle.trellis.proofs.Splicing.{length_part, put_before, put_in, put_after}
use Rattle.trellis.proofs.Stepping.{at_least, later}
use Rattle.trellis.proofs.steps.widen.Goals as goal

pub offset_bounds-out-u : goal.offset_bounds-out-u
offset_bounds-out-u g c = omega (arith, at_least g.F.Field.ops.order c.args.count (zero_symbol g.F.Field.laws))

pub bounds-out-u : goal.bounds-out-u
bounds-out-u g c = omega (arith, at_least g.F.Field.ops.order c.args.count (zero_symbol g.F.Field.laws))

pub spread-requires-clause-small : goal.spread-requires-clause-small
spread-requires-clause-small g c =
    let q = g.F.Field.ops.order in
    let u : ℕ = c.loop-u.u - 1 in
    let old : get_or c.loop-u.out u 0 * c.order-q.result ≡ get_or c.args.out.now u 0 * q = ap₂ (λ a b. a * b) (c.loop-u.invariant.1 u (omega arith)) c.order-q.ensures in
    rw old (c.requires.small u (omega arith))

pub loop-u-preserved : goal.loop-u-preserved
loop-u-preserved g c =
    let q = g.F.Field.ops.order in
    let f = g.F.Field.ops in
    let o = c.order-q.result in
    let u : ℕ = c.loop-u.u - 1 in
    let a : ℕ = u * o in
    let k : ℕ = u * o + o - u * o in
    let is = c.loop-u.out in
    let new = c.spread.new.out in
    let same : o ≡ q = c.order-q.ensures in
    let wide : k ≡ q = omega arith in
    let at : a ≡ u * q = ap (λ b. u * b) same in
    let room : a + k ≤ length is = omega (arith, later q u c.args.count (omega arith)) in
    let long : length new ≡ k = omega (arith, length_part a k is room) in
    let old : get_or is u 0 * o ≡ get_or c.args.out.now u 0 * q = ap₂ (λ a b. a * b) (c.loop-u.invariant.1 u (omega arith)) same in (
      (λ v y from below symbol. elim (cases_eq v u) [
        | inl e ↦
            let place : u * q + y ≡ a + y = omega arith in
            rw (e, place) (put_in a k is new room long y (omega arith) ∙ c.spread.ensures y (omega arith) ∙ ap (λ a. a + f.sum y c.args.added * c.args.unit) old)
        | inr n ↦ put_after a k is new room long (v * q + y) (omega (arith, later q u v (omega arith))) ∙ c.loop-u.invariant.0 v y (omega arith) below symbol
      ]),
      (λ s h. put_before a k is new room long s (omega (arith, at_least q u (zero_symbol g.F.Field.laws))) ∙ c.loop-u.invariant.1 s (omega arith)),
    )
