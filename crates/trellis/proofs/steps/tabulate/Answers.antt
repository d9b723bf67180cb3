use Rattle.std.proofs.Common.{◌≡◌, ◌+◌, ◌*◌, ◌^◌, length, get_or, sym, ap, ◌∙◌, ap₂, pow-suc, zero-mul, add-one, arith}
use native.Mathlib.Nat.{pow-zero}
use Rattle.std.proofs.lemmas.List.{get_or-set_same, length-set}
use Rattle.algebra.specs.Words.{word}
use Rattle.algebra.proofs.Symbols.{zero_symbol}
use Rattle.trellis.proofs.Powers.{power_positive, power_more}
use Rattle.trellis.proofs.Stepping.{step_small, tabulated_more}
use Rattle.trellis.proofs.steps.tabulate.Goals as goal

pub bounds-out-0 : goal.bounds-out-0
bounds-out-0 g c = omega (arith, power_positive g.F.Field.ops.order (length c.args.column.now) (zero_symbol g.F.Field.laws))

pub loop-check-init : goal.loop-check-init
loop-check-init g c =
    let q = g.F.Field.ops.order in
    let out = c.args.out.now in (
      sym (pow-zero q),
      (λ s h. let none : s ≡ 0 = omega (arith, pow-zero q) in rw none (get_or-set_same out 0 0 0 (omega (arith, power_positive q (length c.args.column.now) (zero_symbol g.F.Field.laws))) ∙ sym (zero-mul c.args.unit))),
    )

pub widen-requires : goal.widen-requires
widen-requires g c =
    let f = g.F.Field.ops in
    let l = g.F.Field.laws in
    let d = c.loop-check.check-index in
    let out = c.args.out.now in
    let digits = length c.args.column.now in
    let long : length c.loop-check.out ≡ length out = c.loop-check.auto.out ∙ length-set out 0 0 in
    let count = c.loop-check.invariant.0 in
    record {
      room = rw count (omega (arith, power_more f.order d digits (zero_symbol l) (omega arith)));
      small = λ u h. rw (c.loop-check.invariant.1 u (rw count at h)) (step_small f l (word c.args.column.now) d digits u c.args.x c.args.unit (omega arith) c.requires.small);
    }

pub overflow_mul-count : goal.overflow_mul-count
overflow_mul-count g c =
    let q = g.F.Field.ops.order in
    let d = c.loop-check.check-index in
    let digits = length c.args.column.now in
    let is : c.loop-check.count * c.order.result ≡ q ^ d * q = ap₂ (λ a b. a * b) c.loop-check.invariant.0 c.order.ensures in
    omega (arith, power_more q d digits (zero_symbol g.F.Field.laws) (omega arith))

pub loop-check-preserved : goal.loop-check-preserved
loop-check-preserved g c =
    let f = g.F.Field.ops in
    let d = c.loop-check.check-index in
    let count = c.loop-check.invariant.0 in
    rw add-one (
      ap₂ (λ a b. a * b) count c.order.ensures ∙ sym (pow-suc f.order d),
      tabulated_more f g.F.Field.laws (word c.args.column.now) d c.args.x c.args.unit c.loop-check.out c.widen.new.out c.loop-check.invariant.1
          (λ u y b symbol. c.widen.ensures u y (omega arith) symbol ∙ ap (λ a. get_or c.loop-check.out u 0 * f.order + f.sum y a * c.args.unit) c.product.ensures),
    )
