use Rattle.std.proofs.Common.{◌≡◌, ℕ, ◌+◌, ◌-◌, ◌*◌, ◌/◌, ◌^◌, ◌<◌, ◌≤◌, sym, ap, ◌∙◌, ap₂, arith}
use native.Mathlib.Nat.{pow-le-pow_right}
use Rattle.std.proofs.lemmas.Nat.{pow-add}
use Rattle.field.specs.Field.{Ops, Laws}
use Rattle.algebra.proofs.Symbols.{zero_symbol}
use Rattle.generator.specs.declared.Generator.{Generator}
use Rattle.generator.specs.Parts.{size}
use Rattle.cosets.specs.States.{checks, cosets}
use Rattle.trellis.proofs.Powers.{few_low, few_high}
use Rattle.trellis.proofs.shape.Shape.of.Goals as goal

-- some of the digits have more states than are allowed, and so have all
too_many : (f : Ops) → Laws f → (s : Generator) (q c d : ℕ) → q ≡ f.order → c ≡ checks s → d ≤ c → 4096 < q ^ d → 4096 < cosets f s
too_many f l s q c d eq ec h many =
    let same : q ^ d ≡ f.order ^ d = ap (λ b. b ^ d) eq in
    omega (arith, pow-le-pow_right (zero_symbol l) {i = d} {j = checks s} (omega arith))

halved : (c : ℕ) → c - c / 2 + c / 2 ≡ c
halved c = omega arith

states_are : (f : Ops) (s : Generator) (q c highs lows : ℕ) → q ≡ f.order → c ≡ checks s → highs ≡ q ^ (c - c / 2) → lows ≡ q ^ (c / 2) → highs * lows ≡ cosets f s
states_are f s q c highs lows eq ec eh el = ap₂ (λ a b. a * b) eh el ∙ sym (pow-add q (c - c / 2) (c / 2)) ∙ ap₂ (λ a b. a ^ b) eq (halved c ∙ ec)

pub returns-in_err-lows : goal.returns-in_err-lows
returns-in_err-lows g c =
    let n : ℕ = c.length.result - c.dimension.result in
    rw c.from_residual.ensures
    (too_many g.F.Field.ops g.F.Field.laws c.args.generator.now c.order-order.result n (n / 2) c.order-order.ensures (ap₂ ◌-◌ c.length.ensures c.dimension.ensures) (omega arith) c.in_err-lows.ensures)

pub returns-in_err-highs : goal.returns-in_err-highs
returns-in_err-highs g c =
    let n : ℕ = c.length.result - c.dimension.result in
    rw c.from_residual-in_err-highs.ensures
    (too_many g.F.Field.ops g.F.Field.laws c.args.generator.now c.order-order.result n (n - n / 2) c.order-order.ensures (ap₂ ◌-◌ c.length.ensures c.dimension.ensures) (omega arith) c.in_err-highs.ensures)

pub returns-then-highs-lows-gt4096 : goal.returns-then-highs-lows-gt4096
returns-then-highs-lows-gt4096 g c =
    let n : ℕ = c.length.result - c.dimension.result in
    let many = c.if-highs-lows-gt4096.true in
    rw (← states_are g.F.Field.ops c.args.generator.now c.order-order.result n c.in_ok-highs.highs c.in_ok-lows.lows c.order-order.ensures
    (ap₂ ◌-◌ c.length.ensures c.dimension.ensures) c.in_ok-highs.ensures.0 c.in_ok-lows.ensures.0) many

pub invariant_of-result : goal.invariant_of-result
invariant_of-result g c =
    let l = g.F.Field.laws in
    let q = c.order-order.result in
    let n : ℕ = c.length.result - c.dimension.result in
    let some : 0 < q = omega (arith, c.order-order.ensures, zero_symbol l) in
    let most : q ≤ 16 = omega (arith, c.order-order.ensures, l.most) in
    let upper = c.in_ok-highs.ensures.0 in
    let lower = c.in_ok-lows.ensures.0 in
    let few : c.in_ok-highs.highs * c.in_ok-lows.lows ≤ 4096 = c.if-highs-lows-gt4096.false in
    let small : q ^ (n - n / 2) * q ^ (n / 2) ≤ 4096 = rw (← upper, ← lower) few in
    let short : size c.args.generator.now ≤ 24 = c.args.generator.now.short in
    record {
      short = omega (arith, c.length.ensures);
      upper = upper;
      lower = lower;
      few = few;
      few_highs = rw upper (few_high q (n - n / 2) (n / 2) some most (omega arith) small);
      few_lows = rw lower (few_low q (n - n / 2) (n / 2) some (omega arith) small);
    }
