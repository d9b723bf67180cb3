use Rattle.std.proofs.Common.{◌≡◌, ℕ, suc, ◌+◌, ◌-◌, ◌*◌, ◌/◌, ◌%◌, ◌^◌, ◌<◌, length, get_or, sym, ap, ◌∙◌, subst, ap₂, pow-suc, zero-mul, add-one, arith}
use native.Mathlib.Nat.{pow-zero, pow-le-pow_right}
use Rattle.std.proofs.lemmas.Iterator.Adapters.{YieldsList-from_rev_slice}
use Rattle.std.proofs.lemmas.Iterator.Consumers.{YieldsList-turn, YieldsList-end}
use Rattle.std.proofs.lemmas.List.{get_or-reverse, length-reverse, length_push}
use Rattle.std.proofs.lemmas.Grind.{get_or_default_zero}
use Rattle.std.specs.Iterator.Adapters.{rev_source}
use Rattle.std.specs.Slice.Iter.{iter_rest}
use Rattle.algebra.specs.Words.{word}
use Rattle.algebra.proofs.Symbols.{zero_symbol}
use Rattle.cosets.specs.States.{moved}
use Rattle.cosets.proofs.States.{moved_below}
use Rattle.trellis.proofs.Stepping.{moved_last}
use Rattle.trellis.proofs.steps.step.Given as given
use Rattle.trellis.proofs.steps.step.Goals as goal
use Rattle.trellis.proofs.steps.step.Goals.{After-sum}

-- the symbol of this turn is that of the last digit that is left
taken : (g : given.Over) (c : After-sum g) → (length c.loop-check.yielded < length c.args.column.now) × (c.in-Some.field-0.now ≡ get_or c.args.column.now (length c.args.column.now - 1 - length c.loop-check.yielded) 0)
taken g c =
    let column = c.args.column.now in
    let start : iter_rest (rev_source c.into_iter-check-iterator.result) ≡ column = rw (c.into_iter-check-iterator.ensures.into_iter_gives, c.rev-check-items.ensures.source) c.iter.ensures.rest in
    let t = YieldsList-turn (YieldsList-from_rev_slice column start) c.loop-check.yielded _ c.loop-check.yielded_by _ _ c.in-Some.field-0 c.in-Some.is c.next.ensures.steps in
    let inside : length c.loop-check.yielded < length column = simp length-reverse at t.0 in
    (inside, t.1 ∙ get_or-reverse column (length c.loop-check.yielded) _ inside ∙ get_or_default_zero column _ _ (omega arith))

-- after a turn the state's last digits are moved, and the rest still to move
turned : (g : given.Over) (c : After-sum g)
    → c.loop-check.to + c.sum.result * c.loop-check.unit
    + moved g.F.Field.ops (word c.args.column.now) (length c.args.column.now - 1 - length c.loop-check.yielded) (c.loop-check.rest / c.order-q.result) c.args.x * (c.loop-check.unit * c.order-q.result)
    ≡ moved g.F.Field.ops (word c.args.column.now) (length c.args.column.now) c.args.state c.args.x
turned g c =
    let f = g.F.Field.ops in
    let q = f.order in
    let column = word c.args.column.now in
    let rest = c.loop-check.rest in
    let x = c.args.x in
    let to = c.loop-check.to in
    let unit = c.loop-check.unit in
    let digits = length c.args.column.now in
    let yet = taken g c in
    let j : ℕ = digits - 1 - length c.loop-check.yielded in
    let next : digits - length c.loop-check.yielded ≡ suc j = omega (arith, yet.0) in
    let order = c.order-q.ensures in
    let added : c.product-added.result ≡ f.product x (column j) = c.product-added.ensures ∙ ap (f.product x) yet.1 in
    let symbol : c.sum.result ≡ f.sum (rest % q) (f.product x (column j)) = rw (← order, ← added) c.sum.ensures in
    ap₂ (λ s b. to + s * unit + moved f column j (rest / b) x * (unit * b)) symbol order
    ∙ moved_last f column j rest x to unit _ (ap (λ i. to + moved f column i rest x * unit) (sym next) ∙ c.loop-check.invariant.2)

-- no sum that is made on the way passes the number of states
small : (g : given.Over) (c : After-sum g) → c.loop-check.to + c.sum.result * c.loop-check.unit < 4096
small g c = omega (arith, turned g c, moved_below g.F.Field.ops g.F.Field.laws (word c.args.column.now) (length c.args.column.now) c.args.state c.args.x)

units : (g : given.Over) (c : After-sum g) → c.loop-check.unit * c.order-q.result ≡ g.F.Field.ops.order ^ suc (length c.loop-check.yielded)
units g c = ap₂ (λ a b. a * b) c.loop-check.invariant.3 c.order-q.ensures ∙ sym (pow-suc g.F.Field.ops.order (length c.loop-check.yielded))

pub loop-check-init : goal.loop-check-init
loop-check-init g c =
    let whole : length c.args.column.now - 0 ≡ length c.args.column.now = omega arith in
    (tt, tt, rw whole (omega arith), sym (pow-zero g.F.Field.ops.order), omega arith)

pub overflow_mul-to : goal.overflow_mul-to
overflow_mul-to g c = omega (arith, small g c)

pub overflow_add-to : goal.overflow_add-to
overflow_add-to g c = omega (arith, small g c)

pub overflow_mul-unit : goal.overflow_mul-unit
overflow_mul-unit g c =
    let yet = taken g c in
    omega (arith, units g c, pow-le-pow_right (zero_symbol g.F.Field.laws) {i = suc (length c.loop-check.yielded)} {j = length c.args.column.now} yet.0)

pub loop-check-preserved : goal.loop-check-preserved
loop-check-preserved g c =
    let yet = taken g c in
    let more = length_push c.loop-check.yielded c.in-Some.field-0 ∙ add-one (length c.loop-check.yielded) in
    let left : length c.args.column.now - 1 - length c.loop-check.yielded ≡ length c.args.column.now - suc (length c.loop-check.yielded) = omega arith in
    rw more (tt, tt, rw (← left) (turned g c), units g c, yet.0)

pub returns : goal.returns
returns g c =
    let f = g.F.Field.ops in
    let column = c.args.column.now in
    let digits = length column in
    let start : iter_rest (rev_source c.into_iter-check-iterator.result) ≡ column = rw (c.into_iter-check-iterator.ensures.into_iter_gives, c.rev-check-items.ensures.source) c.iter.ensures.rest in
    let e = YieldsList-end (YieldsList-from_rev_slice column start) c.loop-check.yielded _ c.loop-check.yielded_by _ _ c.in-None.is c.next.ensures.steps in
    let none : digits - length c.loop-check.yielded ≡ 0 = omega (arith, e.1, length-reverse column) in
    let all : c.loop-check.to + moved f (word column) 0 c.loop-check.rest c.args.x * c.loop-check.unit ≡ moved f (word column) digits c.args.state c.args.x = subst (λ i. c.loop-check.to + moved f (word column) i c.loop-check.rest c.args.x * c.loop-check.unit ≡ moved f (word column) digits c.args.state c.args.x) none c.loop-check.invariant.2 in
    let is : c.loop-check.to ≡ moved f (word column) digits c.args.state c.args.x = omega (arith, all, zero-mul c.loop-check.unit) in
    record { value = is; below = rw is (moved_below f g.F.Field.laws (word column) digits c.args.state c.args.x) }
