use Rattle.std.proofs.Common.{ℕ, take, length, ◌+◌, ◌<◌, sym, subst, arith}
use Rattle.std.proofs.lemmas.List.{length-take}
use Rattle.algebra.proofs.Checks.{check_place_is}
use Rattle.linear.proofs.Taken.{taken_place}
use Rattle.generator.specs.Parts.{places_of}
use Rattle.generator.proofs.Checking.{Walked, walked_on, walked_by}
use Rattle.generator.proofs.Generator.check_place.Goals as goal
use Rattle.generator.proofs.Generator.check_place.Goals.{then-row-p, else-row-p}

pub loop-row-init : goal.loop-row-init
loop-row-init c = record { passed = 0; some = omega arith; is = omega arith; before = λ h b. absurd (omega arith); after = λ h b x. absurd (omega arith) }

pub overflow_add-p : goal.overflow_add-p
overflow_add-p c = let w = c.loop-row.invariant.some in let e = c.loop-row.invariant.is in omega arith

pub loop-row-preserved : goal.loop-row-preserved
loop-row-preserved c =
    let s = c.args.self.now in
    let at = places_of s in
    let up : (i j : ℕ) → i < j → j < s.k → at i < at j = λ i j a b. s.ascends i j (a, b) in
    let held : c.loop-row.row-index < length (take s.k s.rows) = c.loop-row-test.true in
    let on : c.loop-row.row-index < s.k = omega (arith, length-take s.k s.rows) in
    let P : ℕ → Type 0 = λ p. Walked at c.args.i (c.loop-row.row-index + 1) p in
    elim c.if-row-p.branch [
      | then-row-p w ↦ subst P (sym w.p-is) (walked_on at s.k up c.args.i c.loop-row.row-index c.loop-row.p on c.loop-row.invariant (rw (taken_place s.rows s.k c.loop-row.row-index) at w.if-row-p.true))
      | else-row-p w ↦ subst P (sym w.p-is) (walked_by at s.k up c.args.i c.loop-row.row-index c.loop-row.p on c.loop-row.invariant (rw (taken_place s.rows s.k c.loop-row.row-index) at w.if-row-p.false))
    ]

pub returns : goal.returns
returns c =
    let s = c.args.self.now in
    let at = places_of s in
    let i = c.args.i in
    let p = c.loop-row.p in
    let w = c.loop-row.invariant in
    let some = w.some in
    let is = w.is in
    let few = s.few in
    let up : (i j : ℕ) → i < j → j < s.k → at i < at j = λ x y a b. s.ascends x y (a, b) in
    let low : p < s.n = omega arith in
    (omega arith, low, sym (check_place_is at s.k s.n up i w.passed p (omega arith) w.before (λ j a b. w.after j a (omega arith)) is low))
