use Rattle.std.proofs.Common.{◌≡◌, length, refl, arith}
use Rattle.algebra.specs.Words.{word}
use Rattle.algebra.proofs.Cuts.{cut_symbols}
use Rattle.basis.specs.Parts.{size}
use Rattle.basis.proofs.Extending.{room, stored_inside, stored_own, stored_cleared, stored_ends, stored_old, stored_span, not_spanned}
use Rattle.basis.proofs.Basis.extend.Goals as goal

pub bounds-self-self : goal.bounds-self-self
bounds-self-self g c =
    let f = g.F.Field.ops in
    let l = g.F.Field.laws in
    let s = c.args.self.now in
    let some = room f l s (omega arith) _ (cut_symbols f l (size s) (word c.args.word.now)) c.in-Some.row c.in-Some.ensures in
    let short = s.short in
    omega arith

pub invariant_of-self : goal.invariant_of-self
invariant_of-self g c =
    let f = g.F.Field.ops in
    let l = g.F.Field.laws in
    let s = c.args.self.now in
    let w = cut_symbols f l (size s) (word c.args.word.now) in
    let tall : length s.rows ≡ 24 = omega arith in
    let r = c.in-Some.row in
    let left = c.in-Some.ensures in
    let some = room f l s tall _ w r left in
    record {
      short = s.short;
      few = omega arith;
      inside = stored_inside f l s tall _ w r left;
      own = stored_own f l s tall _ w r left;
      cleared = λ i j h. stored_cleared f l s tall _ w r left i j h.0 h.1;
      ends = λ i k h. stored_ends f l s tall _ w r left i k h.0 h.1;
    }

pub returns : goal.returns
returns g c =
    let f = g.F.Field.ops in
    let l = g.F.Field.laws in
    let s = c.args.self.now in
    let w = cut_symbols f l (size s) (word c.args.word.now) in
    let tall : length s.rows ≡ 24 = omega arith in
    let r = c.in-Some.row in
    let left = c.in-Some.ensures in
    (not_spanned f l s tall _ w r left, refl, refl, stored_old f l s tall _ w r left, stored_span f l s tall _ w r left)
