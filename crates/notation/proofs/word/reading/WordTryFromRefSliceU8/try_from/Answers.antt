use Rattle.std.proofs.Common.{arith, ◌≡◌, ◌∙◌, length, take, refl}
use Rattle.std.proofs.lemmas.List.{ext_get_or, get_or-take, length-take-le}
use Rattle.notation.proofs.Zeros.{all_zeros, not_below_zero}
use Rattle.notation.proofs.word.reading.WordTryFromRefSliceU8.try_from.Goals as goal

pub loop-place-init : goal.loop-place-init
loop-place-init c = (refl, λ k h. absurd (not_below_zero k h), λ k _. all_zeros 80 k)

pub returns : goal.returns
returns c =
    let symbols = c.args.symbols.now in
    let padded = c.loop-place.padded in
    let long : length (take (length symbols) padded) ≡ length symbols = length-take-le (length symbols) padded (omega (arith, c.loop-place.invariant.0)) in
    (ext_get_or 0 (take (length symbols) padded) symbols long (λ i h. get_or-take (length symbols) padded i 0 (omega (arith, long)) ∙ c.loop-place.invariant.1 i (omega (arith, long))), omega arith)
