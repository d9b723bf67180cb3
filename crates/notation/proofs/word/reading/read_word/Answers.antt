use Rattle.std.proofs.Common.{◌≡◌, ℕ, ◌<◌, ◌⊎◌, List, length, take, None, codes, Option, refl, sym, ◌∙◌, subst, inl, inr, arith}
use Rattle.std.proofs.lemmas.List.{get_or-take, length-take-le}
use Rattle.std.proofs.lemmas.Slice.Eq.{slice_eq-Decides}
use Rattle.std.proofs.lemmas.Bool.{both_ways, eqb-true, eqb-false}
use Rattle.std.proofs.lemmas.Bool.Decides.{Decides-eqb}
use Rattle.notation.specs.Only.{Only}
use Rattle.notation.specs.Symbols.{Writes}
use Rattle.notation.specs.Words.{Readable}
use Rattle.notation.proofs.Zeros.{all_zeros, not_below_zero}
use Rattle.notation.proofs.Spelling.{reads_dash, reads_all, reads_no_length, reads_no_symbol}
use Rattle.notation.proofs.word.reading.read_word.Goals as goal

pub returns-then-eq : goal.returns-then-eq
returns-then-eq c = reads_dash c.args.text.now ((slice_eq-Decides Decides-eqb _ _ _ c.eq.ensures).0 c.if-eq.true ∙ c.as_slice.ensures)

pub returns-then-is_empty : goal.returns-then-is_empty
returns-then-is_empty c =
    let text = c.args.text.now in
    let other : text ≡ codes "-" → ⊥ = λ e. both_ways _ c.if-eq.false ((slice_eq-Decides Decides-eqb _ _ _ c.eq.ensures).1 (e ∙ sym c.as_slice.ensures)) in
    let out : (length text ≡ 0) ⊎ (80 < length text) =
    elim c.then-is_empty.either [
      | inl e ↦ inl (eqb-true (length text) 0 (sym c.is_empty.ensures ∙ e))
      | inr p ↦ inr p.1
    ] in
    reads_no_length text other out

pub returns-in_err-symbols : goal.returns-in_err-symbols
returns-in_err-symbols c =
    let text = c.args.text.now in
    let other : text ≡ codes "-" → ⊥ = λ e. both_ways _ c.if-eq.false ((slice_eq-Decides Decides-eqb _ _ _ c.eq.ensures).1 (e ∙ sym c.as_slice.ensures)) in
    subst (λ (o : Option (List ℕ)). Only (Readable text) o) (sym c.from_residual.ensures)
    (reads_no_symbol text c.loop-place.place other (omega arith)
    (subst (λ (x : ℕ). Only (Writes x) None) c.from.ensures c.in_err-symbols.ensures))

pub invariant_of-result : goal.invariant_of-result
invariant_of-result c = (omega arith, refl, λ k _. all_zeros 80 k)

pub loop-place-init : goal.loop-place-init
loop-place-init c = (refl, λ k h. absurd (not_below_zero k h), λ k _. all_zeros 80 k)

pub returns : goal.returns
returns c =
    let text = c.args.text.now in
    let n : ℕ = length text in
    let symbols = c.loop-place.symbols in
    let some : (n ≡ 0 → ⊥) = eqb-false n 0 (sym c.is_empty.ensures ∙ c.if-is_empty.false) in
    reads_all text (take n symbols) (omega arith) (omega arith) (length-take-le n symbols (omega (arith, c.loop-place.invariant.0)))
    (λ i h. rw (get_or-take n symbols i 0 h) (c.loop-place.invariant.1 i (omega arith)))
