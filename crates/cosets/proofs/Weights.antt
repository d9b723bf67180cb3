-- Weights and differences: two words differ where their difference is not 0.
use Rattle.std.proofs.Common.{◌≡◌, ℕ, zero, suc, ◌+◌, ◌<◌, cond, eqb, sym, refl, ap, ◌∙◌, ap₂, inl, inr, arith}
use Rattle.std.proofs.lemmas.Bool.{cases_eq, eq-eqb, ne_eqb}
use Rattle.field.specs.Field.{Ops, Laws}
use Rattle.algebra.specs.Words.{Symbols}
use Rattle.algebra.proofs.Symbols.{one_symbol}
use Rattle.algebra.proofs.Totals.{zero_product}
use Rattle.algebra.proofs.Spans.{sum_product, span_same, span_sum, span_product}
use Rattle.algebra.proofs.Growing.{span_symbols}
use Rattle.algebra.proofs.Syndromes.{cancelled}
use Rattle.generator.specs.declared.Generator.{Generator}
use Rattle.generator.specs.Parts.{dimension, rows_of}
use Rattle.generator.proofs.Systematics.{symbols_of}
use Rattle.cosets.specs.Cosets.{Codeword}
use Rattle.cosets.specs.Weights.{weight, differences}

-- the difference of two words, place by place
abbrev pub minus : Ops → (ℕ → ℕ) → (ℕ → ℕ) → ℕ → ℕ
minus f v w p = f.sum (v p) (f.negative (w p))

-- only the first n places count
pub weight_same : (n : ℕ) (v w : ℕ → ℕ) → ((p : ℕ) → p < n → v p ≡ w p) → weight n v ≡ weight n w
weight_same zero v w e = refl
weight_same (suc n) v w e = ap₂ (λ a x. a + cond (eqb x 0) 0 1) (weight_same n v w (λ p h. e p (omega arith))) (e n (omega arith))

-- a word differs from the word of 0s where it is not 0
pub differences_zero : (n : ℕ) (w : ℕ → ℕ) → differences n w (λ _. 0) ≡ weight n w
differences_zero zero w = refl
differences_zero (suc n) w = ap (λ a. a + cond (eqb (w n) 0) 0 1) (differences_zero n w)

module _ (f : Ops) (l : Laws f) where
  -- - b = (- 1) b
  negative_product : (b : ℕ) → b < f.order → f.negative b ≡ f.product (f.negative 1) b
  negative_product b h =
      let one : 1 < f.order = one_symbol l in
      let n : f.negative b < f.order = l.negative_symbol b h in
      let m : f.negative 1 < f.order = l.negative_symbol 1 one in
      let p : f.product (f.negative 1) b < f.order = l.product_symbol _ _ m h in
      cancelled f l _ _ b n p h (l.sum_comm _ _ n h ∙ l.sum_negative b h)
      (l.sum_comm _ _ p h ∙ ap (λ x. f.sum x (f.product (f.negative 1) b)) (sym (l.product_one b h)) ∙ sym (sum_product f l 1 _ b one m h)
      ∙ ap (λ x. f.product x b) (l.sum_negative 1 one) ∙ zero_product f l b h)

  -- the difference of two codewords is a codeword
  pub codeword_minus : (g : Generator) (v w : ℕ → ℕ) → Codeword f g v → Codeword f g w → Codeword f g (minus f v w)
  codeword_minus g v w c d =
      let k = dimension g in
      let rs = rows_of f g in
      let s = symbols_of f l g in
      span_same f l k rs s (minus f v w) _ (λ p. ap (f.sum (v p)) (negative_product (w p) (span_symbols f l k rs s w d p)))
      (span_sum f l k rs s v _ c (span_product f l k rs s (f.negative 1) w (l.negative_symbol 1 (one_symbol l)) d))

  -- symbols are equal exactly if their difference is 0
  pub minus_zero : (a b : ℕ) → a < f.order → b < f.order → f.sum a (f.negative b) ≡ 0 → a ≡ b
  minus_zero a b ha hb e = cancelled f l a b (f.negative b) ha hb (l.negative_symbol b hb) e (l.sum_negative b hb)

  pub minus_same : (a b : ℕ) → a < f.order → a ≡ b → f.sum a (f.negative b) ≡ 0
  minus_same a b h e = ap (λ x. f.sum a (f.negative x)) (sym e) ∙ l.sum_negative a h

  -- two words differ in as many places as their difference is not 0
  pub weight_minus : (n : ℕ) (v w : ℕ → ℕ) → Symbols f v → Symbols f w → weight n (minus f v w) ≡ differences n v w
  weight_minus zero v w s t = refl
  weight_minus (suc n) v w s t =
      ap₂ (λ a b. a + cond b 0 1) (weight_minus n v w s t) (elim (cases_eq (v n) (w n)) [
        | inl e ↦ eq-eqb _ 0 (minus_same (v n) (w n) (s n) e) ∙ sym (eq-eqb (v n) (w n) e)
        | inr ne ↦ ne_eqb _ 0 (λ z. ne (minus_zero (v n) (w n) (s n) (t n) z)) ∙ sym (ne_eqb (v n) (w n) ne)
      ])
