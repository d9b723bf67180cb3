-- What the laws of a field give of sums.
use Rattle.std.proofs.Common.{◌≡◌, ℕ, zero, suc, ◌+◌, ◌<◌, sym, refl, ap, ◌∙◌, ap₂, inl, inr, not-suc-le-zero, add-one, arith}
use Rattle.std.proofs.lemmas.Bool.{cases_eq}
use Rattle.field.specs.Field.{Ops, Laws}
use Rattle.algebra.specs.Words.{Symbols, total}
use Rattle.algebra.proofs.Symbols.{zero_symbol}

pub total_more : (f : Ops) (g : ℕ → ℕ) (m : ℕ) → total f g (m + 1) ≡ f.sum (total f g m) (g m)
total_more f g m = rw add-one

module _ (f : Ops) (l : Laws f) where
  pub sum_zero_right : (a : ℕ) → a < f.order → f.sum a 0 ≡ a
  sum_zero_right a h = l.sum_comm a 0 h (zero_symbol l) ∙ l.sum_zero a h

  pub doubled_zero : (a : ℕ) → a < f.order → a ≡ f.sum a a → a ≡ 0
  doubled_zero a h e =
      let n = f.negative a in
      let m : n < f.order = l.negative_symbol a h in
      sym (sum_zero_right a h) ∙ ap (f.sum a) (sym (l.sum_negative a h)) ∙ sym (l.sum_assoc a a n h h m) ∙ ap (λ x. f.sum x n) (sym e) ∙ l.sum_negative a h

  pub product_zero : (a : ℕ) → a < f.order → f.product a 0 ≡ 0
  product_zero a h =
      let z = zero_symbol l in
      doubled_zero (f.product a 0) (l.product_symbol a 0 h z) (ap (f.product a) (sym (l.sum_zero 0 z)) ∙ l.product_sum a 0 0 h z z)

  pub zero_product : (a : ℕ) → a < f.order → f.product 0 a ≡ 0
  zero_product a h = l.product_comm 0 a (zero_symbol l) h ∙ product_zero a h

  -- (a + b) + (c + d) = (a + c) + (b + d)
  pub sum_sum : (a b c d : ℕ) → a < f.order → b < f.order → c < f.order → d < f.order
      → f.sum (f.sum a b) (f.sum c d) ≡ f.sum (f.sum a c) (f.sum b d)
  sum_sum a b c d ha hb hc hd =
      let hcd = l.sum_symbol c d hc hd in
      let hbd = l.sum_symbol b d hb hd in
      l.sum_assoc a b (f.sum c d) ha hb hcd
      ∙ ap (f.sum a) (sym (l.sum_assoc b c d hb hc hd) ∙ ap (λ x. f.sum x d) (l.sum_comm b c hb hc) ∙ l.sum_assoc c b d hc hb hd)
      ∙ sym (l.sum_assoc a c (f.sum b d) ha hc hbd)

  pub total_symbol : (g : ℕ → ℕ) (m : ℕ) → Symbols f g → total f g m < f.order
  total_symbol g zero s = zero_symbol l
  total_symbol g (suc m) s = l.sum_symbol _ _ (total_symbol g m s) (s m)

  pub total_same : (g h : ℕ → ℕ) (m : ℕ) → ((i : ℕ) → i < m → g i ≡ h i) → total f g m ≡ total f h m
  total_same g h zero e = refl
  total_same g h (suc m) e = ap₂ f.sum (total_same g h m (λ i k. e i (omega arith))) (e m (omega arith))

  pub total_zero : (g : ℕ → ℕ) (m : ℕ) → ((i : ℕ) → i < m → g i ≡ 0) → total f g m ≡ 0
  total_zero g zero e = refl
  total_zero g (suc m) e = ap₂ f.sum (total_zero g m (λ i k. e i (omega arith))) (e m (omega arith)) ∙ l.sum_zero 0 (zero_symbol l)

  pub total_sum : (g h : ℕ → ℕ) (m : ℕ) → Symbols f g → Symbols f h → total f (λ i. f.sum (g i) (h i)) m ≡ f.sum (total f g m) (total f h m)
  total_sum g h zero s t = sym (l.sum_zero 0 (zero_symbol l))
  total_sum g h (suc m) s t =
      ap (λ x. f.sum x (f.sum (g m) (h m))) (total_sum g h m s t)
      ∙ sum_sum (total f g m) (total f h m) (g m) (h m) (total_symbol g m s) (total_symbol h m t) (s m) (t m)

  pub total_product : (c : ℕ) (g : ℕ → ℕ) (m : ℕ) → c < f.order → Symbols f g → total f (λ i. f.product c (g i)) m ≡ f.product c (total f g m)
  total_product c g zero h s = sym (product_zero c h)
  total_product c g (suc m) h s =
      ap (λ x. f.sum x (f.product c (g m))) (total_product c g m h s) ∙ sym (l.product_sum c (total f g m) (g m) h (total_symbol g m s) (s m))

  -- all but one of the numbers are 0
  pub total_one : (g : ℕ → ℕ) (m j : ℕ) → Symbols f g → j < m → ((i : ℕ) → i < m → (i ≡ j → ⊥) → g i ≡ 0) → total f g m ≡ g j
  total_one g zero j s h e = absurd (not-suc-le-zero h)
  total_one g (suc m) j s h e =
      elim (cases_eq j m) [
        | inl p ↦ ap₂ f.sum (total_zero g m (λ i k. e i (omega arith) (omega arith))) refl ∙ l.sum_zero (g m) (s m) ∙ ap g (sym p)
        | inr n ↦ ap₂ f.sum (total_one g m j s (omega arith) (λ i k ne. e i (omega arith) ne)) (e m (omega arith) (λ p. n (sym p))) ∙ sum_zero_right (g j) (s j)
      ]
