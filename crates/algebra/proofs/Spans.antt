-- What rows span: sums, multiples, and the steps of an elimination.
use Rattle.std.proofs.Common.{◌≡◌, ℕ, zero, suc, ◌<◌, cond, eqb, sym, refl, ap, ◌∙◌, ap₂, inl, inr, arith}
use Rattle.std.proofs.lemmas.Bool.{cases_eq, cond-true, cond-false, cond_both, eq-eqb, ne_eqb}
use Rattle.field.specs.Field.{Ops, Laws}
use Rattle.algebra.specs.Words.{Symbols, SymbolRows, combination, Span, SameSpan}
use Rattle.algebra.proofs.Symbols.{zero_symbol, one_symbol}
use Rattle.algebra.proofs.Totals.{sum_zero_right, zero_product, total_symbol, total_same, total_zero, total_sum, total_product, total_one}

module _ (f : Ops) (l : Laws f) where
  pub product_one_right : (a : ℕ) → a < f.order → f.product a 1 ≡ a
  product_one_right a h = l.product_comm a 1 h (one_symbol l) ∙ l.product_one a h

  pub sum_product : (a b c : ℕ) → a < f.order → b < f.order → c < f.order → f.product (f.sum a b) c ≡ f.sum (f.product a c) (f.product b c)
  sum_product a b c ha hb hc =
      l.product_comm _ c (l.sum_symbol a b ha hb) hc ∙ l.product_sum c a b hc ha hb ∙ ap₂ f.sum (l.product_comm c a hc ha) (l.product_comm c b hc hb)

  -- (a + c * b) + (- c) * b = a
  pub taken_back : (a b c : ℕ) → a < f.order → b < f.order → c < f.order → f.sum (f.sum a (f.product c b)) (f.product (f.negative c) b) ≡ a
  taken_back a b c ha hb hc =
      let n = l.negative_symbol c hc in
      l.sum_assoc a _ _ ha (l.product_symbol c b hc hb) (l.product_symbol (f.negative c) b n hb)
      ∙ ap (f.sum a) (sym (sum_product c (f.negative c) b hc n hb) ∙ ap (λ x. f.product x b) (l.sum_negative c hc) ∙ zero_product f l b hb)
      ∙ sum_zero_right f l a ha

  module _ (m : ℕ) (rs : ℕ → ℕ → ℕ) (s : SymbolRows f rs) where
    products : (cs : ℕ → ℕ) → Symbols f cs → (k : ℕ) → Symbols f (λ i. f.product (cs i) (rs i k))
    products cs c k i = l.product_symbol (cs i) (rs i k) (c i) (s i k)

    pub span_same : (v w : ℕ → ℕ) → ((k : ℕ) → v k ≡ w k) → Span f m rs w → Span f m rs v
    span_same v w e p = record { coefficients = p.coefficients; symbols = p.symbols; is = λ k. e k ∙ p.is k }

    pub span_zero : Span f m rs (λ _. 0)
    span_zero = record {
      coefficients = λ _. 0;
      symbols = λ _. zero_symbol l;
      is = λ k. sym (total_zero f l _ m (λ i h. zero_product f l (rs i k) (s i k)));
    }

    pub combination_symbol : (cs : ℕ → ℕ) → Symbols f cs → Symbols f (combination f cs rs m)
    combination_symbol cs c k = total_symbol f l _ m (products cs c k)

    pub combination_sum : (cs ds : ℕ → ℕ) → Symbols f cs → Symbols f ds → (k : ℕ)
        → f.sum (combination f cs rs m k) (combination f ds rs m k) ≡ combination f (λ i. f.sum (cs i) (ds i)) rs m k
    combination_sum cs ds c d k =
        sym (total_sum f l _ _ m (products cs c k) (products ds d k)) ∙ total_same f l _ _ m (λ i h. sym (sum_product _ _ _ (c i) (d i) (s i k)))

    pub combination_product : (a : ℕ) (cs : ℕ → ℕ) → a < f.order → Symbols f cs → (k : ℕ)
        → f.product a (combination f cs rs m k) ≡ combination f (λ i. f.product a (cs i)) rs m k
    combination_product a cs h c k =
        sym (total_product f l a _ m h (products cs c k)) ∙ total_same f l _ _ m (λ i _. sym (l.product_assoc _ _ _ h (c i) (s i k)))

    pub span_sum : (v w : ℕ → ℕ) → Span f m rs v → Span f m rs w → Span f m rs (λ k. f.sum (v k) (w k))
    span_sum v w p q = record {
      coefficients = λ i. f.sum (p.coefficients i) (q.coefficients i);
      symbols = λ i. l.sum_symbol _ _ (p.symbols i) (q.symbols i);
      is = λ k. ap₂ f.sum (p.is k) (q.is k) ∙ combination_sum _ _ p.symbols q.symbols k;
    }

    pub span_product : (c : ℕ) (w : ℕ → ℕ) → c < f.order → Span f m rs w → Span f m rs (λ k. f.product c (w k))
    span_product c w h p = record {
      coefficients = λ i. f.product c (p.coefficients i);
      symbols = λ i. l.product_symbol _ _ h (p.symbols i);
      is = λ k. ap (f.product c) (p.is k) ∙ combination_product c _ h p.symbols k;
    }

    pub span_row : (j : ℕ) → j < m → Span f m rs (rs j)
    span_row j h =
        let c : ℕ → ℕ = λ i. cond (eqb i j) 1 0 in
        let cs : Symbols f c = λ i. cond_both (eqb i j) 1 0 (λ x. x < f.order) (λ _. one_symbol l) (λ _. zero_symbol l) in
        record {
          coefficients = c;
          symbols = cs;
          is = λ k. sym (
              total_one f l _ m j (products c cs k) h
              (λ i _ ne. ap (λ x. f.product x (rs i k)) (cond-false _ _ _ (ne_eqb i j ne)) ∙ zero_product f l (rs i k) (s i k))
              ∙ ap (λ x. f.product x (rs j k)) (cond-true _ _ _ (eq-eqb j j refl)) ∙ l.product_one (rs j k) (s j k));
        }

  -- what the rows rs span is in any span that has each of them
  pub span_within : (m : ℕ) (rs : ℕ → ℕ → ℕ) (n : ℕ) (ss : ℕ → ℕ → ℕ) → SymbolRows f ss → ((i : ℕ) → i < m → Span f n ss (rs i))
      → (cs : ℕ → ℕ) → Symbols f cs → Span f n ss (combination f cs rs m)
  span_within zero rs n ss s each cs c = span_zero n ss s
  span_within (suc m) rs n ss s each cs c =
      span_sum n ss s _ _ (span_within m rs n ss s (λ i h. each i (omega arith)) cs c) (span_product n ss s (cs m) (rs m) (c m) (each m (omega arith)))

  pub same_span : (m : ℕ) (rs : ℕ → ℕ → ℕ) (n : ℕ) (ss : ℕ → ℕ → ℕ) → SymbolRows f rs → SymbolRows f ss
      → ((i : ℕ) → i < m → Span f n ss (rs i)) → ((i : ℕ) → i < n → Span f m rs (ss i)) → SameSpan f m rs n ss
  same_span m rs n ss r s there back = record {
    there = λ w p. span_same n ss s w _ p.is (span_within m rs n ss s there p.coefficients p.symbols);
    back = λ w p. span_same m rs r w _ p.is (span_within n ss m rs r back p.coefficients p.symbols);
  }

  -- two steps of an elimination: ss is rs but for the row i, or the rows i and j
  module _ (m : ℕ) (rs ss : ℕ → ℕ → ℕ) (r : SymbolRows f rs) (s : SymbolRows f ss) (i : ℕ) (hi : i < m) where
    pub scaled_span : (c : ℕ) → c < f.order → (c ≡ 0 → ⊥) → ((k : ℕ) → ss i k ≡ f.product c (rs i k))
        → ((h k : ℕ) → (h ≡ i → ⊥) → ss h k ≡ rs h k) → SameSpan f m rs m ss
    scaled_span c hc nz new old =
        let d = f.inverse c in
        let hd : d < f.order = l.inverse_symbol c hc in
        same_span m rs m ss r s
        (λ h hh. elim (cases_eq h i) [
          | inl e ↦ span_same m ss s (rs h) _
              (λ k. ap (λ x. rs x k) e ∙ sym (ap (f.product d) (new k) ∙ sym (l.product_assoc d c (rs i k) hd hc (r i k)) ∙ ap (λ x. f.product x (rs i k)) (l.product_comm d c hd hc ∙ l.product_inverse c hc nz) ∙ l.product_one (rs i k) (r i k)))
              (span_product m ss s d _ hd (span_row m ss s i hi))
          | inr n ↦ span_same m ss s (rs h) (ss h) (λ k. sym (old h k n)) (span_row m ss s h hh)
        ])
        (λ h hh. elim (cases_eq h i) [
          | inl e ↦ span_same m rs r (ss h) _ (λ k. ap (λ x. ss x k) e ∙ new k) (span_product m rs r c _ hc (span_row m rs r i hi))
          | inr n ↦ span_same m rs r (ss h) (rs h) (λ k. old h k n) (span_row m rs r h hh)
        ])

    pub swapped_span : (j : ℕ) → j < m → ((k : ℕ) → ss i k ≡ rs j k) → ((k : ℕ) → ss j k ≡ rs i k)
        → ((h k : ℕ) → (h ≡ i → ⊥) → (h ≡ j → ⊥) → ss h k ≡ rs h k) → SameSpan f m rs m ss
    swapped_span j hj newi newj old =
        same_span m rs m ss r s
        (λ h hh. elim (cases_eq h i) [
          | inl e ↦ span_same m ss s (rs h) (ss j) (λ k. ap (λ x. rs x k) e ∙ sym (newj k)) (span_row m ss s j hj)
          | inr n ↦ elim (cases_eq h j) [
            | inl e ↦ span_same m ss s (rs h) (ss i) (λ k. ap (λ x. rs x k) e ∙ sym (newi k)) (span_row m ss s i hi)
            | inr o ↦ span_same m ss s (rs h) (ss h) (λ k. sym (old h k n o)) (span_row m ss s h hh)
          ]
        ])
        (λ h hh. elim (cases_eq h i) [
          | inl e ↦ span_same m rs r (ss h) (rs j) (λ k. ap (λ x. ss x k) e ∙ newi k) (span_row m rs r j hj)
          | inr n ↦ elim (cases_eq h j) [
            | inl e ↦ span_same m rs r (ss h) (rs i) (λ k. ap (λ x. ss x k) e ∙ newj k) (span_row m rs r i hi)
            | inr o ↦ span_same m rs r (ss h) (rs h) (λ k. old h k n o) (span_row m rs r h hh)
          ]
        ])
