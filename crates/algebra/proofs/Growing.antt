-- One row more: what is left of a word once multiples of triangular rows have made it 0 at their pivots,
-- and the rows with that remainder after them.
use Rattle.std.proofs.Common.{◌≡◌, ℕ, ◌+◌, ◌<◌, ◌≤◌, sym, refl, ap, ◌∙◌, ap₂, inl, inr, arith}
use Rattle.std.proofs.lemmas.Bool.{cases_eq, cond-true, cond-false, eq-eqb, ne_eqb}
use Rattle.field.specs.Field.{Ops, Laws}
use Rattle.algebra.specs.Words.{Symbols, SymbolRows, with_row, Span, SameSpan}
use Rattle.algebra.specs.Elimination.{Remainder}
use Rattle.algebra.proofs.Symbols.{zero_symbol, one_symbol}
use Rattle.algebra.proofs.Totals.{sum_zero_right, product_zero, total_same}
use Rattle.algebra.proofs.Spans.{product_one_right, combination_symbol, taken_back, span_same, span_zero, span_sum, span_product, span_row, span_within, same_span}
use Rattle.algebra.proofs.Triangular.{Triangular, vanishes}

pub with_new : (rs : ℕ → ℕ → ℕ) (m : ℕ) (w : ℕ → ℕ) (k : ℕ) → with_row rs m w m k ≡ w k
with_new rs m w k = cond-true _ _ _ (eq-eqb m m refl)

pub with_old : (rs : ℕ → ℕ → ℕ) (m : ℕ) (w : ℕ → ℕ) (i k : ℕ) → (i ≡ m → ⊥) → with_row rs m w i k ≡ rs i k
with_old rs m w i k n = cond-false _ _ _ (ne_eqb i m n)

module _ (f : Ops) (l : Laws f) where
  -- a word that the first m rows span is spanned by more rows that begin with them
  pub span_wider : (m n : ℕ) (rs ss : ℕ → ℕ → ℕ) → SymbolRows f ss → m ≤ n → ((i k : ℕ) → i < m → rs i k ≡ ss i k) → (w : ℕ → ℕ) → Span f m rs w → Span f n ss w
  span_wider m n rs ss s h same w p =
      span_same f l n ss s w _ p.is
      (span_within f l m rs n ss s (λ i b. span_same f l n ss s (rs i) (ss i) (λ k. same i k b) (span_row f l n ss s i (omega arith))) p.coefficients p.symbols)

  -- rows that are equal place by place span the same
  pub same_rows : (m : ℕ) (rs ss : ℕ → ℕ → ℕ) → ((i k : ℕ) → i < m → rs i k ≡ ss i k) → SameSpan f m rs m ss
  same_rows m rs ss e = record {
    there = λ w p. record { coefficients = p.coefficients; symbols = p.symbols; is = λ k. p.is k ∙ total_same f l _ _ m (λ i h. ap (f.product (p.coefficients i)) (e i k h)) };
    back = λ w p. record { coefficients = p.coefficients; symbols = p.symbols; is = λ k. p.is k ∙ total_same f l _ _ m (λ i h. ap (f.product (p.coefficients i)) (sym (e i k h))) };
  }

  -- a word that rows span has only symbols
  pub span_symbols : (m : ℕ) (rs : ℕ → ℕ → ℕ) → SymbolRows f rs → (w : ℕ → ℕ) → Span f m rs w → Symbols f w
  span_symbols m rs s w p k = rw (p.is k) (combination_symbol f l m rs s p.coefficients p.symbols k)

  pub with_symbols : (rs : ℕ → ℕ → ℕ) (m : ℕ) (w : ℕ → ℕ) → SymbolRows f rs → Symbols f w → SymbolRows f (with_row rs m w)
  with_symbols rs m w s ws i k = elim (cases_eq i m) [
    | inl e ↦ rw (ap (λ x. with_row rs m w x k) e ∙ with_new rs m w k) (ws k)
    | inr n ↦ rw (with_old rs m w i k n) (s i k)
  ]

  -- each of the rows `xs` with w after them is in the span of the rows `ys` with w after them
  with_within : (m : ℕ) (xs ys : ℕ → ℕ → ℕ) (w : ℕ → ℕ) → SymbolRows f xs → SymbolRows f ys → Symbols f w
      → ((x : ℕ → ℕ) → Span f m xs x → Span f m ys x) → (i : ℕ) → i < m + 1 → Span f (m + 1) (with_row ys m w) (with_row xs m w i)
  with_within m xs ys w a b ws there i h =
      let s = with_symbols ys m w b ws in
      elim (cases_eq i m) [
        | inl e ↦ span_same f l (m + 1) (with_row ys m w) s (with_row xs m w i) (with_row ys m w m)
            (λ k. ap (λ x. with_row xs m w x k) e ∙ with_new xs m w k ∙ sym (with_new ys m w k)) (span_row f l (m + 1) (with_row ys m w) s m (omega arith))
        | inr n ↦ span_same f l (m + 1) (with_row ys m w) s (with_row xs m w i) (xs i) (λ k. with_old xs m w i k n)
            (span_wider m (m + 1) ys (with_row ys m w) s (omega arith) (λ j k c. sym (with_old ys m w j k (omega arith))) (xs i) (there (xs i) (span_row f l m xs a i (omega arith))))
      ]

  -- one and the same word after rows that span the same
  pub same_with_row : (m : ℕ) (rs ss : ℕ → ℕ → ℕ) (w : ℕ → ℕ) → SymbolRows f rs → SymbolRows f ss → Symbols f w → SameSpan f m rs m ss
      → SameSpan f (m + 1) (with_row rs m w) (m + 1) (with_row ss m w)
  same_with_row m rs ss w r s ws one =
      same_span f l (m + 1) (with_row rs m w) (m + 1) (with_row ss m w) (with_symbols rs m w r ws) (with_symbols ss m w s ws)
      (with_within m rs ss w r s ws one.there) (with_within m ss rs w s r ws one.back)

  module _ (rs : ℕ → ℕ → ℕ) (s : SymbolRows f rs) (at w : ℕ → ℕ) (ws : Symbols f w) where
    pub remainder_none : (v : ℕ → ℕ) → ((k : ℕ) → v k ≡ w k) → Remainder f rs at w v 0
    remainder_none v e = record {
      symbols = λ k. rw (e k) (ws k);
      taken = λ _. 0;
      spanned = span_zero f l 0 rs s;
      is = λ k. e k ∙ sym (sum_zero_right f l (w k) (ws k));
      zeros = λ j h. absurd (omega arith);
    }

    pub remainder_more : (m : ℕ) → Triangular m rs at → (v v' : ℕ → ℕ) (i : ℕ) → i < m → Remainder f rs at w v i
        → ((k : ℕ) → v' k ≡ f.sum (v k) (f.product (f.negative (v (at i))) (rs i k))) → Remainder f rs at w v' (i + 1)
    remainder_more m t v v' i h r e =
        let c : ℕ = f.negative (v (at i)) in
        let hc : c < f.order = l.negative_symbol _ (r.symbols (at i)) in
        let old : Span f (i + 1) rs r.taken = span_wider i (i + 1) rs rs s (omega arith) (λ _ _ _. refl) r.taken r.spanned in
        let ht : Symbols f r.taken = span_symbols i rs s r.taken r.spanned in
        record {
          symbols = λ k. rw (e k) (l.sum_symbol _ _ (r.symbols k) (l.product_symbol _ _ hc (s i k)));
          taken = λ k. f.sum (r.taken k) (f.product c (rs i k));
          spanned = span_sum f l (i + 1) rs s _ _ old (span_product f l (i + 1) rs s c _ hc (span_row f l (i + 1) rs s i (omega arith)));
          is = λ k. e k ∙ ap (λ x. f.sum x (f.product c (rs i k))) (r.is k) ∙ l.sum_assoc _ _ _ (ws k) (ht k) (l.product_symbol _ _ hc (s i k));
          zeros = λ j b. e (at j) ∙ elim (cases_eq j i) [
            | inl q ↦ ap (λ x. f.sum (v (at x)) (f.product c (rs i (at x)))) q ∙ ap (λ x. f.sum (v (at i)) (f.product c x)) (t.own i h)
                ∙ ap (f.sum (v (at i))) (product_one_right f l c hc) ∙ l.sum_negative _ (r.symbols (at i))
            | inr n ↦ ap₂ (λ x y. f.sum x (f.product c y)) (r.zeros j (omega arith)) (t.cleared i j (omega arith) h) ∙ ap (f.sum 0) (product_zero f l c hc) ∙ l.sum_zero 0 (zero_symbol l)
          ];
        }

    module _ (m : ℕ) (t : Triangular m rs at) (v : ℕ → ℕ) (r : Remainder f rs at w v m) where
      -- w = v - taken
      word_back : (k : ℕ) → w k ≡ f.sum (v k) (f.product (f.negative 1) (r.taken k))
      word_back k =
          let hk = span_symbols m rs s r.taken r.spanned k in
          sym (ap (λ x. f.sum x (f.product (f.negative 1) (r.taken k))) (r.is k ∙ ap (f.sum (w k)) (sym (l.product_one _ hk))) ∙ taken_back f l (w k) (r.taken k) 1 (ws k) hk (one_symbol l))

      -- nothing is left of a word that the rows span, and only of such a word
      pub spanned_from_zero : ((k : ℕ) → v k ≡ 0) → Span f m rs w
      spanned_from_zero z =
          span_same f l m rs s w _ (λ k. word_back k ∙ ap (λ x. f.sum x (f.product (f.negative 1) (r.taken k))) (z k) ∙ l.sum_zero _ (l.product_symbol _ _ (l.negative_symbol 1 (one_symbol l)) (span_symbols m rs s r.taken r.spanned k)))
          (span_product f l m rs s (f.negative 1) r.taken (l.negative_symbol 1 (one_symbol l)) r.spanned)

      pub zero_from_spanned : Span f m rs w → (k : ℕ) → v k ≡ 0
      zero_from_spanned p = vanishes f l m rs s at t v (span_same f l m rs s v _ r.is (span_sum f l m rs s w r.taken p r.spanned)) r.zeros

      -- the rows with the remainder, scaled to 1 at p, after them
      module _ (p : ℕ) (some : v p ≡ 0 → ⊥) (ss : ℕ → ℕ → ℕ) (bt : ℕ → ℕ) (old : (i k : ℕ) → i < m → ss i k ≡ rs i k) (new : (k : ℕ) → ss m k ≡ f.product (f.inverse (v p)) (v k))
          (old_at : (i : ℕ) → i < m → bt i ≡ at i) (new_at : bt m ≡ p) where
        scale_symbol : f.inverse (v p) < f.order
        scale_symbol = l.inverse_symbol _ (r.symbols p)

        pub grown_triangular : Triangular (m + 1) ss bt
        grown_triangular = record {
          own = λ i h. elim (cases_eq i m) [
            | inl e ↦ ap (λ x. ss x (bt x)) e ∙ ap (ss m) new_at ∙ new p ∙ l.product_comm _ _ scale_symbol (r.symbols p) ∙ l.product_inverse _ (r.symbols p) some
            | inr n ↦ let b : i < m = omega arith in ap (ss i) (old_at i b) ∙ old i (at i) b ∙ t.own i b
          ];
          cleared = λ i j b h. let c : j < m = omega arith in elim (cases_eq i m) [
            | inl e ↦ ap (λ x. ss x (bt j)) e ∙ ap (ss m) (old_at j c) ∙ new (at j) ∙ ap (f.product (f.inverse (v p))) (r.zeros j c) ∙ product_zero f l _ scale_symbol
            | inr n ↦ let d : i < m = omega arith in ap (ss i) (old_at j c) ∙ old i (at j) d ∙ t.cleared i j b d
          ];
        }

        -- v = (v p) (the new row)
        scaled_back : (k : ℕ) → f.product (v p) (ss m k) ≡ v k
        scaled_back k =
            ap (f.product (v p)) (new k) ∙ sym (l.product_assoc _ _ _ (r.symbols p) scale_symbol (r.symbols k))
            ∙ ap (λ x. f.product x (v k)) (l.product_inverse _ (r.symbols p) some) ∙ l.product_one _ (r.symbols k)

        pub grown_span : SymbolRows f ss → SameSpan f (m + 1) ss (m + 1) (with_row rs m w)
        grown_span hs =
            let n : ℕ = m + 1 in
            let ts : ℕ → ℕ → ℕ = with_row rs m w in
            let ht : SymbolRows f ts = with_symbols rs m w s ws in
            same_span f l n ss n ts hs ht
            (λ i h. elim (cases_eq i m) [
              | inl e ↦ span_same f l n ts ht (ss i) _ (λ k. ap (λ x. ss x k) e ∙ new k)
                  (span_product f l n ts ht (f.inverse (v p)) v scale_symbol (span_same f l n ts ht v _ r.is
                  (span_sum f l n ts ht w r.taken
                  (span_same f l n ts ht w (ts m) (λ k. sym (with_new rs m w k)) (span_row f l n ts ht m (omega arith)))
                  (span_wider m n rs ts ht (omega arith) (λ j k c. sym (with_old rs m w j k (omega arith))) r.taken r.spanned))))
              | inr q ↦ let b : i < m = omega arith in
                  span_same f l n ts ht (ss i) (ts i) (λ k. old i k b ∙ sym (with_old rs m w i k q)) (span_row f l n ts ht i h)
            ])
            (λ i h. elim (cases_eq i m) [
              | inl e ↦ span_same f l n ss hs (ts i) _ (λ k. ap (λ x. ts x k) e ∙ with_new rs m w k ∙ word_back k ∙ ap (λ x. f.sum x (f.product (f.negative 1) (r.taken k))) (sym (scaled_back k)))
                  (span_sum f l n ss hs _ _ (span_product f l n ss hs (v p) (ss m) (r.symbols p) (span_row f l n ss hs m (omega arith)))
                  (span_product f l n ss hs (f.negative 1) r.taken (l.negative_symbol 1 (one_symbol l)) (span_wider m n rs ss hs (omega arith) (λ j k c. sym (old j k c)) r.taken r.spanned)))
              | inr q ↦ let b : i < m = omega arith in
                  span_same f l n ss hs (ts i) (ss i) (λ k. with_old rs m w i k q ∙ sym (old i k b)) (span_row f l n ss hs i h)
            ])
