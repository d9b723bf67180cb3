-- Each step of an elimination keeps what had been reached.
use Rattle.std.proofs.Common.{◌≡◌, ℕ, ◌+◌, ◌<◌, ◌≤◌, sym, ap, ◌∙◌, ap₂, inl, inr, arith}
use Rattle.std.proofs.lemmas.Bool.{cases_eq, cases_lt}
use Rattle.field.specs.Field.{Ops, Laws}
use Rattle.algebra.specs.Words.{SymbolRows, SameSpan}
use Rattle.algebra.specs.Elimination.{Swapped, Scaled, Cleared, Progress, Pivots, Reduction}
use Rattle.algebra.proofs.Totals.{product_zero, sum_zero_right, total_zero}
use Rattle.algebra.proofs.Spans.{product_one_right, taken_back, span_same, span_zero, span_sum, span_product, span_row, same_span, scaled_span, swapped_span}

pub same_trans : (f : Ops) (a b c : ℕ) (rs ss ts : ℕ → ℕ → ℕ) → SameSpan f a rs b ss → SameSpan f b ss c ts → SameSpan f a rs c ts
same_trans f a b c rs ss ts p q = record { there = λ w x. q.there w (p.there w x); back = λ w x. p.back w (q.back w x) }

module _ (f : Ops) (l : Laws f) (m : ℕ) where
  module _ (start rs ss : ℕ → ℕ → ℕ) (rank col : ℕ) (at : ℕ → ℕ) (done : Progress f m start rs rank col at) where
    -- the other rows have 0 at more places
    pub progress_on : (p : ℕ) → col ≤ p → ((i k : ℕ) → i < m → rank ≤ i → col ≤ k → k < p → rs i k ≡ 0) → Progress f m start rs rank p at
    progress_on p h z = record {
      symbols = done.symbols;
      span = done.span;
      ranked = done.ranked;
      counted = let c = done.counted in omega arith;
      within = λ i b. let c = done.within i b in omega arith;
      ascends = done.ascends;
      own = done.own;
      before = done.before;
      others = done.others;
      rest = λ i k b c x. elim (cases_lt k col) [ inl y ↦ done.rest i k b c y | inr y ↦ z i k b c y x ];
    }

    pub progress_swap : (j : ℕ) → rank ≤ j → j < m → Swapped rs ss rank j → Progress f m start ss rank col at
    progress_swap j b hj w =
        let symbol : SymbolRows f ss = λ h k. elim (cases_eq h rank) [
          | inl e ↦ rw (ap (λ x. ss x k) e ∙ w.0 k) (done.symbols j k)
          | inr n ↦ elim (cases_eq h j) [
            | inl e ↦ rw (ap (λ x. ss x k) e ∙ w.1 k) (done.symbols rank k)
            | inr o ↦ rw (w.2 h k n o) (done.symbols h k)
          ]
        ] in
        let old : (i k : ℕ) → i < rank → ss i k ≡ rs i k = λ i k h. w.2 i k (omega arith) (omega arith) in
        record {
          symbols = symbol;
          span = same_trans f m m m start rs ss done.span (swapped_span f l m rs ss done.symbols symbol rank (omega arith) j hj w.0 w.1 w.2);
          ranked = done.ranked;
          counted = done.counted;
          within = done.within;
          ascends = done.ascends;
          own = λ i h. old i (at i) h ∙ done.own i h;
          before = λ i k h x. old i k h ∙ done.before i k h x;
          others = λ i k h x n. elim (cases_eq i rank) [
            | inl e ↦ ap (λ y. ss y (at k)) e ∙ w.0 (at k) ∙ done.others j k hj x (omega arith)
            | inr o ↦ elim (cases_eq i j) [
              | inl e ↦ ap (λ y. ss y (at k)) e ∙ w.1 (at k) ∙ done.others rank k (omega arith) x (omega arith)
              | inr q ↦ w.2 i (at k) o q ∙ done.others i k h x n
            ]
          ];
          rest = λ i k h x y. elim (cases_eq i rank) [
            | inl e ↦ ap (λ z. ss z k) e ∙ w.0 k ∙ done.rest j k hj b y
            | inr o ↦ elim (cases_eq i j) [
              | inl e ↦ ap (λ z. ss z k) e ∙ w.1 k ∙ done.rest rank k (omega arith) (omega arith) y
              | inr q ↦ w.2 i k o q ∙ done.rest i k h x y
            ]
          ];
        }

    pub progress_scale : (c : ℕ) → c < f.order → (c ≡ 0 → ⊥) → rank < m → Scaled f rs ss rank c → Progress f m start ss rank col at
    progress_scale c hc nz hr w =
        let symbol : SymbolRows f ss = λ h k. elim (cases_eq h rank) [
          | inl e ↦ rw (ap (λ x. ss x k) e ∙ w.0 k) (l.product_symbol c (rs rank k) hc (done.symbols rank k))
          | inr n ↦ rw (w.1 h k n) (done.symbols h k)
        ] in
        let zeros : (i k : ℕ) → rs i k ≡ 0 → ss i k ≡ 0 = λ i k z. elim (cases_eq i rank) [
          | inl e ↦ ap (λ x. ss x k) e ∙ w.0 k ∙ ap (f.product c) (ap (λ x. rs x k) (sym e) ∙ z) ∙ product_zero f l c hc
          | inr n ↦ w.1 i k n ∙ z
        ] in
        record {
          symbols = symbol;
          span = same_trans f m m m start rs ss done.span (scaled_span f l m rs ss done.symbols symbol rank hr c hc nz w.0 w.1);
          ranked = done.ranked;
          counted = done.counted;
          within = done.within;
          ascends = done.ascends;
          own = λ i h. w.1 i (at i) (omega arith) ∙ done.own i h;
          before = λ i k h x. zeros i k (done.before i k h x);
          others = λ i k h x n. zeros i (at k) (done.others i k h x n);
          rest = λ i k h x y. zeros i k (done.rest i k h x y);
        }

    module _ (w : Cleared f m rs ss rank col) (hr : rank < m) (one : rs rank col ≡ 1) (bt : ℕ → ℕ) (new : bt rank ≡ col) (old : (i : ℕ) → i < rank → bt i ≡ at i) where
      factor : (i : ℕ) → f.negative (rs i col) < f.order
      factor i = l.negative_symbol (rs i col) (done.symbols i col)

      symbol : SymbolRows f ss
      symbol h k = elim (cases_lt h m) [
        | inl b ↦ elim (cases_eq h rank) [
          | inl e ↦ rw (ap (λ x. ss x k) e ∙ w.0 k) (done.symbols rank k)
          | inr n ↦ rw (w.1 h k b n) (l.sum_symbol _ _ (done.symbols h k) (l.product_symbol _ _ (factor h) (done.symbols rank k)))
        ]
        | inr b ↦ rw (w.2 h k b) (done.symbols h k)
      ]

      -- a row is as it was where the row of the step has 0
      stays : (i k : ℕ) → i < m → rs rank k ≡ 0 → ss i k ≡ rs i k
      stays i k h z = elim (cases_eq i rank) [
        | inl e ↦ ap (λ x. ss x k) e ∙ w.0 k ∙ ap (λ x. rs x k) (sym e)
        | inr n ↦ w.1 i k h n ∙ ap (λ x. f.sum (rs i k) x) (ap (f.product (f.negative (rs i col))) z ∙ product_zero f l _ (factor i)) ∙ sum_zero_right f l _ (done.symbols i k)
      ]

      gone : (i : ℕ) → i < m → (i ≡ rank → ⊥) → ss i col ≡ 0
      gone i h n =
          w.1 i col h n ∙ ap (f.sum (rs i col)) (ap (f.product (f.negative (rs i col))) one ∙ product_one_right f l _ (factor i)) ∙ l.sum_negative (rs i col) (done.symbols i col)

      cleared_span : SameSpan f m rs m ss
      cleared_span =
          same_span f l m rs m ss done.symbols symbol
          (λ h b. elim (cases_eq h rank) [
            | inl e ↦ span_same f l m ss symbol (rs h) (ss rank) (λ k. ap (λ x. rs x k) e ∙ sym (w.0 k)) (span_row f l m ss symbol rank hr)
            | inr n ↦ span_same f l m ss symbol (rs h) _
                (λ k. sym (ap₂ (λ x y. f.sum x (f.product (f.negative (f.negative (rs h col))) y)) (w.1 h k b n) (w.0 k) ∙ taken_back f l (rs h k) (rs rank k) (f.negative (rs h col)) (done.symbols h k) (done.symbols rank k) (factor h)))
                (span_sum f l m ss symbol _ _ (span_row f l m ss symbol h b) (span_product f l m ss symbol _ _ (l.negative_symbol _ (factor h)) (span_row f l m ss symbol rank hr)))
          ])
          (λ h b. elim (cases_eq h rank) [
            | inl e ↦ span_same f l m rs done.symbols (ss h) (rs rank) (λ k. ap (λ x. ss x k) e ∙ w.0 k) (span_row f l m rs done.symbols rank hr)
            | inr n ↦ span_same f l m rs done.symbols (ss h) _ (λ k. w.1 h k b n)
                (span_sum f l m rs done.symbols _ _ (span_row f l m rs done.symbols h b) (span_product f l m rs done.symbols _ _ (factor h) (span_row f l m rs done.symbols rank hr)))
          ])

      pub progress_clear : Progress f m start ss (rank + 1) (col + 1) bt
      progress_clear = record {
        symbols = symbol;
        span = same_trans f m m m start rs ss done.span cleared_span;
        ranked = omega arith;
        counted = let c = done.counted in omega arith;
        within = λ i h. elim (cases_eq i rank) [
          | inl e ↦ rw (ap bt e ∙ new) (omega arith)
          | inr n ↦ let b : i < rank = omega arith in let c = done.within i b in rw (old i b) (omega arith)
        ];
        ascends = λ i j h k. let a : i < rank = omega arith in elim (cases_eq j rank) [
          | inl e ↦ rw (old i a, ap bt e ∙ new) (done.within i a)
          | inr n ↦ let b : j < rank = omega arith in rw (old i a, old j b) (done.ascends i j h b)
        ];
        own = λ i h. elim (cases_eq i rank) [
          | inl e ↦ ap (λ x. ss x (bt x)) e ∙ ap (ss rank) new ∙ w.0 col ∙ one
          | inr n ↦ let b : i < rank = omega arith in
              ap (ss i) (old i b) ∙ stays i (at i) (omega arith) (done.others rank i hr b (omega arith)) ∙ done.own i b
        ];
        before = λ i k h x. elim (cases_eq i rank) [
          | inl e ↦ let z : k < col = rw (sym new ∙ ap bt (sym e)) x in ap (λ y. ss y k) e ∙ w.0 k ∙ done.rest rank k hr (omega arith) z
          | inr n ↦ let b : i < rank = omega arith in let o = old i b in let c = done.within i b in
              stays i k (omega arith) (done.rest rank k hr (omega arith) (omega arith)) ∙ done.before i k b (omega arith)
        ];
        others = λ i j h k n. elim (cases_eq j rank) [
          | inl e ↦ ap (ss i) (ap bt e ∙ new) ∙ gone i h (λ q. n (q ∙ sym e))
          | inr o ↦ let b : j < rank = omega arith in
              ap (ss i) (old j b) ∙ stays i (at j) h (done.others rank j hr b (omega arith)) ∙ done.others i j h b n
        ];
        rest = λ i k h x y. elim (cases_eq k col) [
          | inl e ↦ ap (ss i) e ∙ gone i h (omega arith)
          | inr n ↦ stays i k h (done.rest rank k hr (omega arith) (omega arith)) ∙ done.rest i k h (omega arith) (omega arith)
        ];
      }

    -- where the other rows have 0 at all places, the first ones are the reduced form
    pub progress_end : ((i k : ℕ) → col ≤ k → start i k ≡ 0) → Reduction f col m start rs rank at
    progress_end z =
        let ranked = done.ranked in
        let past : (i k : ℕ) → i < m → col ≤ k → rs i k ≡ 0 = λ i k h b.
        let q = done.span.back (rs i) (span_row f l m rs done.symbols i h) in
        q.is k ∙ total_zero f l _ m (λ j _. ap (f.product (q.coefficients j)) (z j k b) ∙ product_zero f l _ (q.symbols j)) in
        let rest : (i k : ℕ) → i < m → rank ≤ i → rs i k ≡ 0 = λ i k h b. elim (cases_lt k col) [ inl c ↦ done.rest i k h b c | inr c ↦ past i k h c ] in
        record {
          ranked = done.ranked;
          symbols = done.symbols;
          form = record {
            span = same_trans f m m rank start rs rs done.span (same_span f l m rs rank rs done.symbols done.symbols
                (λ i h. elim (cases_lt i rank) [
                  | inl b ↦ span_row f l rank rs done.symbols i b
                  | inr b ↦ span_same f l rank rs done.symbols (rs i) (λ _. 0) (λ k. rest i k h b) (span_zero f l rank rs done.symbols)
                ])
                (λ i h. span_row f l m rs done.symbols i (omega arith)));
            reduced = record {
              systematic = record {
                ascends = done.ascends;
                own = done.own;
                others = λ i j h k n. done.others i j (omega arith) k n;
              };
              leading = record { before = done.before };
            };
          };
          within = done.within;
          rest = rest;
        }

  -- swap, scale and clear
  module _ (rs r1 r2 r3 : ℕ → ℕ → ℕ) (rank j col c : ℕ) where
    pub pivots : rank ≤ j → j < m → (rs j col ≡ 0 → ⊥) → Swapped rs r1 rank j → c ≡ f.inverse (r1 rank col)
        → Scaled f r1 r2 rank c → Cleared f m r2 r3 rank col → Pivots f m rs r3 rank col
    pivots hj jm nz w e s d start at bt new old p =
        let a = r1 rank col in
        let p1 = progress_swap start rs r1 rank col at p j hj jm w in
        let ha : a < f.order = p1.symbols rank col in
        let na : a ≡ 0 → ⊥ = λ z. nz (sym (w.0 col) ∙ z) in
        let inverse : f.product a c ≡ 1 = ap (f.product a) e ∙ l.product_inverse a ha na in
        let hc : c < f.order = rw e (l.inverse_symbol a ha) in
        let nc : c ≡ 0 → ⊥ = λ z. let q : ◌≡◌ {A = ℕ} 0 1 = sym (product_zero f l a ha) ∙ ap (f.product a) (sym z) ∙ inverse in omega arith in
        let p2 = progress_scale start r1 r2 rank col at p1 c hc nc (omega arith) s in
        progress_clear start r2 r3 rank col at p2 d (omega arith) (s.0 col ∙ l.product_comm c a hc ha ∙ inverse) bt new old
