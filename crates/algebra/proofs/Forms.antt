-- What follows for a reduced form of rows: it is the only one, and where it begins.
use Rattle.std.proofs.Common.{◌≡◌, ℕ, zero, suc, ◌<◌, ◌≤◌, sym, ap, ◌∙◌, subst, inl, inr, arith}
use Rattle.std.proofs.lemmas.Bool.{cases_eq, cases_lt}
use Rattle.field.specs.Field.{Ops, Laws}
use Rattle.algebra.specs.Words.{SymbolRows, Span, SameSpan}
use Rattle.algebra.specs.Reduced.{ReducedForm, OnlyForm, FirstPlace}
use Rattle.algebra.specs.Elimination.{Reduction}
use Rattle.algebra.proofs.Totals.{product_zero, total_zero}
use Rattle.algebra.proofs.Spans.{span_same, span_zero, span_row, same_span}
use Rattle.algebra.proofs.Triangular.{Triangular, last, triangular_count}
use Rattle.algebra.proofs.Growing.{same_rows}
use Rattle.algebra.proofs.Unique.{unique_count, unique_places, unique_rows}
use Rattle.algebra.proofs.Elimination.{same_trans}

pub same_back : (f : Ops) (a b : ℕ) (rs ss : ℕ → ℕ → ℕ) → SameSpan f a rs b ss → SameSpan f b ss a rs
same_back f a b rs ss p = record { there = p.back; back = p.there }

-- ascending places are no fewer than their numbers, so below n there are at most n
places_rise : (m : ℕ) (at : ℕ → ℕ) → ((i j : ℕ) → i < j → j < m → at i < at j) → (i : ℕ) → i < m → i ≤ at i
places_rise m at up zero h = omega arith
places_rise m at up (suc i) h = let b = places_rise m at up i (omega arith) in let c = up i (suc i) (omega arith) h in omega arith

pub places_fit : (m n : ℕ) (at : ℕ → ℕ) → ((i j : ℕ) → i < j → j < m → at i < at j) → ((i : ℕ) → i < m → at i < n) → m ≤ n
places_fit zero n at up low = omega arith
places_fit (suc m) n at up low = let b = places_rise (suc m) at up m (omega arith) in let c = low m (omega arith) in omega arith

module _ (f : Ops) (l : Laws f) where
  -- where each row has 0, so has each word that they span
  pub zero_place : (m : ℕ) (rs : ℕ → ℕ → ℕ) (k : ℕ) → ((i : ℕ) → i < m → rs i k ≡ 0) → (w : ℕ → ℕ) → Span f m rs w → w k ≡ 0
  zero_place m rs k z w p = p.is k ∙ total_zero f l _ m (λ i h. ap (f.product (p.coefficients i)) (z i h) ∙ product_zero f l _ (p.symbols i))

  module _ (m : ℕ) (rs : ℕ → ℕ → ℕ) (r : SymbolRows f rs) (k : ℕ) (ss : ℕ → ℕ → ℕ) (s : SymbolRows f ss) (at : ℕ → ℕ) (form : ReducedForm f m rs k ss at) where
    pub only_form : OnlyForm f m rs k ss at
    only_form j ts bt t other =
        let one = same_trans f k m j ss rs ts (same_back f m k rs ss form.span) other.span in (
          sym (unique_count f l k ss s at form.reduced j ts t bt other.reduced one),
          (λ i h. sym (unique_places f l k ss s at form.reduced j ts t bt other.reduced one i h)),
          (λ i p h. unique_rows f l k ss s at form.reduced j ts t bt other.reduced one i h p),
        )

    -- the first information place comes before the others
    early : (j p : ℕ) → j < k → p < at 0 → p < at j
    early j p h b = elim (cases_eq j 0) [ inl e ↦ rw (ap at e) b | inr n ↦ let c = form.reduced.systematic.ascends 0 j (omega arith) h in omega arith ]

    -- the first information place is the first place at which some row is not 0
    pub first_place : 0 < k → FirstPlace m rs (at 0)
    first_place some =
        elim (last (λ i. rs i (at 0)) m) [
          | inl q ↦ record {
            row = q.0;
            inside = q.1;
            some = q.2;
            before = λ i p h b. zero_place k ss p (λ j c. form.reduced.leading.before j p c (early j p c b)) (rs i) (form.span.there (rs i) (span_row f l m rs r i h));
          }
          | inr z ↦
              let own = form.reduced.systematic.own 0 some in
              let none = zero_place m rs (at 0) z (ss 0) (form.span.back (ss 0) (span_row f l k ss s 0 some)) in
              absurd (omega arith)
        ]

  -- a reduction of rows is one of all rows that are equal to them place by place
  pub reduction_of : (n m j : ℕ) (rs ss ts : ℕ → ℕ → ℕ) (rank : ℕ) (at : ℕ → ℕ) → m ≡ j → ((i k : ℕ) → rs i k ≡ ss i k) → Reduction f n m rs ts rank at → Reduction f n j ss ts rank at
  reduction_of n m j rs ss ts rank at e same r =
      subst (λ (x : ℕ). Reduction f n x ss ts rank at) e
      record {
        ranked = r.ranked;
        symbols = r.symbols;
        form = record { span = same_trans f m m rank ss rs ts (same_rows f l m ss rs (λ i k h. sym (same i k))) r.form.span; reduced = r.form.reduced };
        within = r.within;
        rest = r.rest;
      }

  -- rows of 0s after others add nothing to the span
  zero_rows : (m j : ℕ) (rs ss : ℕ → ℕ → ℕ) → SymbolRows f rs → SymbolRows f ss → m ≤ j → ((i k : ℕ) → i < m → rs i k ≡ ss i k) → ((i k : ℕ) → m ≤ i → i < j → ss i k ≡ 0) → SameSpan f m rs j ss
  zero_rows m j rs ss r s h same none =
      same_span f l m rs j ss r s
      (λ i b. span_same f l j ss s (rs i) (ss i) (λ k. same i k b) (span_row f l j ss s i (omega arith)))
      (λ i b. elim (cases_lt i m) [
        | inl c ↦ span_same f l m rs r (ss i) (rs i) (λ k. sym (same i k c)) (span_row f l m rs r i c)
        | inr c ↦ span_same f l m rs r (ss i) (λ _. 0) (λ k. none i k c b) (span_zero f l m rs r)
      ])

  -- a reduced form of rows with rows of 0s after them, given place by place, is one of the rows
  pub form_of : (m j : ℕ) (rs ss ts us : ℕ → ℕ → ℕ) (k : ℕ) (at : ℕ → ℕ) → SymbolRows f rs → SymbolRows f ss → m ≤ j → ((i p : ℕ) → i < m → rs i p ≡ ss i p)
      → ((i p : ℕ) → m ≤ i → i < j → ss i p ≡ 0) → ((i p : ℕ) → ts i p ≡ us i p) → ReducedForm f j ss k ts at → ReducedForm f m rs k us at
  form_of m j rs ss ts us k at r s h same none equal form =
      let sys = form.reduced.systematic in
      record {
        span = same_trans f m j k rs ss us (zero_rows m j rs ss r s h same none) (same_trans f j k k ss ts us form.span (same_rows f l k ts us (λ i p b. equal i p)));
        reduced = record {
          systematic = record {
            ascends = sys.ascends;
            own = λ i b. sym (equal i (at i)) ∙ sys.own i b;
            others = λ i p b c n. sym (equal i (at p)) ∙ sys.others i p b c n;
          };
          leading = record { before = λ i p b c. sym (equal i p) ∙ form.reduced.leading.before i p b c };
        };
      }

  -- rows that are equal place by place have the same reduced form
  pub form_same : (m k : ℕ) (rs ss ts : ℕ → ℕ → ℕ) (at : ℕ → ℕ) → ((i p : ℕ) → i < m → ss i p ≡ rs i p) → ReducedForm f m rs k ts at → ReducedForm f m ss k ts at
  form_same m k rs ss ts at same form = record { span = same_trans f m m k ss rs ts (same_rows f l m ss rs same) form.span; reduced = form.reduced }

  -- the reduced form of triangular rows has as many
  pub form_count : (m k : ℕ) (rs ss : ℕ → ℕ → ℕ) (bt at : ℕ → ℕ) → SymbolRows f rs → SymbolRows f ss → Triangular m rs bt → ReducedForm f m rs k ss at → k ≡ m
  form_count m k rs ss bt at r s t form =
      let sys = form.reduced.systematic in
      let up : Triangular k ss at = record { own = sys.own; cleared = λ i j h b. sys.others i j b (omega arith) (omega arith) } in
      let most : m ≤ k = triangular_count f l m rs bt r t k ss s (λ i h. form.span.there (rs i) (span_row f l m rs r i h)) in
      let least : k ≤ m = triangular_count f l k ss at s up m rs r (λ i h. form.span.back (ss i) (span_row f l k ss s i h)) in
      omega arith
