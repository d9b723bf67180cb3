-- A basis goes on standing for a draft's rows when one is loaded or withdrawn.
use Rattle.std.proofs.Common.{◌≡◌, ℕ, ◌+◌, ◌-◌, ◌<◌, ◌≤◌, true, List, [], ◌∷◌, ◌++◌, length, get_or, take, sym, refl, ap, ◌∙◌, subst, inl, inr, arith}
use Rattle.std.proofs.lemmas.List.{get_or_append_left, get_or_push, length_push, get_or_past, get_or-take, length-take}
use Rattle.std.proofs.lemmas.Bool.{cases_eq, cases_lt}
use Rattle.field.specs.Field.{Ops, Laws}
use Rattle.algebra.specs.Words.{word, cells, cut, symbol_cells, with_row, Symbols, Span, SameSpan, Dependent, Independent}
use Rattle.algebra.proofs.Symbols.{zero_symbol}
use Rattle.algebra.proofs.Cuts.{cut_whole}
use Rattle.algebra.proofs.Spans.{span_same, span_row, span_within}
use Rattle.algebra.proofs.Triangular.{triangular_independent}
use Rattle.algebra.proofs.Elimination.{same_trans}
use Rattle.algebra.proofs.Forms.{same_back}
use Rattle.algebra.proofs.Growing.{same_rows, same_with_row, with_new, with_old}
use Rattle.basis.specs.declared.Basis.{Basis}
use Rattle.basis.specs.Parts as Bases
use Rattle.basis.proofs.Triangles as Triangles
use Rattle.code.specs.Drafts.{State, Holds}

cells_push_old : (rows : List (List ℕ)) (row : List ℕ) (i k : ℕ) → i < length rows → cells (rows ++ row ∷ []) i k ≡ cells rows i k
cells_push_old rows row i k h = ap (λ r. word r k) (get_or_append_left rows (row ∷ []) [] i h)

cells_push_new : (rows : List (List ℕ)) (row : List ℕ) (k : ℕ) → cells (rows ++ row ∷ []) (length rows) k ≡ word row k
cells_push_new rows row k = ap (λ r. word r k) (get_or_push rows row [] (length rows) refl)

cells_push_past : (rows : List (List ℕ)) (row : List ℕ) (i k : ℕ) → length rows < i → cells (rows ++ row ∷ []) i k ≡ 0
cells_push_past rows row i k h = ap (λ r. word r k) (get_or_past (rows ++ row ∷ []) i [] (omega (arith, length_push rows row)))

module _ (f : Ops) (l : Laws f) (b : Basis) (s : State) (h : Holds f b s) where
  -- a basis spans just the words that the rows held do
  pub spans_all : SameSpan f (length s.rows) (cells s.rows) (Bases.count b) (Bases.rows_of f b)
  spans_all = subst (λ (x : ℕ). SameSpan f (length s.rows) (cells s.rows) x (Bases.rows_of f b)) (sym h.all) (h.spans (length s.rows) (omega arith))

  module _ (w : List ℕ) (long : length w ≡ s.size) (good : (k : ℕ) → k < length w → word w k < f.order) where
    pub cut_is : (k : ℕ) → cut f (Bases.size b) (word w) k ≡ word w k
    cut_is = cut_whole f (Bases.size b) w (long ∙ sym h.long) (λ k x. good k (let e = h.long in omega arith))

    word_symbols : Symbols f (word w)
    word_symbols k = elim (cases_lt k (length w)) [ inl x ↦ good k x | inr x ↦ rw (get_or_past w k 0 x) (zero_symbol l) ]

    pub dependent_from : Span f (Bases.count b) (Bases.rows_of f b) (cut f (Bases.size b) (word w)) → Dependent f s.rows w
    dependent_from p =
        spans_all.back (word w) (span_same f l (Bases.count b) (Bases.rows_of f b) (Triangles.symbols_of f l b) (word w) _ (λ k. sym (cut_is k)) p)

    pub dependent_to : Dependent f s.rows w → Span f (Bases.count b) (Bases.rows_of f b) (cut f (Bases.size b) (word w))
    dependent_to p =
        span_same f l (Bases.count b) (Bases.rows_of f b) (Triangles.symbols_of f l b) (cut f (Bases.size b) (word w)) (word w) cut_is (spans_all.there (word w) p)

    -- all rows, with the new one among them
    spans_last : (c : Basis) → Bases.Offered f b (cut f (Bases.size b) (word w)) true c
        → SameSpan f (length s.rows + 1) (cells (s.rows ++ w ∷ [])) (length s.rows + 1) (Bases.rows_of f c)
    spans_last c o =
        let m : ℕ = length s.rows in
        let j : ℕ = m + 1 in
        let held : ℕ → ℕ → ℕ = with_row (cells s.rows) m (word w) in
        let kept : ℕ → ℕ → ℕ = with_row (Bases.rows_of f b) m (word w) in
        let cutrow : ℕ → ℕ → ℕ = with_row (Bases.rows_of f b) m (cut f (Bases.size b) (word w)) in
        let last : SameSpan f j (Bases.rows_of f c) j cutrow =
        subst (λ (x : ℕ). SameSpan f (x + 1) (Bases.rows_of f c) (x + 1) (with_row (Bases.rows_of f b) x (cut f (Bases.size b) (word w)))) h.all o.4 in
        same_trans f j j j (cells (s.rows ++ w ∷ [])) held (Bases.rows_of f c)
        (same_rows f l j (cells (s.rows ++ w ∷ [])) held (λ i k x. elim (cases_eq i m) [
          | inl q ↦ ap (λ y. cells (s.rows ++ w ∷ []) y k) q ∙ cells_push_new s.rows w k ∙ sym (ap (λ y. held y k) q ∙ with_new (cells s.rows) m (word w) k)
          | inr q ↦ cells_push_old s.rows w i k (omega arith) ∙ sym (with_old (cells s.rows) m (word w) i k q)
        ]))
        (same_trans f j j j held kept (Bases.rows_of f c)
        (same_with_row f l m (cells s.rows) (Bases.rows_of f b) (word w) h.symbols (Triangles.symbols_of f l b) word_symbols (h.spans m (omega arith)))
        (same_trans f j j j kept cutrow (Bases.rows_of f c)
        (same_rows f l j kept cutrow (λ i k x. elim (cases_eq i m) [
          | inl q ↦ ap (λ y. kept y k) q ∙ with_new (Bases.rows_of f b) m (word w) k ∙ sym (cut_is k) ∙ sym (ap (λ y. cutrow y k) q ∙ with_new (Bases.rows_of f b) m (cut f (Bases.size b) (word w)) k)
          | inr q ↦ with_old (Bases.rows_of f b) m (word w) i k q ∙ sym (with_old (Bases.rows_of f b) m (cut f (Bases.size b) (word w)) i k q)
        ]))
        (same_back f j j (Bases.rows_of f c) cutrow last)))

    pub holds_push : (c : Basis) → Bases.Offered f b (cut f (Bases.size b) (word w)) true c → Holds f c record { size = s.size; rows = s.rows ++ w ∷ [] }
    holds_push c o =
        let rows : List (List ℕ) = s.rows ++ w ∷ [] in
        let m : ℕ = length s.rows in
        let e : Bases.count b ≡ m = h.all in
        let n : length rows ≡ m + 1 = length_push s.rows w in
        let more = o.2 in
        let whole : SameSpan f (m + 1) (cells rows) (m + 1) (Bases.rows_of f c) = spans_last c o in
        record {
          long = o.1 ∙ h.long;
          all = omega arith;
          lengths = λ i x. elim (cases_eq i m) [
            | inl q ↦ ap (λ j. length (get_or rows j [])) q ∙ ap length (get_or_push s.rows w [] m refl) ∙ long
            | inr q ↦ ap length (get_or_append_left s.rows (w ∷ []) [] i (omega arith)) ∙ h.lengths i (omega arith)
          ];
          symbols = λ i k. elim (cases_lt i m) [
            | inl x ↦ rw (cells_push_old s.rows w i k x) (h.symbols i k)
            | inr x ↦ elim (cases_eq i m) [
              | inl q ↦ rw (ap (λ j. cells rows j k) q ∙ cells_push_new s.rows w k) (word_symbols k)
              | inr q ↦ rw (cells_push_past s.rows w i k (omega arith)) (zero_symbol l)
            ]
          ];
          spans = λ i x. elim (cases_lt m i) [
            | inl y ↦ subst (λ (j : ℕ). SameSpan f j (cells rows) j (Bases.rows_of f c)) (omega arith) whole
            | inr y ↦ same_trans f i i i (cells rows) (cells s.rows) (Bases.rows_of f c)
                (same_rows f l i (cells rows) (cells s.rows) (λ j k z. cells_push_old s.rows w j k (omega arith)))
                (same_trans f i i i (cells s.rows) (Bases.rows_of f b) (Bases.rows_of f c) (h.spans i y)
                (same_rows f l i (Bases.rows_of f b) (Bases.rows_of f c) (λ j k z. sym (o.3 j k (omega arith)))))
          ];
        }

  pub holds_pop : (c : Basis) → Bases.Shortened b true c → Holds f c record { size = s.size; rows = take (length s.rows - 1) s.rows }
  holds_pop c o =
      let m : ℕ = length s.rows - 1 in
      let fewer : List (List ℕ) = take m s.rows in
      let n : length fewer ≡ m = let e = length-take m s.rows in omega arith in
      let one = o.0 in
      let count = h.all in
      let old : (i k : ℕ) → i < m → cells fewer i k ≡ cells s.rows i k = λ i k x. ap (λ r. word r k) (get_or-take m s.rows i [] x) in
      let same : (i k : ℕ) → Bases.rows_of f b i k ≡ Bases.rows_of f c i k = λ i k. ap (λ r. symbol_cells f r i k) (sym o.2) in
      record {
        long = o.1 ∙ h.long;
        all = omega arith;
        lengths = λ i x. ap length (get_or-take m s.rows i [] (omega arith)) ∙ h.lengths i (omega arith);
        symbols = λ i k. elim (cases_lt i m) [
          | inl x ↦ rw (old i k x) (h.symbols i k)
          | inr x ↦ rw (ap (λ r. word r k) (get_or_past fewer i [] (omega arith))) (zero_symbol l)
        ];
        spans = λ i x. same_trans f i i i (cells fewer) (cells s.rows) (Bases.rows_of f c)
            (same_rows f l i (cells fewer) (cells s.rows) (λ j k y. old j k (omega arith)))
            (same_trans f i i i (cells s.rows) (Bases.rows_of f b) (Bases.rows_of f c) (h.spans i (omega arith)) (same_rows f l i (Bases.rows_of f b) (Bases.rows_of f c) (λ j k y. same j k)));
      }

  -- no row held is a sum of multiples of those before it
  pub holds_independent : Independent f (length s.rows) (cells s.rows)
  holds_independent i x p =
      let rs : ℕ → ℕ → ℕ = cells s.rows in
      let ks : ℕ → ℕ → ℕ = Bases.rows_of f b in
      let kept = Triangles.symbols_of f l b in
      let j : i + 1 ≤ length s.rows = omega arith in
      let wide : Span f (i + 1) rs (ks i) = (h.spans (i + 1) j).back (ks i) (span_row f l (i + 1) ks kept i (omega arith)) in
      let short : Span f i rs (ks i) = span_same f l i rs h.symbols (ks i) _ wide.is
      (span_within f l (i + 1) rs i rs h.symbols (λ y z. elim (cases_eq y i) [
        | inl q ↦ span_same f l i rs h.symbols (rs y) (rs i) (λ k. ap (λ v. rs v k) q) p
        | inr q ↦ span_row f l i rs h.symbols y (omega arith)
      ]) wide.coefficients wide.symbols) in
      triangular_independent f l (Bases.count b) ks (Bases.pivots_of b) kept (Triangles.triangular f l b) i (let e = h.all in omega arith) ((h.spans i (omega arith)).there (ks i) short)
