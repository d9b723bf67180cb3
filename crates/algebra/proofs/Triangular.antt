-- Triangular rows: each has 1 at its own pivot and 0 at the pivots of the rows before it.
-- They are independent, and no fewer rows span them.
use Rattle.std.proofs.Common.{◌≡◌, ℕ, zero, suc, ◌+◌, ◌<◌, ◌≤◌, cond, eqb, ltb, ◌⊎◌, sym, refl, ap, ◌∙◌, ap₂, inl, inr, not-suc-le-zero, arith}
use Rattle.std.proofs.lemmas.Bool.{cases_eq, cases_lt, cond-true, cond-false, cond_both, eq-eqb, ne_eqb, lt-ltb, le-ltb}
use Rattle.field.specs.Field.{Ops, Laws}
use Rattle.algebra.specs.Words.{Symbols, SymbolRows, combination, Span, Independent}
use Rattle.algebra.proofs.Symbols.{zero_symbol, one_symbol}
use Rattle.algebra.proofs.Totals.{sum_zero_right, product_zero, zero_product, total_one, total_zero}
use Rattle.algebra.proofs.Spans.{product_one_right, combination_symbol, combination_sum, combination_product, span_same, span_row}

pub record Triangular (m : ℕ) (rs : ℕ → ℕ → ℕ) (at : ℕ → ℕ) : Type 0 where
  pub own : (i : ℕ) → i < m → rs i (at i) ≡ 1
  pub cleared : (i j : ℕ) → j < i → i < m → rs i (at j) ≡ 0

-- the last number below m at which g is not 0, or g is 0 at all of them
pub last : (g : ℕ → ℕ) (m : ℕ) → ((i : ℕ) × (i < m) × (g i ≡ 0 → ⊥) × ((j : ℕ) → i < j → j < m → g j ≡ 0)) ⊎ ((i : ℕ) → i < m → g i ≡ 0)
last g zero = inr (λ i h. absurd (not-suc-le-zero h))
last g (suc m) =
    elim (cases_eq (g m) 0) [
      | inr n ↦ inl (m, omega arith, n, λ j a b. absurd (omega arith))
      | inl e ↦ elim (last g m) [
        | inl p ↦ inl (p.0, (let h = p.1 in omega arith), p.2, λ j a b. elim (cases_eq j m) [ inl q ↦ ap g q ∙ e | inr q ↦ p.3 j a (omega arith) ])
        | inr z ↦ inr (λ i h. elim (cases_eq i m) [ inl q ↦ ap g q ∙ e | inr q ↦ z i (omega arith) ])
      ]
    ]

-- the numbers but for i₀
skip : ℕ → ℕ → ℕ
skip i₀ i = cond (ltb i i₀) i (i + 1)

skip_low : (i₀ i : ℕ) → i < i₀ → skip i₀ i ≡ i
unfolding skip
skip_low i₀ i h = cond-true _ _ _ (lt-ltb i i₀ h)

skip_high : (i₀ i : ℕ) → i₀ ≤ i → skip i₀ i ≡ i + 1
unfolding skip
skip_high i₀ i h = cond-false _ _ _ (le-ltb i i₀ h)

skip_other : (i₀ i : ℕ) → skip i₀ i ≡ i₀ → ⊥
skip_other i₀ i e = elim (cases_lt i i₀) [ inl h ↦ omega (arith, skip_low i₀ i h) | inr h ↦ omega (arith, skip_high i₀ i h) ]

skip_rises : (i₀ j i : ℕ) → j < i → skip i₀ j < skip i₀ i
skip_rises i₀ j i h = elim (cases_lt i i₀) [
  | inl a ↦ omega (arith, skip_low i₀ i a, skip_low i₀ j (omega arith))
  | inr a ↦ elim (cases_lt j i₀) [
    | inl b ↦ omega (arith, skip_high i₀ i a, skip_low i₀ j b)
    | inr b ↦ omega (arith, skip_high i₀ i a, skip_high i₀ j b)
  ]
]

skip_below : (i₀ i m : ℕ) → i < m → skip i₀ i < suc m
skip_below i₀ i m h = elim (cases_lt i i₀) [ inl a ↦ omega (arith, skip_low i₀ i a) | inr a ↦ omega (arith, skip_high i₀ i a) ]

module _ (f : Ops) (l : Laws f) where
  pub negative_zero : f.negative 0 ≡ 0
  negative_zero = let z = zero_symbol l in sym (l.sum_zero (f.negative 0) (l.negative_symbol 0 z)) ∙ l.sum_negative 0 z

  -- a + (- (a / b)) b = 0
  removed : (a b : ℕ) → a < f.order → b < f.order → (b ≡ 0 → ⊥) → f.sum a (f.product (f.negative (f.product a (f.inverse b))) b) ≡ 0
  removed a b ha hb nb =
      let d = f.inverse b in
      let hd : d < f.order = l.inverse_symbol b hb in
      let c = f.product a d in
      let hc : c < f.order = l.product_symbol a d ha hd in
      let whole : f.product c b ≡ a = l.product_assoc a d b ha hd hb ∙ ap (f.product a) (l.product_comm d b hd hb ∙ l.product_inverse b hb nb) ∙ product_one_right f l a ha in
      let n = l.negative_symbol c hc in
      ap (λ x. f.sum x (f.product (f.negative c) b)) (sym whole)
      ∙ ap₂ f.sum (l.product_comm c b hc hb) (l.product_comm (f.negative c) b n hb)
      ∙ sym (l.product_sum b c (f.negative c) hb hc n)
      ∙ ap (f.product b) (l.sum_negative c hc)
      ∙ product_zero f l b hb

  module _ (m : ℕ) (rs : ℕ → ℕ → ℕ) (s : SymbolRows f rs) (at : ℕ → ℕ) (t : Triangular m rs at) where
    -- a sum of multiples that is 0 at the pivots has only coefficients 0
    coefficient_zero : (w : ℕ → ℕ) (p : Span f m rs w) → ((j : ℕ) → j < m → w (at j) ≡ 0) → (n j : ℕ) → j < n → j < m → p.coefficients j ≡ 0
    coefficient_zero w p z zero j b h = absurd (not-suc-le-zero b)
    coefficient_zero w p z (suc n) j b h =
        let c = p.coefficients in
        sym (product_one_right f l (c j) (p.symbols j)) ∙ ap (f.product (c j)) (sym (t.own j h))
        ∙ sym (total_one f l _ m j (λ i. l.product_symbol _ _ (p.symbols i) (s i (at j))) h
        (λ i k ne. elim (cases_lt i j) [
          | inl q ↦ ap (λ x. f.product x (rs i (at j))) (coefficient_zero w p z n i (omega arith) k) ∙ zero_product f l _ (s i (at j))
          | inr q ↦ ap (f.product (c i)) (t.cleared i j (omega arith) k) ∙ product_zero f l _ (p.symbols i)
        ]))
        ∙ sym (p.is (at j)) ∙ z j h

    -- a sum of multiples that is 0 at the pivots is 0
    pub vanishes : (w : ℕ → ℕ) → Span f m rs w → ((j : ℕ) → j < m → w (at j) ≡ 0) → (k : ℕ) → w k ≡ 0
    vanishes w p z k =
        p.is k ∙ total_zero f l _ m (λ i h. ap (λ x. f.product x (rs i k)) (coefficient_zero w p z (suc i) i (omega arith) h) ∙ zero_product f l _ (s i k))

  -- a last coefficient 0 can be left out
  shorter : (k : ℕ) (ss : ℕ → ℕ → ℕ) → SymbolRows f ss → (c : ℕ → ℕ) → Symbols f c → c k ≡ 0 → (p : ℕ) → combination f c ss (suc k) p ≡ combination f c ss k p
  shorter k ss s c hc z p =
      ap (f.sum (combination f c ss k p)) (ap (λ x. f.product x (ss k p)) z ∙ zero_product f l _ (s k p)) ∙ sum_zero_right f l _ (combination_symbol f l k ss s c hc p)

  -- what a row takes of the row i₀ so that its coefficient k becomes 0
  abbrev share : (ℕ → ℕ → ℕ) → ℕ → ℕ → ℕ → ℕ
  share cs i₀ k i = f.negative (f.product (cs i k) (f.inverse (cs i₀ k)))

  -- the rows but for i₀, each with its share of the row i₀
  abbrev without : (ℕ → ℕ → ℕ) → ℕ → ℕ → (ℕ → ℕ → ℕ) → ℕ → ℕ → ℕ
  without cs i₀ k xs i p = f.sum (xs (skip i₀ i) p) (f.product (share cs i₀ k (skip i₀ i)) (xs i₀ p))

  module _ (k m : ℕ) (rs : ℕ → ℕ → ℕ) (at : ℕ → ℕ) (ss cs : ℕ → ℕ → ℕ) (r : SymbolRows f rs) (s : SymbolRows f ss) (hs : SymbolRows f cs) (t : Triangular (suc m) rs at)
      (is : (i : ℕ) → i < suc m → (p : ℕ) → rs i p ≡ combination f (cs i) ss (suc k) p)
      (i₀ : ℕ) (h₀ : i₀ < suc m) (some : cs i₀ k ≡ 0 → ⊥) (none : (j : ℕ) → i₀ < j → j < suc m → cs j k ≡ 0) where
    share_symbol : (i : ℕ) → share cs i₀ k i < f.order
    share_symbol i = l.negative_symbol _ (l.product_symbol _ _ (hs i k) (l.inverse_symbol _ (hs i₀ k)))

    without_symbol : (xs : ℕ → ℕ → ℕ) → SymbolRows f xs → SymbolRows f (without cs i₀ k xs)
    without_symbol xs x i p = l.sum_symbol _ _ (x (skip i₀ i) p) (l.product_symbol _ _ (share_symbol (skip i₀ i)) (x i₀ p))

    -- a row that takes nothing is as it was
    keeps : (i p : ℕ) → f.product (share cs i₀ k i) (rs i₀ p) ≡ 0 → f.sum (rs i p) (f.product (share cs i₀ k i) (rs i₀ p)) ≡ rs i p
    keeps i p z = ap (f.sum (rs i p)) z ∙ sum_zero_right f l _ (r i p)

    after : (i p : ℕ) → i < suc m → i₀ < i → f.sum (rs i p) (f.product (share cs i₀ k i) (rs i₀ p)) ≡ rs i p
    after i p h o =
        let d : f.inverse (cs i₀ k) < f.order = l.inverse_symbol _ (hs i₀ k) in
        let zero_share : share cs i₀ k i ≡ 0 = ap (λ x. f.negative (f.product x (f.inverse (cs i₀ k)))) (none i o h) ∙ ap f.negative (zero_product f l _ d) ∙ negative_zero in
        keeps i p (ap (λ x. f.product x (rs i₀ p)) zero_share ∙ zero_product f l _ (r i₀ p))

    before : (i p : ℕ) → rs i₀ p ≡ 0 → f.sum (rs i p) (f.product (share cs i₀ k i) (rs i₀ p)) ≡ rs i p
    before i p z = keeps i p (ap (f.product (share cs i₀ k i)) z ∙ product_zero f l _ (share_symbol i))

    -- at the pivot of a row j that is no later, a row is as it was
    at_pivot : (i j : ℕ) → i < suc m → j ≤ i → (i ≡ i₀ → ⊥) → f.sum (rs i (at j)) (f.product (share cs i₀ k i) (rs i₀ (at j))) ≡ rs i (at j)
    at_pivot i j h b n = elim (cases_lt i i₀) [
      | inl a ↦ before i (at j) (t.cleared i₀ j (omega arith) h₀)
      | inr a ↦ after i (at j) h (omega arith)
    ]

    without_triangular : Triangular m (without cs i₀ k rs) (λ i. at (skip i₀ i))
    without_triangular = record {
      own = λ i h. at_pivot (skip i₀ i) (skip i₀ i) (skip_below i₀ i m h) (omega arith) (skip_other i₀ i) ∙ t.own (skip i₀ i) (skip_below i₀ i m h);
      cleared = λ i j b h. let c = skip_rises i₀ j i b in
          at_pivot (skip i₀ i) (skip i₀ j) (skip_below i₀ i m h) (omega arith) (skip_other i₀ i) ∙ t.cleared (skip i₀ i) (skip i₀ j) c (skip_below i₀ i m h);
    }

    without_spanned : (i : ℕ) → i < m → (p : ℕ) → without cs i₀ k rs i p ≡ combination f (without cs i₀ k cs i) ss k p
    without_spanned i h p =
        let j = skip i₀ i in
        let a = share cs i₀ k j in
        let ha : a < f.order = share_symbol j in
        ap₂ (λ x y. f.sum x (f.product a y)) (is j (skip_below i₀ i m h) p) (is i₀ h₀ p)
        ∙ ap (f.sum (combination f (cs j) ss (suc k) p)) (combination_product f l (suc k) ss s a (cs i₀) ha (hs i₀) p)
        ∙ combination_sum f l (suc k) ss s (cs j) (λ x. f.product a (cs i₀ x)) (hs j) (λ x. l.product_symbol _ _ ha (hs i₀ x)) p
        ∙ shorter k ss s (without cs i₀ k cs i) (without_symbol cs hs i) (removed (cs j k) (cs i₀ k) (hs j k) (hs i₀ k) some) p

  -- of m triangular rows that k rows span, m is at most k: cs are their coefficients
  exchange : (k m : ℕ) (rs : ℕ → ℕ → ℕ) (at : ℕ → ℕ) (ss cs : ℕ → ℕ → ℕ) → SymbolRows f rs → SymbolRows f ss → SymbolRows f cs → Triangular m rs at
      → ((i : ℕ) → i < m → (p : ℕ) → rs i p ≡ combination f (cs i) ss k p) → m ≤ k
  exchange zero m rs at ss cs r s hs t is =
      elim (cases_eq m 0) [ inl e ↦ omega arith | inr n ↦ let h : 0 < m = omega arith in absurd (omega (arith, t.own 0 h, is 0 h (at 0))) ]
  exchange (suc k) zero rs at ss cs r s hs t is = omega arith
  exchange (suc k) (suc m) rs at ss cs r s hs t is =
      elim (last (λ i. cs i k) (suc m)) [
        | inr z ↦
            let fewer : suc m ≤ k = exchange k (suc m) rs at ss cs r s hs t (λ i h p. is i h p ∙ shorter k ss s (cs i) (hs i) (z i h) p) in
            omega arith
        | inl q ↦
            let fewer : m ≤ k = exchange k m (without cs q.0 k rs) (λ i. at (skip q.0 i)) ss (without cs q.0 k cs)
            (without_symbol k m rs at ss cs r s hs t is q.0 q.1 q.2 q.3 rs r) s (without_symbol k m rs at ss cs r s hs t is q.0 q.1 q.2 q.3 cs hs)
            (without_triangular k m rs at ss cs r s hs t is q.0 q.1 q.2 q.3) (without_spanned k m rs at ss cs r s hs t is q.0 q.1 q.2 q.3) in
            omega arith
      ]

  -- the coefficients of a row that is spanned
  chosen : {m k : ℕ} {rs ss : ℕ → ℕ → ℕ} → ((i : ℕ) → i < m → Span f k ss (rs i)) → (i : ℕ) → (i < m) ⊎ (m ≤ i) → ℕ → ℕ
  chosen each i (inl h) = (each i h).coefficients
  chosen each i (inr h) = λ _. 0

  chosen_symbol : {m k : ℕ} {rs ss : ℕ → ℕ → ℕ} (each : (i : ℕ) → i < m → Span f k ss (rs i)) (i : ℕ) (x : (i < m) ⊎ (m ≤ i)) → Symbols f (chosen each i x)
  unfolding chosen
  chosen_symbol each i (inl h) = (each i h).symbols
  chosen_symbol each i (inr h) = λ _. zero_symbol l

  chosen_is : {m k : ℕ} {rs ss : ℕ → ℕ → ℕ} (each : (i : ℕ) → i < m → Span f k ss (rs i)) (i : ℕ) (x : (i < m) ⊎ (m ≤ i)) → i < m → (p : ℕ) → rs i p ≡ combination f (chosen each i x) ss k p
  unfolding chosen
  chosen_is each i (inl h) b p = (each i h).is p
  chosen_is each i (inr h) b p = absurd (omega arith)

  module _ (m : ℕ) (rs : ℕ → ℕ → ℕ) (at : ℕ → ℕ) (r : SymbolRows f rs) (t : Triangular m rs at) where
    pub triangular_count : (k : ℕ) (ss : ℕ → ℕ → ℕ) → SymbolRows f ss → ((i : ℕ) → i < m → Span f k ss (rs i)) → m ≤ k
    triangular_count k ss s each =
        exchange k m rs at ss (λ i. chosen each i (cases_lt i m)) r s (λ i. chosen_symbol each i (cases_lt i m)) t (λ i h. chosen_is each i (cases_lt i m) h)

  -- the word with 1 at the place j alone
  abbrev unit : ℕ → ℕ → ℕ
  unit j k = cond (eqb j k) 1 0

  unit_symbols : SymbolRows f unit
  unit_symbols j k = cond_both (eqb j k) 1 0 (λ x. x < f.order) (λ _. one_symbol l) (λ _. zero_symbol l)

  -- a word of n places is the sum of the first n units times its symbols
  spanned_by_units : (n : ℕ) (w : ℕ → ℕ) → Symbols f w → ((k : ℕ) → n ≤ k → w k ≡ 0) → Span f n unit w
  spanned_by_units n w s past = record {
    coefficients = w;
    symbols = s;
    is = λ k. sym (elim (cases_lt k n) [
      | inl h ↦ total_one f l _ n k (λ j. l.product_symbol _ _ (s j) (unit_symbols j k)) h
          (λ j _ ne. ap (f.product (w j)) (cond-false _ _ _ (ne_eqb j k ne)) ∙ product_zero f l _ (s j))
          ∙ ap (f.product (w k)) (cond-true _ _ _ (eq-eqb k k refl)) ∙ product_one_right f l _ (s k)
      | inr h ↦ total_zero f l _ n (λ j b. ap (f.product (w j)) (cond-false _ _ _ (ne_eqb j k (omega arith))) ∙ product_zero f l _ (s j)) ∙ sym (past k h)
    ]);
  }

  -- of rows of n places at most n are triangular
  pub triangular_fits : (n m : ℕ) (rs : ℕ → ℕ → ℕ) (at : ℕ → ℕ) → SymbolRows f rs → Triangular m rs at → ((i k : ℕ) → i < m → n ≤ k → rs i k ≡ 0) → m ≤ n
  triangular_fits n m rs at r t past = triangular_count m rs at r t n unit unit_symbols (λ i h. spanned_by_units n (rs i) (r i) (λ k b. past i k h b))

  pub triangular_independent : (m : ℕ) (rs : ℕ → ℕ → ℕ) (at : ℕ → ℕ) → SymbolRows f rs → Triangular m rs at → Independent f m rs
  triangular_independent m rs at r t i h p =
      let first : Triangular (suc i) rs at = record { own = λ j b. t.own j (omega arith); cleared = λ j g b c. t.cleared j g b (omega arith) } in
      let few : suc i ≤ i = triangular_count (suc i) rs at r first i rs r (λ j b. elim (cases_eq j i) [
        | inl e ↦ span_same f l i rs r (rs j) (rs i) (λ k. ap (λ x. rs x k) e) p
        | inr n ↦ span_row f l i rs r j (omega arith)
      ]) in
      omega arith
