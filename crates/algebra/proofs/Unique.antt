-- Reading coefficients off systematic rows, and: two reduced forms of one span are equal.
use Rattle.std.proofs.Common.{◌≡◌, ℕ, zero, suc, ◌<◌, ◌≤◌, ◌⊎◌, sym, ap, ◌∙◌, inl, inr, not-suc-le-zero, arith}
use Rattle.std.proofs.lemmas.Bool.{cases_eq, cases_lt, cases_order}
use Rattle.field.specs.Field.{Ops, Laws}
use Rattle.algebra.specs.Words.{SymbolRows, Span, SameSpan}
use Rattle.algebra.specs.Reduced.{Systematic, Reduced}
use Rattle.algebra.proofs.Totals.{product_zero, zero_product, total_zero, total_one}
use Rattle.algebra.proofs.Spans.{product_one_right, span_row}

-- a number among the first m of g, or not
pub found : (g : ℕ → ℕ) (k m : ℕ) → ((i : ℕ) × (i < m) × (g i ≡ k)) ⊎ ((i : ℕ) → i < m → g i ≡ k → ⊥)
found g k zero = inr (λ i h e. not-suc-le-zero h)
found g k (suc m) =
    elim (cases_eq (g m) k) [
      | inl e ↦ inl (m, omega arith, e)
      | inr n ↦ elim (found g k m) [
        | inl p ↦ inl (p.0, (let h = p.1 in omega arith), p.2)
        | inr o ↦ inr (λ i h e. elim (cases_eq i m) [ inl q ↦ n (ap g (sym q) ∙ e) | inr q ↦ o i (omega arith) e ])
      ]
    ]

-- two ascending rows of numbers agree at i
record Agree (m : ℕ) (at : ℕ → ℕ) (n : ℕ) (bt : ℕ → ℕ) (i : ℕ) : Type 0 where
  there : i < n → i < m
  back : i < m → i < n
  same : i < n → i < m → at i ≡ bt i

module _ (f : Ops) (l : Laws f) where
  module _ (m : ℕ) (rs : ℕ → ℕ → ℕ) (s : SymbolRows f rs) (at : ℕ → ℕ) (sys : Systematic m rs at) where
    -- the coefficients of a word stand at the information places
    pub read_off : (w : ℕ → ℕ) (p : Span f m rs w) (j : ℕ) → j < m → w (at j) ≡ p.coefficients j
    read_off w p j h =
        let cs = p.coefficients in
        p.is (at j)
        ∙ total_one f l _ m j (λ i. l.product_symbol _ _ (p.symbols i) (s i (at j))) h
        (λ i k ne. ap (f.product (cs i)) (sys.others i j k h ne) ∙ product_zero f l (cs i) (p.symbols i))
        ∙ ap (f.product (cs j)) (sys.own j h) ∙ product_one_right f l (cs j) (p.symbols j)

  module _ (m : ℕ) (rs : ℕ → ℕ → ℕ) (s : SymbolRows f rs) (at : ℕ → ℕ) (red : Reduced m rs at) where
    -- a word that is not 0 begins at an information place
    pub begins : (w : ℕ → ℕ) → Span f m rs w → (k : ℕ) → (w k ≡ 0 → ⊥) → ((j : ℕ) → j < k → w j ≡ 0) → (i : ℕ) × (i < m) × (at i ≡ k)
    begins w p k nz z =
        elim (found at k m) [
          | inl q ↦ q
          | inr none ↦ absurd (nz (p.is k ∙ total_zero f l _ m (λ i h.
              elim (cases_order (at i) k) [
                | inl e ↦ absurd (none i h e)
                | inr o ↦ elim o [
                  | inl b ↦ ap (λ c. f.product c (rs i k)) (sym (read_off m rs s at red.systematic w p i h) ∙ z (at i) b) ∙ zero_product f l (rs i k) (s i k)
                  | inr b ↦ ap (f.product (p.coefficients i)) (red.leading.before i k h b) ∙ product_zero f l _ (p.symbols i)
                ]
              ])))
        ]

    rises : (i j : ℕ) → i ≤ j → j < m → at i ≤ at j
    rises i j h k = elim (cases_eq i j) [ inl e ↦ let q = ap at e in omega arith | inr n ↦ let q = red.systematic.ascends i j (omega arith) k in omega arith ]

  later : (m : ℕ) (rs : ℕ → ℕ → ℕ) (r : SymbolRows f rs) (at : ℕ → ℕ) (rr : Reduced m rs at) (n : ℕ) (ss : ℕ → ℕ → ℕ) (bt : ℕ → ℕ) (rn : Reduced n ss bt)
      → ((i : ℕ) → i < n → Span f m rs (ss i)) → (i : ℕ) → ((h : ℕ) → h < i → h < n → h < m → at h ≡ bt h)
      → i < n → (j : ℕ) × (j < m) × (at j ≡ bt i) × (i ≤ j)
  later m rs r at rr n ss bt rn each i below h =
      let p = begins m rs r at rr (ss i) (each i h) (bt i) (λ z. let o = rn.systematic.own i h in omega arith) (λ j k. rn.leading.before i j h k) in
      let pm = p.1 in
      let pe = p.2 in (
        p.0,
        p.1,
        p.2,
        elim (cases_lt p.0 i) [
          | inl lt ↦ let e = below p.0 lt (omega arith) pm in let a = rn.systematic.ascends p.0 i lt h in absurd (omega arith)
          | inr ge ↦ ge
        ],
      )

  module _ (m : ℕ) (rs : ℕ → ℕ → ℕ) (r : SymbolRows f rs) (at : ℕ → ℕ) (rr : Reduced m rs at)
      (n : ℕ) (ss : ℕ → ℕ → ℕ) (s : SymbolRows f ss) (bt : ℕ → ℕ) (rn : Reduced n ss bt) (one : SameSpan f m rs n ss) where
    in_first : (i : ℕ) → i < n → Span f m rs (ss i)
    in_first i h = one.back (ss i) (span_row f l n ss s i h)

    in_second : (i : ℕ) → i < m → Span f n ss (rs i)
    in_second i h = one.there (rs i) (span_row f l m rs r i h)

    agree_next : (i : ℕ) → ((h : ℕ) → h < i → Agree m at n bt h) → Agree m at n bt i
    agree_next i below =
        let b = later m rs r at rr n ss bt rn in_first i (λ h k x y. (below h k).same x y) in
        let a = later n ss s bt rn m rs at rr in_second i (λ h k x y. sym ((below h k).same y x)) in
        record {
          there = λ h. let p = b h in omega arith;
          back = λ h. let p = a h in omega arith;
          same = λ h k.
              let p = b h in
              let q = a k in
              let u = rises m rs r at rr i p.0 p.3 p.1 in
              let v = rises n ss s bt rn i q.0 q.3 q.1 in
              omega arith;
        }

    agree_below : (i h : ℕ) → h < i → Agree m at n bt h
    agree_below zero h k = absurd (not-suc-le-zero k)
    agree_below (suc i) h k = agree_next h (λ x y. agree_below i x (omega arith))

    agree : (i : ℕ) → Agree m at n bt i
    agree i = agree_below (suc i) i (omega arith)

    pub unique_count : m ≡ n
    unique_count = let p = agree m in let q = agree n in elim (cases_order m n) [
      | inl e ↦ e
      | inr o ↦ elim o [ inl h ↦ let z = p.there h in absurd (omega arith) | inr h ↦ let z = q.back h in absurd (omega arith) ]
    ]

    pub unique_places : (i : ℕ) → i < m → at i ≡ bt i
    unique_places i h = (agree i).same ((agree i).back h) h

    pub unique_rows : (i : ℕ) → i < m → (k : ℕ) → ss i k ≡ rs i k
    unique_rows i h k =
        let hn : i < n = (agree i).back h in
        let p = in_first i hn in
        let c : (j : ℕ) → j < m → p.coefficients j ≡ ss i (bt j) =
        λ j hj. sym (read_off m rs r at rr.systematic (ss i) p j hj) ∙ ap (ss i) (unique_places j hj) in
        p.is k
        ∙ total_one f l _ m i (λ j. l.product_symbol _ _ (p.symbols j) (r j k)) h
        (λ j hj ne. ap (λ x. f.product x (rs j k)) (c j hj ∙ rn.systematic.others i j hn ((agree j).back hj) (λ e. ne (sym e))) ∙ zero_product f l (rs j k) (r j k))
        ∙ ap (λ x. f.product x (rs i k)) (c i h ∙ rn.systematic.own i hn) ∙ l.product_one (rs i k) (r i k)
