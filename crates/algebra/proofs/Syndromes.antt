-- The codewords are the words whose syndrome is 0; and the number that a syndrome makes.
use Rattle.std.proofs.Common.{◌≡◌, ℕ, zero, suc, ◌+◌, ◌*◌, ◌^◌, ◌<◌, ◌≤◌, false, cond, eqb, sym, refl, ap, ◌∙◌, subst, ap₂, inl, inr, not-suc-le-zero, add-one, arith, lit<}
use native.Mathlib.Nat.{pow-zero, pow-succ', pow-le-pow_left, pow-le-pow_right, eq_of_mul-eq-mul_right}
use Rattle.std.proofs.lemmas.Nat.{mul-add-lt}
use Rattle.std.proofs.lemmas.Bool.{cases_eq, cases_lt, cond-true, cond-false, cond_both, eq-eqb, ne_eqb}
use Rattle.field.specs.Field.{Ops, Laws}
use Rattle.algebra.specs.Words.{Symbols, SymbolRows, total, combination, Span}
use Rattle.algebra.specs.Reduced.{Systematic}
use Rattle.algebra.specs.Checks.{informs, check_place, at_information, check_row, syndrome, index}
use Rattle.algebra.proofs.Symbols.{zero_symbol}
use Rattle.algebra.proofs.Totals.{sum_zero_right, product_zero, total_symbol, total_same, total_zero, total_sum, total_one}
use Rattle.algebra.proofs.Cells.{product_closed}
use Rattle.algebra.proofs.Spans.{product_one_right, combination_symbol}
use Rattle.algebra.proofs.Unique.{found, read_off}
use Rattle.algebra.proofs.Checks.{informs_none, check_place_at, check_found, information_other, information_symbol, check_row_own}

module _ (f : Ops) (l : Laws f) where
  -- symbols whose negative is the same are equal
  pub cancelled : (a b c : ℕ) → a < f.order → b < f.order → c < f.order → f.sum a c ≡ 0 → f.sum b c ≡ 0 → a ≡ b
  cancelled a b c ha hb hc p q =
      sym (sum_zero_right f l a ha) ∙ ap (f.sum a) (sym q ∙ l.sum_comm b c hb hc) ∙ sym (l.sum_assoc a c b ha hc hb)
      ∙ ap (λ x. f.sum x b) p ∙ l.sum_zero b hb

  -- v at the place p, and 0 at the others
  one_symbols : (p v : ℕ) → v < f.order → Symbols f (λ k. cond (eqb p k) v 0)
  one_symbols p v h k = cond_both (eqb p k) v 0 (λ x. x < f.order) (λ _. h) (λ _. zero_symbol l)

  one_total : (p v n : ℕ) → v < f.order → p < n → total f (λ k. cond (eqb p k) v 0) n ≡ v
  one_total p v n h b =
      total_one f l _ n p (one_symbols p v h) b (λ k _ ne. cond-false _ _ _ (ne_eqb p k (λ e. ne (sym e)))) ∙ cond-true _ _ _ (eq-eqb p p refl)

  module _ (at : ℕ → ℕ) where
    -- the product of a word with v at the information places, place by place
    information_product : (w v : ℕ → ℕ) → Symbols f w → (m k : ℕ) → f.product (w k) (at_information at m v k) ≡ at_information at m (λ j. f.product (w (at j)) (v j)) k
    information_product w v s zero k = product_zero f l (w k) (s k)
    information_product w v s (suc m) k = elim (cases_eq (at m) k) [
      | inl e ↦
          let is = eq-eqb (at m) k e in
          ap (f.product (w k)) (cond-true _ _ _ is) ∙ ap (λ x. f.product (w x) (v m)) (sym e) ∙ sym (cond-true _ _ _ is)
      | inr ne ↦
          let out = ne_eqb (at m) k ne in
          ap (f.product (w k)) (cond-false _ _ _ out) ∙ information_product w v s m k ∙ sym (cond-false _ _ _ out)
    ]

    -- the last information place apart from those before it
    information_last : (v : ℕ → ℕ) → Symbols f v → (m : ℕ) → ((j : ℕ) → j < m → at j < at m) → (k : ℕ)
        → at_information at (suc m) v k ≡ f.sum (at_information at m v k) (cond (eqb (at m) k) (v m) 0)
    information_last v s m before k = elim (cases_eq (at m) k) [
      | inl e ↦
          let is = eq-eqb (at m) k e in
          let none = information_other at v m k (informs_none at m k (λ j h q. let x = before j h in omega arith)) in
          cond-true _ _ _ is ∙ sym (ap₂ f.sum none (cond-true _ _ _ is) ∙ l.sum_zero (v m) (s m))
      | inr ne ↦
          let out = ne_eqb (at m) k ne in
          cond-false _ _ _ out ∙ sym (ap (f.sum (at_information at m v k)) (cond-false _ _ _ out) ∙ sum_zero_right f l _ (information_symbol at v f l s m k))
    ]

    -- the sum over all places is the sum over the information places
    information_total : (v : ℕ → ℕ) → Symbols f v → (n m : ℕ) → ((i j : ℕ) → i < j → j < m → at i < at j) → ((j : ℕ) → j < m → at j < n)
        → total f (at_information at m v) n ≡ total f v m
    information_total v s n zero ascends inside = total_zero f l _ n (λ k _. refl)
    information_total v s n (suc m) ascends inside =
        total_same f l _ _ n (λ k _. information_last v s m (λ j h. ascends j m h (omega arith)) k)
        ∙ total_sum f l (at_information at m v) (λ k. cond (eqb (at m) k) (v m) 0) n (information_symbol at v f l s m) (one_symbols (at m) (v m) (s m))
        ∙ ap₂ f.sum (information_total v s n m (λ i j x y. ascends i j x (omega arith)) (λ j h. inside j (omega arith)))
        (one_total (at m) (v m) n (s m) (inside m (omega arith)))

  module _ (n m : ℕ) (rs : ℕ → ℕ → ℕ) (s : SymbolRows f rs) (at : ℕ → ℕ) where
    -- also where the word has numbers that are no symbols
    pub syndrome_symbol : (w : ℕ → ℕ) (i : ℕ) → syndrome f n m rs at w i < f.order
    syndrome_symbol w i = total_symbol f l _ n (λ k. product_closed f l (w k) (check_row f m rs at (check_place at m n i) k))

    negatives : (cs : ℕ → ℕ) → Symbols f cs → (p : ℕ) → Symbols f (λ j. f.product (cs j) (f.negative (rs j p)))
    negatives cs c p j = l.product_symbol _ _ (c j) (l.negative_symbol _ (s j p))

    -- a sum of multiples of the rows, and of the same multiples of their negatives
    opposite : (cs : ℕ → ℕ) → Symbols f cs → (p : ℕ) → f.sum (combination f cs rs m p) (total f (λ j. f.product (cs j) (f.negative (rs j p))) m) ≡ 0
    opposite cs c p =
        sym (total_sum f l _ _ m (λ j. l.product_symbol _ _ (c j) (s j p)) (negatives cs c p))
        ∙ total_zero f l _ m (λ j _.
        sym (l.product_sum (cs j) _ _ (c j) (s j p) (l.negative_symbol _ (s j p))) ∙ ap (f.product (cs j)) (l.sum_negative _ (s j p)) ∙ product_zero f l _ (c j))

    -- the product of a word with the check row of p, place by place: its symbol at p, and what the information places add
    row_product : (w : ℕ → ℕ) → Symbols f w → (p : ℕ) → informs at m p ≡ false → (k : ℕ)
        → f.product (w k) (check_row f m rs at p k) ≡ f.sum (cond (eqb p k) (w p) 0) (at_information at m (λ j. f.product (w (at j)) (f.negative (rs j p))) k)
    row_product w hw p out k = elim (cases_eq p k) [
      | inl e ↦
          ap (f.product (w k)) (ap (check_row f m rs at p) (sym e) ∙ check_row_own f m rs at p) ∙ product_one_right f l (w k) (hw k) ∙ ap w (sym e)
          ∙ sym (ap₂ f.sum (cond-true _ _ _ (eq-eqb p k e)) (information_other at _ m k (ap (informs at m) (sym e) ∙ out)) ∙ sum_zero_right f l (w p) (hw p))
      | inr ne ↦
          ap (f.product (w k)) (cond-false _ _ _ (ne_eqb k p (λ e. ne (sym e)))) ∙ information_product at w (λ j. f.negative (rs j p)) hw m k
          ∙ sym (ap (λ x. f.sum x (at_information at m (λ j. f.product (w (at j)) (f.negative (rs j p))) k)) (cond-false _ _ _ (ne_eqb p k ne))
          ∙ l.sum_zero _ (information_symbol at _ f l (negatives (λ j. w (at j)) (λ j. hw (at j)) p) m k))
    ]

    module _ (sys : Systematic m rs at) (inside : (j : ℕ) → j < m → at j < n) where
      -- a check: the symbol at the check place, less what the rows have there by the symbols at their own places
      pub syndrome_is : (w : ℕ → ℕ) → Symbols f w → (i : ℕ) → i + m < n
          → syndrome f n m rs at w i ≡ f.sum (w (check_place at m n i)) (total f (λ j. f.product (w (at j)) (f.negative (rs j (check_place at m n i)))) m)
      syndrome_is w hw i h =
          let p = check_place at m n i in
          let place = check_place_at at m n sys.ascends inside i h in
          let v : ℕ → ℕ = λ j. f.product (w (at j)) (f.negative (rs j p)) in
          let hv : Symbols f v = negatives (λ j. w (at j)) (λ j. hw (at j)) p in
          total_same f l _ _ n (λ k _. row_product w hw p place.1 k)
          ∙ total_sum f l _ _ n (one_symbols p (w p) (hw p)) (information_symbol at v f l hv m)
          ∙ ap₂ f.sum (one_total p (w p) n (hw p) place.0) (information_total at v hv n m sys.ascends inside)

      -- every codeword has syndrome 0
      pub codeword_checks : (w : ℕ → ℕ) → Symbols f w → Span f m rs w → (i : ℕ) → i + m < n → syndrome f n m rs at w i ≡ 0
      codeword_checks w hw q i h =
          let p = check_place at m n i in
          let encoded : w p ≡ combination f (λ j. w (at j)) rs m p =
          q.is p ∙ total_same f l _ _ m (λ j b. ap (λ x. f.product x (rs j p)) (sym (read_off f l m rs s at sys w q j b))) in
          syndrome_is w hw i h
          ∙ ap (λ x. f.sum x (total f (λ j. f.product (w (at j)) (f.negative (rs j p))) m)) encoded
          ∙ opposite (λ j. w (at j)) (λ j. hw (at j)) p

      -- where a check is 0, the symbol at its place is the one that the information places encode to
      encoded_check : (w : ℕ → ℕ) → Symbols f w → (i : ℕ) → i + m < n → syndrome f n m rs at w i ≡ 0
          → w (check_place at m n i) ≡ combination f (λ j. w (at j)) rs m (check_place at m n i)
      encoded_check w hw i h z =
          let p = check_place at m n i in
          let c : ℕ → ℕ = λ j. w (at j) in
          let hc : Symbols f c = λ j. hw (at j) in
          cancelled (w p) (combination f c rs m p) _ (hw p) (combination_symbol f l m rs s c hc p) (total_symbol f l _ m (negatives c hc p))
          (sym (syndrome_is w hw i h) ∙ z) (opposite c hc p)

      encoded_information : (cs : ℕ → ℕ) → Symbols f cs → (j : ℕ) → j < m → cs j ≡ combination f cs rs m (at j)
      encoded_information cs c j h = sym (read_off f l m rs s at sys (combination f cs rs m) (record { coefficients = cs; symbols = c; is = λ _. refl }) j h)

      -- every word with syndrome 0 is a codeword
      pub checks_codeword : ((i k : ℕ) → i < m → n ≤ k → rs i k ≡ 0) → (w : ℕ → ℕ) → Symbols f w → ((k : ℕ) → n ≤ k → w k ≡ 0)
          → ((i : ℕ) → i + m < n → syndrome f n m rs at w i ≡ 0) → Span f m rs w
      checks_codeword ends w hw past zeros =
          let c : ℕ → ℕ = λ j. w (at j) in
          let hc : Symbols f c = λ j. hw (at j) in
          record {
            coefficients = c;
            symbols = hc;
            is = λ k. elim (cases_lt k n) [
              | inr b ↦ past k b ∙ sym (total_zero f l _ m (λ j h. ap (f.product (c j)) (ends j k h b) ∙ product_zero f l (c j) (hc j)))
              | inl b ↦ elim (found at k m) [
                | inl q ↦ subst (λ x. w x ≡ combination f c rs m x) q.2 (encoded_information c hc q.0 q.1)
                | inr none ↦
                    let q = check_found at m n sys.ascends inside k b (informs_none at m k none) in
                    subst (λ x. w x ≡ combination f c rs m x) q.2 (encoded_check w hw q.0 q.1 (zeros q.0 q.1))
              ]
            ];
          }

pub index_more : (q : ℕ) (s : ℕ → ℕ) (c : ℕ) → index q s (c + 1) ≡ index q s c * q + s c
index_more q s c = rw add-one

pub index_zero : (q : ℕ) → 0 < q → (s : ℕ → ℕ) (c : ℕ) → index q s c ≡ 0 → (i : ℕ) → i < c → s i ≡ 0
index_zero q h s zero e i b = absurd (not-suc-le-zero b)
index_zero q h s (suc c) e i b = elim (cases_eq i c) [
  | inl p ↦ ap s p ∙ omega arith
  | inr n ↦ index_zero q h s c (eq_of_mul-eq-mul_right q h (index q s c) 0 (omega arith)) i (omega arith)
]

pub zero_index : (q : ℕ) (s : ℕ → ℕ) (c : ℕ) → ((i : ℕ) → i < c → s i ≡ 0) → index q s c ≡ 0
zero_index q s zero z = refl
zero_index q s (suc c) z = ap₂ (λ x y. x * q + y) (zero_index q s c (λ i h. z i (omega arith))) (z c (omega arith)) ∙ omega arith

pub index_below : (q : ℕ) (s : ℕ → ℕ) (c : ℕ) → ((i : ℕ) → i < c → s i < q) → index q s c < q ^ c
index_below q s zero b = omega (arith, pow-zero q)
index_below q s (suc c) b =
    omega (arith, pow-succ' q c, mul-add-lt (index q s c) q (s c) (q ^ c) (index_below q s c (λ i h. b i (omega arith))) (b c (omega arith)))

-- of at most 24 symbols of at most 16 kinds the number stays below 2 ^ 96
pub index_fits : (q : ℕ) (s : ℕ → ℕ) (c : ℕ) → q ≤ 16 → ((i : ℕ) → s i < q) → c < 24 → index q s c * q + s c < 2 ^ 96
index_fits q s c h b k =
    let low : index q s (suc c) < q ^ suc c = index_below q s (suc c) (λ i _. b i) in
    let base : q ^ suc c ≤ 16 ^ suc c = pow-le-pow_left h (suc c) in
    let most : 16 ^ suc c ≤ 16 ^ 24 = pow-le-pow_right (lit< tt) k in
    omega arith
