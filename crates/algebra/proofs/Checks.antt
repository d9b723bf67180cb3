-- Check places and check rows: how many there are, where they stand, and what they hold.
use Rattle.std.proofs.Common.{◌≡◌, ℕ, zero, suc, ◌+◌, ◌<◌, ◌≤◌, true, false, cond, eqb, [], ◌∷◌, ◌++◌, length, get_or, sym, refl, ap, ◌∙◌, ap₂, inl, inr, not-suc-le-zero, arith}
use Rattle.std.proofs.lemmas.List.{append-nil, length-append, length_push, get_or_push, get_or_append_left}
use Rattle.std.proofs.lemmas.Bool.{cases_Bool, cases_eq, cases_lt, cond-true, cond-false, cond_both, eq-eqb, ne_eqb, true≢false}
use Rattle.field.specs.Field.{Ops, Laws}
use Rattle.algebra.specs.Words.{Symbols}
use Rattle.algebra.specs.Checks.{informs, check_places, check_place, at_information, check_row}
use Rattle.algebra.proofs.Symbols.{zero_symbol}
use Rattle.algebra.proofs.Unique.{found}

pub informs_none : (at : ℕ → ℕ) (m p : ℕ) → ((j : ℕ) → j < m → at j ≡ p → ⊥) → informs at m p ≡ false
informs_none at zero p none = refl
informs_none at (suc m) p none =
    cond-false _ _ _ (ne_eqb (at m) p (none m (omega arith))) ∙ informs_none at m p (λ j h. none j (omega arith))

pub informs_some : (at : ℕ → ℕ) (m p : ℕ) → informs at m p ≡ false → (j : ℕ) → j < m → at j ≡ p → ⊥
informs_some at zero p out j h e = not-suc-le-zero h
informs_some at (suc m) p out j h e = elim (cases_eq (at m) p) [
  | inl own ↦ true≢false (sym (cond-true _ _ _ (eq-eqb (at m) p own)) ∙ out)
  | inr other ↦
      let before : j < m = elim (cases_eq j m) [ inl q ↦ absurd (other (ap at (sym q) ∙ e)) | inr q ↦ omega arith ] in
      informs_some at m p (sym (cond-false _ _ _ (ne_eqb (at m) p other)) ∙ out) j before e
]

informs_own : (at : ℕ → ℕ) (m p j : ℕ) → j < m → at j ≡ p → informs at m p ≡ true
informs_own at m p j h e = elim (cases_Bool (informs at m p)) [ inl is ↦ is | inr out ↦ absurd (informs_some at m p out j h e) ]

module _ (at : ℕ → ℕ) where
  -- whether p is an information place does not depend on places other than p
  informs_first : (c m p : ℕ) → c ≤ m → ((j : ℕ) → c ≤ j → j < m → at j ≡ p → ⊥) → informs at m p ≡ informs at c p
  informs_first c zero p h none = let e : 0 ≡ c = omega arith in ap (λ x. informs at x p) e
  informs_first c (suc m) p h none = elim (cases_eq c (suc m)) [
    | inl e ↦ ap (λ x. informs at x p) (sym e)
    | inr n ↦ cond-false _ _ _ (ne_eqb (at m) p (none m (omega arith) (omega arith))) ∙ informs_first c m p (omega arith) (λ j a b. none j a (omega arith))
  ]

  -- the check places below p do not depend on the information places from p on
  checks_first : (c m p : ℕ) → c ≤ m → ((j : ℕ) → c ≤ j → j < m → p ≤ at j) → check_places at m p ≡ check_places at c p
  checks_first c m zero h past = refl
  checks_first c m (suc p) h past =
      ap₂ (λ x b. x ++ cond b [] (p ∷ []))
      (checks_first c m p h (λ j a b. let q = past j a b in omega arith))
      (informs_first c m p h (λ j a b e. let q = past j a b in omega arith))

  checks_skip : (m p : ℕ) → informs at m p ≡ true → check_places at m (suc p) ≡ check_places at m p
  checks_skip m p is = ap (λ b. check_places at m p ++ cond b [] (p ∷ [])) is ∙ append-nil (check_places at m p)

  checks_take : (m p : ℕ) → informs at m p ≡ false → check_places at m (suc p) ≡ check_places at m p ++ p ∷ []
  checks_take m p out = ap (λ b. check_places at m p ++ cond b [] (p ∷ [])) out

  taken_length : (m p : ℕ) → informs at m p ≡ false → length (check_places at m (suc p)) ≡ length (check_places at m p) + 1
  taken_length m p out = ap length (checks_take m p out) ∙ length_push (check_places at m p) p

  -- a place that is no information place is listed, right after the check places below it
  listed : (m n p : ℕ) → p < n → informs at m p ≡ false
      → (length (check_places at m p) < length (check_places at m n)) × (get_or (check_places at m n) (length (check_places at m p)) 0 ≡ p)
  listed m zero p h out = absurd (not-suc-le-zero h)
  listed m (suc n) p h out = elim (cases_eq p n) [
    | inl e ↦
        let out' : informs at m n ≡ false = ap (informs at m) (sym e) ∙ out in
        let same : length (check_places at m n) ≡ length (check_places at m p) = ap (λ x. length (check_places at m x)) (sym e) in
        let more = taken_length m n out' in
        (omega arith, ap (λ x. get_or x (length (check_places at m p)) 0) (checks_take m n out') ∙ get_or_push (check_places at m n) n 0 _ same ∙ sym e)
    | inr ne ↦
        let before = listed m n p (omega arith) out in
        let longer = length-append (check_places at m n) (cond (informs at m n) [] (n ∷ [])) in
        (omega arith, get_or_append_left (check_places at m n) _ 0 _ before.0 ∙ before.1)
  ]

  -- what is listed is below n and no information place
  listed_only : (m n i : ℕ) → i < length (check_places at m n) → (check_place at m n i < n) × (informs at m (check_place at m n i) ≡ false)
  listed_only m zero i h = absurd (not-suc-le-zero h)
  listed_only m (suc n) i h = elim (cases_lt i (length (check_places at m n))) [
    | inl b ↦
        let before = listed_only m n i b in
        let same : check_place at m (suc n) i ≡ check_place at m n i = get_or_append_left (check_places at m n) _ 0 i b in
        (omega (arith, same, before.0), ap (informs at m) same ∙ before.1)
    | inr a ↦ elim (cases_Bool (informs at m n)) [
      | inl is ↦ let same = ap length (checks_skip m n is) in absurd (omega arith)
      | inr out ↦
          let last : length (check_places at m n) ≡ i = let more = taken_length m n out in omega arith in
          let same : check_place at m (suc n) i ≡ n = ap (λ x. get_or x i 0) (checks_take m n out) ∙ get_or_push (check_places at m n) n 0 i last in
          (omega (arith, same), ap (informs at m) same ∙ out)
    ]
  ]

  -- they are listed in ascending order
  listed_ascends : (m n i j : ℕ) → i < j → j < length (check_places at m n) → check_place at m n i < check_place at m n j
  listed_ascends m zero i j h b = absurd (not-suc-le-zero b)
  listed_ascends m (suc n) i j h b =
      let old : (k : ℕ) → k < length (check_places at m n) → check_place at m (suc n) k ≡ check_place at m n k = λ k c. get_or_append_left (check_places at m n) _ 0 k c in
      elim (cases_lt j (length (check_places at m n))) [
        | inl c ↦ omega (arith, listed_ascends m n i j h c, old i (omega arith), old j c)
        | inr c ↦ elim (cases_Bool (informs at m n)) [
          | inl is ↦ let same = ap length (checks_skip m n is) in absurd (omega arith)
          | inr out ↦
              let last : length (check_places at m n) ≡ j = let more = taken_length m n out in omega arith in
              let same : check_place at m (suc n) j ≡ n = ap (λ x. get_or x j 0) (checks_take m n out) ∙ get_or_push (check_places at m n) n 0 j last in
              omega (arith, same, old i (omega arith), (listed_only m n i (omega arith)).0)
        ]
      ]

  -- ascending places below n are m of the n places, so the check places are the other n - m
  pub checks_count : (m n : ℕ) → ((i j : ℕ) → i < j → j < m → at i < at j) → ((j : ℕ) → j < m → at j < n) → length (check_places at m n) + m ≡ n
  checks_count m zero ascends inside = elim (cases_eq m 0) [ inl e ↦ omega arith | inr n ↦ absurd (not-suc-le-zero (inside 0 (omega arith))) ]
  checks_count m (suc p) ascends inside = elim (found at p m) [
    | inl q ↦
        let j = q.0 in
        let h : j < m = q.1 in
        let e : at j ≡ p = q.2 in
        let last : suc j ≡ m = elim (cases_eq (suc j) m) [
          | inl is ↦ is
          | inr n ↦ absurd (omega (arith, ascends j (suc j) (omega arith) (omega arith), inside (suc j) (omega arith)))
        ] in
        let before : length (check_places at j p) + j ≡ p = checks_count j p (λ a b x y. ascends a b x (omega arith)) (λ i x. let y = ascends i j x h in omega arith) in
        let same : length (check_places at m (suc p)) ≡ length (check_places at j p) =
        ap length (checks_skip m p (informs_own at m p j h e) ∙ checks_first j m p (omega arith) (λ i a b. let x : i ≡ j = omega arith in let y = ap at x in omega arith)) in
        omega arith
    | inr none ↦
        let before : length (check_places at m p) + m ≡ p = checks_count m p ascends (λ j h. let a = none j h in let b = inside j h in omega arith) in
        let more = taken_length m p (informs_none at m p none) in
        omega arith
  ]

  module _ (m n : ℕ) (ascends : (i j : ℕ) → i < j → j < m → at i < at j) where
    -- the place p, with c information places below it and the others above it, is the check place p - c
    pub check_place_is : (i c p : ℕ) → c ≤ m → ((j : ℕ) → j < c → at j < p) → ((j : ℕ) → c ≤ j → j < m → p < at j) → p ≡ i + c → p < n → check_place at m n i ≡ p
    check_place_is i c p h below above e b =
        let out : informs at m p ≡ false = informs_none at m p (λ j hj q. elim (cases_lt j c) [ inl x ↦ omega (arith, below j x) | inr x ↦ omega (arith, above j x hj) ]) in
        let same : length (check_places at m p) ≡ length (check_places at c p) = ap length (checks_first c m p h (λ j x y. let z = above j x y in omega arith)) in
        let count : length (check_places at c p) + c ≡ p = checks_count c p (λ x y z k. ascends x y z (omega arith)) below in
        let index : i ≡ length (check_places at m p) = omega arith in
        ap (check_place at m n) index ∙ (listed m n p b out).1

    module _ (inside : (j : ℕ) → j < m → at j < n) where
      -- each of the n - m check places is below n and no information place
      pub check_place_at : (i : ℕ) → i + m < n → (check_place at m n i < n) × (informs at m (check_place at m n i) ≡ false)
      check_place_at i h = listed_only m n i (omega (arith, checks_count m n ascends inside))

      pub check_place_ascends : (i j : ℕ) → i < j → j + m < n → check_place at m n i < check_place at m n j
      check_place_ascends i j h b = listed_ascends m n i j h (omega (arith, checks_count m n ascends inside))

      -- every place that is no information place is a check place
      pub check_found : (p : ℕ) → p < n → informs at m p ≡ false → (i : ℕ) × (i + m < n) × (check_place at m n i ≡ p)
      check_found p h out =
          let q = listed m n p h out in
          (length (check_places at m p), omega (arith, q.0, checks_count m n ascends inside), q.1)

module _ (at : ℕ → ℕ) (v : ℕ → ℕ) where
  pub information_other : (m k : ℕ) → informs at m k ≡ false → at_information at m v k ≡ 0
  information_other zero k out = refl
  information_other (suc m) k out =
      cond-false _ _ _ (ne_eqb (at m) k (informs_some at (suc m) k out m (omega arith)))
      ∙ information_other m k (informs_none at m k (λ j h. informs_some at (suc m) k out j (omega arith)))

  pub information_own : (m : ℕ) → ((i j : ℕ) → i < j → j < m → at i < at j) → (j : ℕ) → j < m → at_information at m v (at j) ≡ v j
  information_own zero ascends j h = absurd (not-suc-le-zero h)
  information_own (suc m) ascends j h = elim (cases_eq m j) [
    | inl e ↦ cond-true _ _ _ (eq-eqb (at m) (at j) (ap at e)) ∙ ap v e
    | inr n ↦
        cond-false _ _ _ (ne_eqb (at m) (at j) (λ e. omega (arith, ascends j m (omega arith) (omega arith))))
        ∙ information_own m (λ a b x y. ascends a b x (omega arith)) j (omega arith)
  ]

  pub information_symbol : (f : Ops) → Laws f → Symbols f v → (m : ℕ) → Symbols f (at_information at m v)
  information_symbol f l s zero k = zero_symbol l
  information_symbol f l s (suc m) k =
      cond_both (eqb (at m) k) (v m) (at_information at m v k) (λ x. x < f.order) (λ _. s m) (λ _. information_symbol f l s m k)

module _ (f : Ops) (m : ℕ) (rs : ℕ → ℕ → ℕ) (at : ℕ → ℕ) where
  pub check_row_own : (p : ℕ) → check_row f m rs at p p ≡ 1
  check_row_own p = cond-true _ _ _ (eq-eqb p p refl)

  pub check_row_information : ((i j : ℕ) → i < j → j < m → at i < at j) → (p : ℕ) → informs at m p ≡ false
      → (j : ℕ) → j < m → check_row f m rs at p (at j) ≡ f.negative (rs j p)
  check_row_information ascends p out j h =
      cond-false _ _ _ (ne_eqb (at j) p (informs_some at m p out j h)) ∙ information_own at (λ i. f.negative (rs i p)) m ascends j h

  pub check_row_other : (p k : ℕ) → (k ≡ p → ⊥) → informs at m k ≡ false → check_row f m rs at p k ≡ 0
  check_row_other p k ne out = cond-false _ _ _ (ne_eqb k p ne) ∙ information_other at (λ i. f.negative (rs i p)) m k out
