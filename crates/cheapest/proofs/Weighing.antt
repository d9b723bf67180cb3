-- The least cost over the words that are not all 0, each symbol at its weight, is the least weight of a codeword.
use Rattle.std.proofs.Common.{◌≡◌, ℕ, zero, suc, ◌+◌, ◌<◌, ◌≤◌, cond, eqb, List, [], ◌∷◌, length, get_or, take, replicate, Some, None, sym, refl, ap, ◌∙◌, subst, ap₂, inl, inr, arith}
use lib.ListN.{length-replicate}
use Rattle.std.proofs.lemmas.Bool.{cases_eq, cases_lt, cond-true, lt-ltb, ne_eqb}
use Rattle.field.specs.Field.{Ops, Laws}
use Rattle.algebra.specs.Words.{word}
use Rattle.algebra.proofs.Cells.{zeros_at}
use Rattle.generator.specs.declared.Generator.{Generator}
use Rattle.generator.specs.Parts.{size}
use Rattle.cosets.specs.Cosets.{Codeword}
use Rattle.cosets.specs.Weights.{weight}
use Rattle.cosets.proofs.Partial.{next_zero}
use Rattle.cosets.proofs.Codewords.{codeword_coset, coset_codeword}
use Rattle.reception.specs.Costs.{word_cost}
use Rattle.reception.specs.Layers.{hard_cost, hard_word}
use Rattle.least.specs.Paths.{Trellis, Leads, LeadsOther, path_cost}
use Rattle.least.specs.Least.{best_other}
use Rattle.least.proofs.Telling.{found, least, none}
use Rattle.least.proofs.Recursion.{other_tells}
use Rattle.cheapest.specs.Trellises.{trellis_of}
use Rattle.cheapest.specs.Lightest.{weights, Lightest}
use Rattle.cheapest.proofs.Wording.{listed, listed_word, leads_long, word_leads, leads_word, listed_cost, path_word}

-- the first n of some 0s
pub first_zeros : (n m : ℕ) → n ≤ m → take {A = ℕ} n (replicate m 0) ≡ replicate n 0
first_zeros zero m h = refl
first_zeros (suc n) zero h = absurd (omega arith)
first_zeros (suc n) (suc m) h = ap (λ w. 0 ∷ w) (first_zeros n m (omega arith))

-- what a symbol costs where 0 was received
zero_cost : (x : ℕ) → hard_cost 0 x ≡ cond (eqb x 0) 0 1
zero_cost zero = refl
zero_cost (suc x) = rw (ne_eqb 0 (suc x) (omega arith), ne_eqb (suc x) 0 (omega arith))

symbol_cost : (n i x : ℕ) → i < n → (hard_word (replicate n 0)).cost i x ≡ cond (eqb x 0) 0 1
symbol_cost n i x h =
    cond-true _ _ _ (lt-ltb i (length {A = ℕ} (replicate n 0)) (omega (arith, length-replicate {A = ℕ} n 0)))
    ∙ ap (λ b. hard_cost b x) (zeros_at n i)
    ∙ zero_cost x

-- a word costs what it weighs
pub weight_cost : (n m : ℕ) (w : ℕ → ℕ) → m ≤ n → word_cost (hard_word (replicate n 0)) m w ≡ weight m w
weight_cost n zero w h = refl
weight_cost n (suc m) w h = ap₂ (λ a b. a + b) (weight_cost n m w (omega arith)) (symbol_cost n m (w m) h)

module _ (f : Ops) (l : Laws f) (g : Generator) where
  abbrev t : Trellis
  t = trellis_of f g (weights g) 0

  abbrev n : ℕ
  n = size g

  -- the words that are not all 0 are those that lead and have a symbol that is not 0
  other_leads : (k i : ℕ) (w : List ℕ) → LeadsOther t k i w → Leads t k i 0 w × ((j : ℕ) × (get_or w j 0 ≡ 0 → ⊥))
  other_leads zero i w o = absurd o
  other_leads (suc k) i [] o = absurd o
  other_leads (suc k) i (zero ∷ w) o =
      let r = other_leads k (i + 1) w o.1 in
      ((o.0, subst (λ s. Leads t k (i + 1) s w) (sym (next_zero f l g i)) r.0), (suc r.1.0, r.1.1))
  other_leads (suc k) i (suc x ∷ w) o = (o, (0, λ e. omega (arith, e)))

  leads_other : (k i : ℕ) (w : List ℕ) → Leads t k i 0 w → (j : ℕ) → (get_or w j 0 ≡ 0 → ⊥) → LeadsOther t k i w
  leads_other zero i [] led j some = some refl
  leads_other zero i (x ∷ w) led j some = led
  leads_other (suc k) i [] led j some = led
  leads_other (suc k) i (zero ∷ w) led zero some = absurd (some refl)
  leads_other (suc k) i (zero ∷ w) led (suc j) some = (led.0, leads_other k (i + 1) w (subst (λ s. Leads t k (i + 1) s w) (next_zero f l g i) led.1) j some)
  leads_other (suc k) i (suc x ∷ w) led j some = led

  -- the list of a codeword with a symbol that is not 0
  codeword_other : (v : ℕ → ℕ) → Codeword f g v → (p : ℕ) → (v p ≡ 0 → ⊥) → LeadsOther t n 0 (listed n v)
  codeword_other v c p some =
      let inside = codeword_coset f l g v c in
      leads_other n 0 (listed n v) (word_leads f l g (weights g) 0 v inside) p (λ e. some (sym (listed_word n v inside.0.1 p) ∙ e))

  pub lightest_none : (best_other t n 0).1 ≡ 0 → Lightest f g None
  lightest_none e v c p = elim (cases_eq (v p) 0) [
    | inl z ↦ z
    | inr some ↦ absurd (none (LeadsOther t n 0) (path_cost t 0) (best_other t n 0).0 (best_other t n 0).1 e (other_tells t n 0) (listed n v) (codeword_other v c p some))
  ]

  no_lighter : (v : ℕ → ℕ) → Codeword f g v → (p : ℕ) → (v p ≡ 0 → ⊥) → (best_other t n 0).0 ≤ weight n v
  no_lighter v c p some =
      let h = least (LeadsOther t n 0) (path_cost t 0) (best_other t n 0).0 (best_other t n 0).1 (other_tells t n 0) (listed n v) (codeword_other v c p some) in
      omega (arith, listed_cost f l g (weights g) 0 v, weight_cost n n v (omega arith))

  pub lightest_some : 0 < (best_other t n 0).1 → Lightest f g (Some (best_other t n 0).0)
  lightest_some live =
      let o = found (LeadsOther t n 0) (path_cost t 0) (best_other t n 0).0 (best_other t n 0).1 live (other_tells t n 0) in
      let w = o.0 in
      let r = other_leads n 0 w o.1.0 in (
        (
          word w,
          coset_codeword f l g (word w) (leads_word f l g (weights g) 0 w r.0),
          (λ zeros. r.1.1 (zeros r.1.0)),
          sym (weight_cost n n (word w) (omega arith)) ∙ sym (path_word f l g (weights g) 0 w (leads_long t n 0 0 w r.0)) ∙ o.1.1,
        ),
        -- where a codeword weighs less, each of its symbols is 0
        λ v c other. elim (cases_lt (weight n v) (best_other t n 0).0) [
          | inl h ↦ absurd (other (λ p. elim (cases_eq (v p) 0) [ inl z ↦ z | inr some ↦ absurd (omega (arith, no_lighter v c p some)) ]))
          | inr h ↦ h
        ],
      )
