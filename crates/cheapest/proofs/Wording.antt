-- The words that lead over a generator's trellis are those of a coset.
use Rattle.std.proofs.Common.{◌≡◌, ℕ, zero, suc, ◌+◌, ◌<◌, ◌≤◌, List, [], ◌∷◌, map, length, get_or, sym, refl, ap, ◌∙◌, subst, inl, inr, add-zero, zero-add, add-one, arith}
use Rattle.std.specs.List.{range_with_len}
use Rattle.std.proofs.lemmas.List.FromFn.{length-map-range_with_len, get_or-map-range_with_len, fill_by_all}
use Rattle.std.proofs.lemmas.List.{get_or_past}
use Rattle.std.proofs.lemmas.Bool.{cases_lt}
use Rattle.field.specs.Field.{Ops, Laws}
use Rattle.algebra.specs.Words.{word, Symbols}
use Rattle.algebra.specs.Checks.{index}
use Rattle.algebra.proofs.Symbols.{zero_symbol}
use Rattle.generator.specs.declared.Generator.{Generator}
use Rattle.generator.specs.Parts.{size}
use Rattle.cosets.specs.States.{checks}
use Rattle.cosets.specs.Cosets.{Coset}
use Rattle.cosets.proofs.Partial.{part, part_none, part_more}
use Rattle.reception.specs.Costs.{Costs, word_cost}
use Rattle.least.specs.Paths.{Trellis, Leads, path_cost}
use Rattle.cheapest.specs.Trellises.{trellis_of}

-- a word that leads has its length, and only symbols
pub leads_long : (t : Trellis) (k i s : ℕ) (w : List ℕ) → Leads t k i s w → length w ≡ k
leads_long t zero i s [] l = refl
leads_long t zero i s (x ∷ w) l = absurd l
leads_long t (suc k) i s [] l = absurd l
leads_long t (suc k) i s (x ∷ w) l = ap suc (leads_long t k (i + 1) (t.next i s x) w l.1)

leads_symbols : (t : Trellis) (k i s : ℕ) (w : List ℕ) → Leads t k i s w → (j : ℕ) → j < k → get_or w j 0 < t.symbols
leads_symbols t zero i s w l j h = absurd (omega arith)
leads_symbols t (suc k) i s [] l j h = absurd l
leads_symbols t (suc k) i s (x ∷ w) l zero h = l.0
leads_symbols t (suc k) i s (x ∷ w) l (suc j) h = leads_symbols t k (i + 1) (t.next i s x) w l.1 j (omega arith)

-- what the symbols from the place i on cost
costs_from : (costs : Costs) (t : Trellis) → ((i x : ℕ) → t.cost i x ≡ costs.cost i x) → (v : ℕ → ℕ) (k i : ℕ) → word_cost costs i v + path_cost t i (map v (range_with_len i k)) ≡ word_cost costs (i + k) v
costs_from costs t same v zero i = add-zero (word_cost costs i v) ∙ ap (λ n. word_cost costs n v) (sym (add-zero i))
costs_from costs t same v (suc k) i =
    let one : word_cost costs (i + 1) v ≡ word_cost costs i v + costs.cost i (v i) = rw (add-one i) in
    let rest = costs_from costs t same v k (i + 1) in
    let here = same i (v i) in
    let sum : word_cost costs i v + (t.cost i (v i) + path_cost t (i + 1) (map v (range_with_len (i + 1) k))) ≡ word_cost costs (i + 1 + k) v = omega arith in
    sum ∙ ap (λ n. word_cost costs n v) (omega arith)

-- the symbols of a word as a list
abbrev pub listed : ℕ → (ℕ → ℕ) → List ℕ
listed n v = map v (range_with_len 0 n)

pub listed_word : (n : ℕ) (v : ℕ → ℕ) → ((p : ℕ) → n ≤ p → v p ≡ 0) → (p : ℕ) → word (listed n v) p ≡ v p
listed_word n v ends p = elim (cases_lt p n) [
  | inl h ↦ get_or-map-range_with_len v 0 n p p 0 h (omega arith)
  | inr h ↦ get_or_past (listed n v) p 0 (omega (arith, length-map-range_with_len v 0 n)) ∙ sym (ends p h)
]

module _ (f : Ops) (l : Laws f) (g : Generator) (costs : Costs) (target : ℕ) where
  abbrev t : Trellis
  t = trellis_of f g costs target

  -- the state to which the first p symbols of a word lead
  abbrev state : (ℕ → ℕ) → ℕ → ℕ
  state v p = index f.order (part f g v p) (checks g)

  leads_from : (v : ℕ → ℕ) → Symbols f v → (k i : ℕ) → state v (i + k) ≡ target → Leads t k i (state v i) (map v (range_with_len i k))
  leads_from v symbols zero i e = ap (state v) (sym (add-zero i)) ∙ e
  leads_from v symbols (suc k) i e = (symbols i, subst (λ s. Leads t k (i + 1) s (map v (range_with_len (i + 1) k))) (sym (part_more f l g v i)) (leads_from v symbols k (i + 1) (ap (state v) (omega arith) ∙ e)))

  leads_to : (v : ℕ → ℕ) (k i : ℕ) → Leads t k i (state v i) (map v (range_with_len i k)) → state v (i + k) ≡ target
  leads_to v zero i e = ap (state v) (add-zero i) ∙ e
  leads_to v (suc k) i e = ap (state v) (omega arith) ∙ leads_to v k (i + 1) (subst (λ s. Leads t k (i + 1) s (map v (range_with_len (i + 1) k))) (part_more f l g v i) e.1)

  pub word_leads : (v : ℕ → ℕ) → Coset f g target v → Leads t (size g) 0 0 (listed (size g) v)
  word_leads v inside = subst (λ s. Leads t (size g) 0 s (listed (size g) v)) (part_none f l g v) (leads_from v inside.0.0 (size g) 0 (ap (state v) (omega arith) ∙ inside.1))

  pub leads_word : (w : List ℕ) → Leads t (size g) 0 0 w → Coset f g target (word w)
  leads_word w leads =
      let long = leads_long t (size g) 0 0 w leads in
      let same : w ≡ listed (size g) (word w) = fill_by_all (word w) w (size g) 0 long (λ k h. refl) in
      let symbols : Symbols f (word w) = λ p. elim (cases_lt p (size g)) [ inl h ↦ leads_symbols t (size g) 0 0 w leads p h | inr h ↦ rw (get_or_past w p 0 (omega arith)) (zero_symbol l) ] in (
        (symbols, λ p h. get_or_past w p 0 (omega arith)),
        ap (state (word w)) (omega arith) ∙ leads_to (word w) (size g) 0 (subst (λ s. Leads t (size g) 0 s (listed (size g) (word w))) (sym (part_none f l g (word w))) (subst (Leads t (size g) 0 0) same leads)),
      )

  -- a list costs what its word does
  pub listed_cost : (v : ℕ → ℕ) → path_cost t 0 (listed (size g) v) ≡ word_cost costs (size g) v
  listed_cost v = omega (arith, costs_from costs t (λ i x. refl) v (size g) 0, ap (λ n. word_cost costs n v) (zero-add (size g)))

  pub path_word : (w : List ℕ) → length w ≡ size g → path_cost t 0 w ≡ word_cost costs (size g) (word w)
  path_word w long = ap (path_cost t 0) (fill_by_all (word w) w (size g) 0 long (λ k h. refl)) ∙ listed_cost (word w)
