-- A word that is written symbol by symbol, each the largest by which the least cost is had.
use Rattle.std.proofs.Common.{◌≡◌, ℕ, suc, ◌+◌, ◌<◌, eqb, ◌⊎◌, List, [], ◌∷◌, ◌++◌, length, get_or, sym, refl, ap, ◌∙◌, subst, inl, inr, ⊎_elim, arith}
use Rattle.std.proofs.lemmas.List.{append_assoc, append-nil, length-append, get_or_append_left, get_or_at}
use Rattle.std.proofs.lemmas.Bool.{cond_both, eqb-true, cases_order}
use Rattle.least.specs.Paths.{Trellis, Leads, path_cost}
use Rattle.least.specs.Least.{best}
use Rattle.least.proofs.Recursion.{some_way, no_less, symbol_no_less}

-- at the first place where they differ, which is one of p, v has the smaller number
abbrev pub Before : List ℕ → List ℕ → Type 0
Before v p = (j : ℕ) × (j < length p) × ((h : ℕ) → h < j → get_or v h 0 ≡ get_or p h 0) × (get_or v j 0 < get_or p j 0)

before_longer : (v p u : List ℕ) → Before v p → Before v (p ++ u)
before_longer v p u (j, short, same, less) =
    let at : (h : ℕ) → h < length p → get_or (p ++ u) h 0 ≡ get_or p h 0 = λ h b. get_or_append_left p u 0 h b in
    (j, omega (arith, length-append p u), (λ h b. same h b ∙ sym (at h (omega arith))), omega (arith, at j short))

before_here : (p u : List ℕ) (x y : ℕ) → y < x → Before (p ++ y ∷ u) (p ++ x ∷ [])
before_here p u x y less = (
  length p,
  omega (arith, length-append p (x ∷ [])),
  (λ h b. get_or_append_left p (y ∷ u) 0 h b ∙ sym (get_or_append_left p (x ∷ []) 0 h b)),
  omega (arith, get_or_at p y u 0 (length p) refl, get_or_at p x [] 0 (length p) refl),
)

module _ (t : Trellis) (n : ℕ) where
  -- a word of the least cost of all
  abbrev Least : List ℕ → Type 0
  Least v = Leads t n 0 0 v × (path_cost t 0 v ≡ (best t n 0 0).0)

  -- The word p leads to the state s at the place i, and the words of least cost from there on complete it to words of least cost of all. Every other word of least cost is before it.
  pub record Traced (k i s : ℕ) (p : List ℕ) : Type 0 where
    pub live : 0 < (best t k i s).1
    pub leads : (v : List ℕ) → Leads t k i s v → Leads t n 0 0 (p ++ v)
    pub sums : (v : List ℕ) → path_cost t 0 (p ++ v) + (best t k i s).0 ≡ (best t n 0 0).0 + path_cost t i v
    pub last : (v : List ℕ) → Least v → ((u : List ℕ) × (v ≡ p ++ u) × Leads t k i s u × (path_cost t i u ≡ (best t k i s).0)) ⊎ Before v p

  pub trace_none : 0 < (best t n 0 0).1 → Traced n 0 0 []
  trace_none h = record { live = h; leads = λ v l. l; sums = λ v. omega arith; last = λ v l. inl (v, refl, l.0, l.1) }

  module _ (k i s x : ℕ) (p : List ℕ) (traced : Traced (suc k) i s p) (symbol : x < t.symbols) (live : 0 < (best t k (i + 1) (t.next i s x)).1)
      (paid : t.cost i x + (best t k (i + 1) (t.next i s x)).0 ≡ (best t (suc k) i s).0)
      (largest : (y : ℕ) → x < y → y < t.symbols → 0 < (best t k (i + 1) (t.next i s y)).1 → t.cost i y + (best t k (i + 1) (t.next i s y)).0 ≡ (best t (suc k) i s).0 → ⊥) where
    abbrev Goes : List ℕ → Type 0
    Goes v = ((u : List ℕ) × (v ≡ (p ++ x ∷ []) ++ u) × Leads t k (i + 1) (t.next i s x) u × (path_cost t (i + 1) u ≡ (best t k (i + 1) (t.next i s x)).0)) ⊎ Before v (p ++ x ∷ [])

    -- a word of least cost that goes on from p with some symbol
    goes_on : (v u : List ℕ) → v ≡ p ++ u → Leads t (suc k) i s u → path_cost t i u ≡ (best t (suc k) i s).0 → Goes v
    goes_on v [] e l c = absurd l
    goes_on v (y ∷ u) e l c =
        let way = some_way t k (i + 1) (t.next i s y) u l.1 in
        let high = no_less t k (i + 1) (t.next i s y) u l.1 in
        let low = symbol_no_less t k i s y l.0 way in
        let has : t.cost i y + (best t k (i + 1) (t.next i s y)).0 ≡ (best t (suc k) i s).0 = omega arith in
        elim (cases_order y x) [
          | inl same ↦ inl (u, e ∙ ap (λ z. p ++ z ∷ u) same ∙ sym (append_assoc p (x ∷ []) u), subst (λ z. Leads t k (i + 1) (t.next i s z) u) same l.1, subst (λ z. path_cost t (i + 1) u ≡ (best t k (i + 1) (t.next i s z)).0) same (omega arith))
          | inr o ↦ elim o [
            | inl less ↦ inr (rw e (before_here p u x y less))
            | inr more ↦ absurd (largest y more l.0 way has)
          ]
        ]

    pub trace_more : Traced k (i + 1) (t.next i s x) (p ++ x ∷ [])
    trace_more = record {
      live = live;
      leads = λ v l. rw append_assoc (traced.leads (x ∷ v) (symbol, l));
      sums = λ v. rw append_assoc (omega (arith, traced.sums (x ∷ v), paid));
      last = λ v l. ⊎_elim (λ o. goes_on v o.0 o.1 o.2 o.3) (λ b. inr (before_longer v p (x ∷ []) b)) (traced.last v l);
    }

  pub trace_all : (s : ℕ) (p : List ℕ) → Traced 0 n s p → Least p × ((v : List ℕ) → Least v → (v ≡ p) ⊎ Before v p)
  trace_all s p traced =
      let ends : 0 < (best t 0 n s).1 → s ≡ t.target = cond_both {A = ℕ × ℕ} (eqb s t.target) (0, 1) (0, 0) (λ r. 0 < r.1 → s ≡ t.target) (λ e _. eqb-true s t.target e) (λ _ h. absurd (omega (arith, h))) in
      let nothing : (best t 0 n s).0 ≡ 0 = cond_both {A = ℕ × ℕ} (eqb s t.target) (0, 1) (0, 0) (λ r. r.0 ≡ 0) (λ _. refl) (λ _. refl) in (
        (rw append-nil at (traced.leads [] (ends traced.live)), omega (arith, nothing, rw append-nil at (traced.sums []))),
        λ v l. ⊎_elim (λ o. inl (ended v o.0 o.1 o.2)) inr (traced.last v l),
      )
    where
      ended : (v u : List ℕ) → v ≡ p ++ u → Leads t 0 n s u → v ≡ p
      ended v [] e l = e ∙ append-nil p
      ended v (x ∷ u) e l = absurd l
