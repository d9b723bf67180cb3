-- The recursion over the places finds the least cost, and whether one word has it.
use Rattle.std.proofs.Common.{◌≡◌, ℕ, zero, suc, ◌+◌, ◌*◌, ◌<◌, ◌≤◌, eqb, ◌⊎◌, List, [], ◌∷◌, sym, refl, ap, subst, inl, inr, ⊎_elim, arith}
use Rattle.std.proofs.lemmas.Bool.{cond_both, eqb-true, eqb-false, cases_eq}
use Rattle.least.specs.Paths.{Trellis, Leads, LeadsOther, path_cost}
use Rattle.least.specs.Least.{best_of, best, zero_apart, best_other}
use Rattle.least.proofs.Telling.{Tells, like, better_tells, lifted, found, least, none}
use Rattle.least.proofs.Choosing.{best_of_bound}

tail_same : (y : ℕ) (u v : List ℕ) → ◌≡◌ {A = List ℕ} (y ∷ u) (y ∷ v) → u ≡ v
tail_same y u v e = cc

-- words by their first symbol, and what may come after it
module _ (t : Trellis) (i : ℕ) (After : ℕ → List ℕ → Type 0) where
  -- those that begin with a symbol below y
  abbrev Begun : ℕ → List ℕ → Type 0
  Begun y [] = ⊥
  Begun y (x ∷ w) = (x < y) × After x w

  -- those that begin with y
  abbrev At : ℕ → List ℕ → Type 0
  At y w = (v : List ℕ) × ((y ∷ v ≡ w) × After y v)

  one_more : (y : ℕ) (w : List ℕ) → Begun y w ⊎ At y w → Begun (suc y) w
  one_more y [] = ⊎_elim (λ b. b) (λ o. subst (Begun (suc y)) o.1.0 (omega arith, o.1.1))
  one_more y (x ∷ w) = ⊎_elim (λ b. (omega arith, b.1)) (λ o. subst (Begun (suc y)) o.1.0 (omega arith, o.1.1))

  one_less : (y : ℕ) (w : List ℕ) → Begun (suc y) w → Begun y w ⊎ At y w
  one_less y [] b = elim b [ ]
  one_less y (x ∷ w) b =
      ⊎_elim (λ e. inr (w, (ap (λ z. z ∷ w) (sym e), subst (λ z. After z w) e b.1)))
      (λ ne. inl (omega (arith, ne), b.1)) (cases_eq x y)

  at_tells : (cost ways : ℕ → ℕ) (y : ℕ) → Tells (After y) (path_cost t (i + 1)) (cost y) (ways y) → Tells (At y) (path_cost t i) (t.cost i y + cost y) (ways y)
  at_tells cost ways y = lifted (λ v. y ∷ v) (After y) (path_cost t (i + 1)) (path_cost t i) (t.cost i y) (cost y) (ways y) (tail_same y) (λ v. refl)

  pub begun_tells : (cost ways : ℕ → ℕ) → ((y : ℕ) → Tells (After y) (path_cost t (i + 1)) (cost y) (ways y)) → (y : ℕ) → Tells (Begun y) (path_cost t i) (best_of (λ x. t.cost i x + cost x) ways y).0 (best_of (λ x. t.cost i x + cost x) ways y).1
  begun_tells cost ways each zero = λ w. elim w as (λ v. Begun 0 v → ⊥) [ [] ↦ λ b. b | x ∷ v ↦ λ b. omega (arith, b.0) ]
  begun_tells cost ways each (suc y) =
      let all : ℕ → ℕ = λ x. t.cost i x + cost x in
      let r = best_of all ways y in
      let s = best_of all ways (suc y) in
      like (λ w. Begun y w ⊎ At y w) (Begun (suc y)) (path_cost t i) s.0 s.1 (one_more y) (one_less y)
      (better_tells (Begun y) (At y) (path_cost t i) (λ w b o. omega (arith, (subst (Begun y) (sym o.1.0) b).0)) r.0 r.1 (all y) (ways y) (begun_tells cost ways each y) (at_tells cost ways y (each y)))

module _ (t : Trellis) where
  pub best_tells : (k i s : ℕ) → Tells (Leads t k i s) (path_cost t i) (best t k i s).0 (best t k i s).1
  best_tells zero i s =
      let P : ℕ × ℕ → Type 0 = λ r. Tells (Leads t 0 i s) (path_cost t i) r.0 r.1 in
      cond_both (eqb s t.target) (0, 1) (0, 0) P
      (λ e. (λ w l. omega arith, ([], (eqb-true s t.target e, refl, λ v. elim v as (λ u. Leads t 0 i s u → path_cost t i u ≡ 0 → u ≡ []) [ [] ↦ λ l z. refl | x ∷ u ↦ λ l z. absurd l ]))))
      (λ e w. elim w as (λ u. Leads t 0 i s u → ⊥) [ [] ↦ eqb-false s t.target e | x ∷ u ↦ λ l. l ])
  best_tells (suc k) i s =
      let After : ℕ → List ℕ → Type 0 = λ x. Leads t k (i + 1) (t.next i s x) in
      let on : ℕ → ℕ × ℕ = λ x. best t k (i + 1) (t.next i s x) in
      like (Begun t i After t.symbols) (Leads t (suc k) i s) (path_cost t i) (best t (suc k) i s).0 (best t (suc k) i s).1
      (λ w. elim w as (λ u. Begun t i After t.symbols u → Leads t (suc k) i s u) [ [] ↦ λ b. b | x ∷ u ↦ λ b. b ])
      (λ w. elim w as (λ u. Leads t (suc k) i s u → Begun t i After t.symbols u) [ [] ↦ λ b. b | x ∷ u ↦ λ b. b ])
      (begun_tells t i After (λ x. (on x).0) (λ x. (on x).1) (λ y. best_tells k (i + 1) (t.next i s y)) t.symbols)

  -- what may come after the first symbol of a word that is not all 0
  abbrev AfterOther : ℕ → ℕ → ℕ → List ℕ → Type 0
  AfterOther k i zero = LeadsOther t k (i + 1)
  AfterOther k i (suc x) = Leads t k (i + 1) (t.next i 0 (suc x))

  other_to : (k i : ℕ) (w : List ℕ) → Begun t i (AfterOther k i) t.symbols w → LeadsOther t (suc k) i w
  other_to k i [] b = b
  other_to k i (zero ∷ w) b = b
  other_to k i (suc x ∷ w) b = b

  other_from : (k i : ℕ) (w : List ℕ) → LeadsOther t (suc k) i w → Begun t i (AfterOther k i) t.symbols w
  other_from k i [] b = b
  other_from k i (zero ∷ w) b = b
  other_from k i (suc x ∷ w) b = b

  pub other_tells : (k i : ℕ) → Tells (LeadsOther t k i) (path_cost t i) (best_other t k i).0 (best_other t k i).1
  other_tells zero i = λ w o. o
  other_tells (suc k) i =
      let on : ℕ → ℕ × ℕ = zero_apart (best_other t k (i + 1)) (λ y. best t k (i + 1) (t.next i 0 y)) in
      let each : (y : ℕ) → Tells (AfterOther k i y) (path_cost t (i + 1)) (on y).0 (on y).1 = λ y. elim y as (λ z. Tells (AfterOther k i z) (path_cost t (i + 1)) (on z).0 (on z).1) [ zero ↦ other_tells k (i + 1) | suc x ↦ best_tells k (i + 1) (t.next i 0 (suc x)) ] in
      like (Begun t i (AfterOther k i) t.symbols) (LeadsOther t (suc k) i) (path_cost t i) (best_other t (suc k) i).0 (best_other t (suc k) i).1
      (other_to k i) (other_from k i)
      (begun_tells t i (AfterOther k i) (λ x. (on x).0) (λ x. (on x).1) each t.symbols)

  -- a word that leads on has a way, and costs no less than the least
  pub some_way : (k i s : ℕ) (w : List ℕ) → Leads t k i s w → 0 < (best t k i s).1
  some_way k i s w l = ⊎_elim (λ e. absurd (none (Leads t k i s) (path_cost t i) (best t k i s).0 (best t k i s).1 e (best_tells k i s) w l)) (λ ne. omega (arith, ne)) (cases_eq (best t k i s).1 0)

  pub no_less : (k i s : ℕ) (w : List ℕ) → Leads t k i s w → (best t k i s).0 ≤ path_cost t i w
  no_less k i s w l = least (Leads t k i s) (path_cost t i) (best t k i s).0 (best t k i s).1 (best_tells k i s) w l

  -- a symbol that leads on, with the least after it, costs no less than the least
  pub symbol_no_less : (k i s x : ℕ) → x < t.symbols → 0 < (best t k (i + 1) (t.next i s x)).1 → (best t (suc k) i s).0 ≤ t.cost i x + (best t k (i + 1) (t.next i s x)).0
  symbol_no_less k i s x h live =
      let r = best t k (i + 1) (t.next i s x) in
      let o = found (Leads t k (i + 1) (t.next i s x)) (path_cost t (i + 1)) r.0 r.1 live (best_tells k (i + 1) (t.next i s x)) in
      omega (arith, no_less (suc k) i s (x ∷ o.0) (h, o.1.0), o.1.1)

  pub best_bound : ((i x : ℕ) → t.cost i x ≤ 65535) → (k i s : ℕ) → (best t k i s).0 ≤ 65535 * k
  best_bound each zero i s = cond_both {A = ℕ × ℕ} (eqb s t.target) (0, 1) (0, 0) (λ r. r.0 ≤ 0) (λ _. omega arith) (λ _. omega arith)
  best_bound each (suc k) i s = best_of_bound _ _ _ t.symbols (λ x. omega (arith, each i x, best_bound each k (i + 1) (t.next i s x)))

  pub other_bound : ((i x : ℕ) → t.cost i x ≤ 65535) → (k i : ℕ) → (best_other t k i).0 ≤ 65535 * k
  other_bound each zero i = omega arith
  other_bound each (suc k) i =
      let on : ℕ → ℕ × ℕ = zero_apart (best_other t k (i + 1)) (λ y. best t k (i + 1) (t.next i 0 y)) in
      let rest : (x : ℕ) → (on x).0 ≤ 65535 * k = λ x. elim x as (λ z. (on z).0 ≤ 65535 * k) [ zero ↦ other_bound each k (i + 1) | suc y ↦ best_bound each k (i + 1) (t.next i 0 (suc y)) ] in
      best_of_bound _ _ _ t.symbols (λ x. omega (arith, each i x, rest x))
