-- The least over the symbols: one symbol more, a bound, and a symbol that has it.
use Rattle.std.proofs.Common.{◌≡◌, ℕ, zero, suc, ◌+◌, ◌<◌, ◌≤◌, eqb, ltb, ◌⊎◌, refl, inl, inr, add-one, arith}
use Rattle.std.proofs.lemmas.Bool.{cond_both, eqb-false, eq-eqb, ne_eqb, lt-ltb, le-ltb, cases_eq}
use Rattle.least.specs.Least.{better, best_of, zero_apart}

pub best_of_more : (cost ways : ℕ → ℕ) (y : ℕ) → best_of cost ways (y + 1) ≡ better (best_of cost ways y).0 (best_of cost ways y).1 (cost y) (ways y)
best_of_more cost ways y = rw (add-one y)

-- only the symbols below y count
pub best_of_same : (c d m n : ℕ → ℕ) (y : ℕ) → ((x : ℕ) → x < y → c x ≡ d x) → ((x : ℕ) → x < y → m x ≡ n x) → best_of c m y ≡ best_of d n y
best_of_same c d m n zero cs ms = refl
best_of_same c d m n (suc y) cs ms =
    let r = best_of_same c d m n y (λ x h. cs x (omega arith)) (λ x h. ms x (omega arith)) in
    rw (r, cs y (omega arith), ms y (omega arith))

module _ (cost ways : ℕ → ℕ) where
  -- the less of two is one of them, in one way at least if both are
  step : (P : ℕ × ℕ → Type 0) (y : ℕ) → P (best_of cost ways y) → P (cost y, ways y) → (0 < (best_of cost ways y).1 → P ((best_of cost ways y).0, 2)) → P (best_of cost ways (suc y))
  step P y old new both =
      let c = (best_of cost ways y).0 in
      let m = (best_of cost ways y).1 in
      cond_both (eqb (ways y) 0) (c, m) _ P (λ _. old)
      (λ _. cond_both (eqb m 0) (cost y, ways y) _ P (λ _. new)
      (λ m0. cond_both (ltb (cost y) c) (cost y, ways y) _ P (λ _. new)
      (λ _. cond_both (ltb c (cost y)) (c, m) _ P (λ _. old) (λ _. both (let h = eqb-false m 0 m0 in omega arith)))))

  pub best_of_bound : (b y : ℕ) → ((x : ℕ) → cost x ≤ b) → (best_of cost ways y).0 ≤ b
  best_of_bound b zero each = omega arith
  best_of_bound b (suc y) each =
      let old = best_of_bound b y each in
      step (λ r. r.0 ≤ b) y old (each y) (λ _. old)

  -- some symbol has the least cost, if any has a way
  pub best_of_found : (y : ℕ) → 0 < (best_of cost ways y).1 → (x : ℕ) × ((x < y) × (0 < ways x) × (cost x ≡ (best_of cost ways y).0))
  best_of_found zero = λ h. absurd (omega arith)
  best_of_found (suc y) =
      let P : ℕ × ℕ → Type 0 = λ r. 0 < r.1 → (x : ℕ) × ((x < suc y) × (0 < ways x) × (cost x ≡ r.0)) in
      let old : P (best_of cost ways y) = λ h. let o = best_of_found y h in (o.0, (omega (arith, o.1.0), o.1.1, o.1.2)) in
      step P y old (λ h. (y, (omega arith, h, refl))) (λ live _. old live)

-- the value at the symbol 0, and at another
pub apart_zero : (zeros : ℕ × ℕ) (others : ℕ → ℕ × ℕ) (x : ℕ) → x ≡ 0 → zero_apart zeros others x ≡ zeros
apart_zero zeros others zero e = refl
apart_zero zeros others (suc x) e = absurd (omega arith)

pub apart_other : (zeros : ℕ × ℕ) (others : ℕ → ℕ × ℕ) (x : ℕ) → (x ≡ 0 → ⊥) → zero_apart zeros others x ≡ others x
apart_other zeros others zero n = absurd (n refl)
apart_other zeros others (suc x) n = refl

-- the less of two costs: by what is known of them
pub better_none : (c m d n : ℕ) → n ≡ 0 → better c m d n ≡ (c, m)
better_none c m d n e = rw (eq-eqb n 0 e)

pub better_new : (c m d n : ℕ) → (n ≡ 0 → ⊥) → (m ≡ 0) ⊎ (d < c) → better c m d n ≡ (d, n)
better_new c m d n some (inl e) = rw (ne_eqb n 0 some, eq-eqb m 0 e)
better_new c m d n some (inr h) = elim (cases_eq m 0) [ inl e ↦ rw (ne_eqb n 0 some, eq-eqb m 0 e) | inr ne ↦ rw (ne_eqb n 0 some, ne_eqb m 0 ne, lt-ltb d c h) ]

pub better_tied : (c m d n : ℕ) → (n ≡ 0 → ⊥) → (m ≡ 0 → ⊥) → d ≡ c → better c m d n ≡ (c, 2)
better_tied c m d n some also e = rw (ne_eqb n 0 some, ne_eqb m 0 also, le-ltb d c (omega arith), le-ltb c d (omega arith))

pub better_old : (c m d n : ℕ) → (n ≡ 0 → ⊥) → (m ≡ 0 → ⊥) → c < d → better c m d n ≡ (c, m)
better_old c m d n some also h = rw (ne_eqb n 0 some, ne_eqb m 0 also, le-ltb d c (omega arith), lt-ltb c d h)
