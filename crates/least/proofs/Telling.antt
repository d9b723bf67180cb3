-- Sets of things with costs: their least cost, and whether none, one or more have it.
use Rattle.std.proofs.Common.{◌≡◌, ℕ, zero, suc, ◌+◌, ◌<◌, ◌≤◌, eqb, ltb, ◌⊎◌, sym, refl, ap, ◌∙◌, inl, inr, ⊎_elim, arith}
use Rattle.std.proofs.lemmas.Bool.{cond_both, eqb-true, eqb-false, ltb-true, ltb-false}
use Rattle.least.specs.Least.{better}

-- Of the things in a set: there is none; or c is the least cost, and just one has it; or c is the least cost, and two have it.
abbrev pub Tells : {W : Type 0} → (W → Type 0) → (W → ℕ) → ℕ → ℕ → Type 0
Tells {W} In cost c zero = (w : W) → In w → ⊥
Tells {W} In cost c (suc zero) = ((w : W) → In w → c ≤ cost w) × ((w : W) × (In w × (cost w ≡ c) × ((v : W) → In v → cost v ≡ c → v ≡ w)))
Tells {W} In cost c (suc (suc m)) = ((w : W) → In w → c ≤ cost w) × ((w : W) × ((v : W) × (In w × In v × (cost w ≡ c) × (cost v ≡ c) × (w ≡ v → ⊥))))

-- the same set, said in another way
pub like : {W : Type 0} (In Out : W → Type 0) (cost : W → ℕ) (c m : ℕ) → ((w : W) → In w → Out w) → ((w : W) → Out w → In w) → Tells In cost c m → Tells Out cost c m
like In Out cost c zero to from t = λ w o. t w (from w o)
like In Out cost c (suc zero) to from t = (λ w o. t.0 w (from w o), (t.1.0, (to _ t.1.1.0, t.1.1.1, λ v o e. t.1.1.2 v (from v o) e)))
like In Out cost c (suc (suc m)) to from t = (λ w o. t.0 w (from w o), (t.1.0, (t.1.1.0, (to _ t.1.1.1.0, to _ t.1.1.1.1, t.1.1.1.2, t.1.1.1.3, t.1.1.1.4))))

-- with more that costs more
keep : {W : Type 0} (A B : W → Type 0) (cost : W → ℕ) (c m : ℕ) → (m ≡ 0 → (w : W) → B w → ⊥) → ((w : W) → B w → c < cost w) → Tells A cost c m → Tells (λ w. A w ⊎ B w) cost c m
keep A B cost c zero none more t = λ w. ⊎_elim (t w) (none refl w)
keep A B cost c (suc zero) none more t = (
  λ w. ⊎_elim (t.0 w) (λ b. omega (arith, more w b)),
  (t.1.0, (inl t.1.1.0, t.1.1.1, λ v. ⊎_elim (t.1.1.2 v) (λ b e. absurd (omega (arith, more v b, e))))),
)
keep A B cost c (suc (suc m)) none more t = (
  λ w. ⊎_elim (t.0 w) (λ b. omega (arith, more w b)),
  (t.1.0, (t.1.1.0, (inl t.1.1.1.0, inl t.1.1.1.1, t.1.1.1.2, t.1.1.1.3, t.1.1.1.4))),
)

swap : {A B : Type 0} → A ⊎ B → B ⊎ A
swap = ⊎_elim inr inl

pub least : {W : Type 0} (A : W → Type 0) (cost : W → ℕ) (c m : ℕ) → Tells A cost c m → (w : W) → A w → c ≤ cost w
least A cost c zero t w a = absurd (t w a)
least A cost c (suc zero) t w a = t.0 w a
least A cost c (suc (suc m)) t w a = t.0 w a

-- one that has the least cost
pub found : {W : Type 0} (A : W → Type 0) (cost : W → ℕ) (c m : ℕ) → 0 < m → Tells A cost c m → (w : W) × (A w × (cost w ≡ c))
found A cost c zero h t = absurd (omega arith)
found A cost c (suc zero) h t = (t.1.0, (t.1.1.0, t.1.1.1))
found A cost c (suc (suc m)) h t = (t.1.0, (t.1.1.1.0, t.1.1.1.2))

pub none : {W : Type 0} (A : W → Type 0) (cost : W → ℕ) (c m : ℕ) → m ≡ 0 → Tells A cost c m → (w : W) → A w → ⊥
none A cost c zero e t = t
none A cost c (suc m) e t = absurd (omega arith)

module _ {W : Type 0} (A B : W → Type 0) (cost : W → ℕ) (apart : (w : W) → A w → B w → ⊥) where
  tie : (c m n : ℕ) → 0 < m → 0 < n → Tells A cost c m → Tells B cost c n → Tells (λ w. A w ⊎ B w) cost c 2
  tie c m n hm hn t u =
      let a = found A cost c m hm t in
      let b = found B cost c n hn u in (
        λ w. ⊎_elim (least A cost c m t w) (least B cost c n u w),
        (a.0, (b.0, (inl a.1.0, inr b.1.0, a.1.1, b.1.1, λ e. apart a.0 a.1.0 (rw e b.1.0)))),
      )

  pub better_tells : (c m d n : ℕ) → Tells A cost c m → Tells B cost d n → Tells (λ w. A w ⊎ B w) cost (better c m d n).0 (better c m d n).1
  better_tells c m d n t u =
      let P : ℕ × ℕ → Type 0 = λ r. Tells (λ w. A w ⊎ B w) cost r.0 r.1 in
      let kept : (n ≡ 0) ⊎ ((0 < m) × (c < d)) → P (c, m) = λ h. keep A B cost c m (λ e. ⊎_elim (λ z. none B cost d n z u) (λ k. absurd (omega (arith, k))) h) (λ w b. ⊎_elim (λ z. absurd (none B cost d n z u w b)) (λ k. omega (arith, k.1, least B cost d n u w b)) h) t in
      let taken : (m ≡ 0) ⊎ ((0 < n) × (d < c)) → P (d, n) = λ h. like (λ w. B w ⊎ A w) (λ w. A w ⊎ B w) cost d n (λ w. swap) (λ w. swap) (keep B A cost d n (λ e. ⊎_elim (λ z. none A cost c m z t) (λ k. absurd (omega (arith, k))) h) (λ w a. ⊎_elim (λ z. absurd (none A cost c m z t w a)) (λ k. omega (arith, k.1, least A cost c m t w a)) h) u) in
      cond_both (eqb n 0) (c, m) _ P (λ e. kept (inl (eqb-true n 0 e)))
      (λ n0. cond_both (eqb m 0) (d, n) _ P (λ e. taken (inl (eqb-true m 0 e)))
      (λ m0. cond_both (ltb d c) (d, n) _ P (λ e. taken (inr (omega (arith, eqb-false n 0 n0), ltb-true d c e)))
      (λ dc. cond_both (ltb c d) (c, m) _ P (λ e. kept (inr (omega (arith, eqb-false m 0 m0), ltb-true c d e)))
      (λ cd. let same : d ≡ c = omega (arith, ltb-false d c dc, ltb-false c d cd) in tie c m n (omega (arith, eqb-false m 0 m0)) (omega (arith, eqb-false n 0 n0)) t (rw same at u)))))

-- each thing with a step put before it, which costs a more
pub lifted : {V W : Type 0} (f : V → W) (In : V → Type 0) (cost : V → ℕ) (dear : W → ℕ) (a c m : ℕ) → ((u v : V) → f u ≡ f v → u ≡ v) → ((v : V) → dear (f v) ≡ a + cost v) → Tells In cost c m → Tells (λ w. (v : V) × ((f v ≡ w) × In v)) dear (a + c) m
lifted f In cost dear a c zero inj by t = λ w o. t o.0 o.1.1
lifted f In cost dear a c (suc zero) inj by t = (
  λ w o. omega (arith, by o.0, ap dear o.1.0, t.0 o.0 o.1.1),
  (
    f t.1.0,
    (
      (t.1.0, (refl, t.1.1.0)),
      omega (arith, by t.1.0, t.1.1.1),
      λ w o e. sym o.1.0 ∙ ap f (t.1.1.2 o.0 o.1.1 (omega (arith, e, by o.0, ap dear o.1.0))),
    ),
  ),
)
lifted f In cost dear a c (suc (suc m)) inj by t =
    let u = t.1.0 in
    let v = t.1.1.0 in
    let h = t.1.1.1 in (
      λ w o. omega (arith, by o.0, ap dear o.1.0, t.0 o.0 o.1.1),
      (f u, (f v, ((u, (refl, h.0)), (v, (refl, h.1)), omega (arith, by u, h.2), omega (arith, by v, h.3), λ e. h.4 (inj u v e)))),
    )
