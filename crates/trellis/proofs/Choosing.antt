-- Least costs that are told.
use Rattle.std.proofs.Common.{◌≡◌, ℕ, zero, suc, ◌+◌, ◌≤◌, Some, None, Option, eqb, ltb, subst, ap₂, refl, arith}
use Rattle.std.proofs.lemmas.Bool.{cond_both}
use Rattle.least.specs.Paths.{Trellis}
use Rattle.least.specs.Least.{better, best_of, best}
use Rattle.trellis.specs.declared.cost.Least.{Least}
use Rattle.trellis.specs.Leasts.{told, Tells}

-- a cost that is told is chosen as it is where it is had
pub better_told : (c m : ℕ) (o : Option Least) (cost ways : ℕ) → Tells o cost ways → better c m (told o).0 (told o).1 ≡ better c m cost ways
better_told c m None cost ways e = rw e refl
better_told c m (Some l) cost ways h = ap₂ (better c m) h.0 h.1

-- the same is told of equal costs and ways
pub tells_same : (o : Option Least) (cost ways dear more : ℕ) → Tells o cost ways → cost ≡ dear → ways ≡ more → Tells o dear more
tells_same o cost ways dear more told same also = subst (λ c. Tells o c more) same (subst (Tells o cost) also told)

-- the ways are at most two
better_two : (c m d n : ℕ) → m ≤ 2 → n ≤ 2 → (better c m d n).1 ≤ 2
better_two c m d n hm hn =
    let P : ℕ × ℕ → Type 0 = λ r. r.1 ≤ 2 in
    cond_both (eqb n 0) (c, m) _ P (λ e. hm)
    (λ n0. cond_both (eqb m 0) (d, n) _ P (λ e. hn)
    (λ m0. cond_both (ltb d c) (d, n) _ P (λ e. hn)
    (λ dc. cond_both (ltb c d) (c, m) (c, 2) P (λ e. hm) (λ cd. omega arith))))

best_of_two : (cost ways : ℕ → ℕ) (y : ℕ) → ((x : ℕ) → ways x ≤ 2) → (best_of cost ways y).1 ≤ 2
best_of_two cost ways zero h = omega arith
best_of_two cost ways (suc y) h = better_two _ _ _ _ (best_of_two cost ways y h) (h y)

pub best_two : (t : Trellis) (k i s : ℕ) → (best t k i s).1 ≤ 2
best_two t zero i s = cond_both {A = ℕ × ℕ} (eqb s t.target) (0, 1) (0, 0) (λ r. r.1 ≤ 2) (λ _. omega arith) (λ _. omega arith)
best_two t (suc k) i s = best_of_two _ _ t.symbols (λ x. best_two t k (i + 1) (t.next i s x))
