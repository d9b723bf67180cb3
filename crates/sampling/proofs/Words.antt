-- A word that is written place by place.
use Rattle.std.proofs.Common.{◌≡◌, ℕ, ◌+◌, ◌<◌, List, length, get_or, arith}
use Rattle.std.proofs.Math.ListN.{set}
use Rattle.std.proofs.lemmas.Grind.{common_steps}

-- one number more stands as it should
pub written_more : (xs : List ℕ) (i v : ℕ) (is : ℕ → ℕ) → i < length xs → ((p : ℕ) → p < i → get_or xs p 0 ≡ is p) → v ≡ is i → (p : ℕ) → p < i + 1 → get_or (set xs i v) p 0 ≡ is p
written_more xs i v is inside before here p h = grind (arith, common_steps)
