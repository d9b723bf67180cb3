-- An array before anything is written into it.
use Rattle.std.proofs.Common.{◌≡◌, ℕ, replicate, get_or, ◌<◌, inl, inr, arith}
use Rattle.std.proofs.lemmas.List.{get_or-replicate, get_or_past, length-replicate}
use Rattle.std.proofs.lemmas.Bool.{cases_lt}

pub all_zeros : (n k : ℕ) → ◌≡◌ {A = ℕ} (get_or (replicate n 0) k 0) 0
all_zeros n k =
    elim (cases_lt k n) [
      | inl h ↦ get_or-replicate n k 0 0 h
      | inr h ↦ get_or_past (replicate {A = ℕ} n 0) k 0 (omega (arith, h, length-replicate {A = ℕ} n 0))
    ]

pub not_below_zero : (k : ℕ) → k < 0 → ⊥
not_below_zero k h = omega (arith, h)
