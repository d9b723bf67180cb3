-- Symbols that are written over those of an array.
use Rattle.std.proofs.Common.{◌≡◌, ℕ, List, length, drop, ap}
use Rattle.std.proofs.lemmas.List.{take_at}
use Rattle.arrayvec.specs.ArrayVec.{ArrayVec, array_vec_len, with_items}

-- as many leave nothing of what stood there
pub overwritten : (v : ArrayVec ℕ) (out : List ℕ) → length out ≡ array_vec_len v → with_items v out ≡ record { items = out }
overwritten v out h =
    ap (λ (xs : List ℕ). record { items = xs }) (take_at out (drop (length out) v.items) (array_vec_len v) h)
