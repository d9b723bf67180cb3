-- A text in two parts.
use Rattle.std.specs.Prelude.{◌≡◌, ℕ, ◌<◌, List, ◌++◌, length, codes, ◌≢◌, slice_index}
use Rattle.std.specs.Borrow.{Bor}

-- the parts are what stands before and after the first space, whose code is 32
abbrev pub Parted : List ℕ → List ℕ × List ℕ → Type 0
Parted text p = ((i : ℕ) → i < length p.0 → slice_index p.0 i ≢ 32) × (text ≡ p.0 ++ (codes " " ++ p.1))

-- the bytes of two texts that are lent
abbrev pub texts : Bor (List ℕ) × Bor (List ℕ) → List ℕ × List ℕ
texts p = (p.0.now, p.1.now)
