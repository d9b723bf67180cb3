-- How many symbols of a word are not 0, and in how many places two words differ.
use Rattle.std.specs.Prelude.{ℕ, zero, suc, ◌+◌, cond, ◌==◌}

-- how many of the first n symbols of w are not 0
abbrev pub weight : ℕ → (ℕ → ℕ) → ℕ
weight zero w = 0
weight (suc n) w = weight n w + cond (w n == 0) 0 1

-- in how many of the first n places v and w differ
abbrev pub differences : ℕ → (ℕ → ℕ) → (ℕ → ℕ) → ℕ
differences zero v w = 0
differences (suc n) v w = differences n v w + cond (v n == w n) 0 1
