-- The table of a rule on the numbers below n.
use Rattle.std.specs.Prelude.{ℕ, List, map}
use Rattle.std.specs.List.{range_with_len}

-- the answers at 0 to n - 1
abbrev pub row : (ℕ → ℕ) → ℕ → List ℕ
row f n = map f (range_with_len 0 n)

-- a row for each of 0 to n - 1
abbrev pub table : (ℕ → ℕ → ℕ) → ℕ → List (List ℕ)
table f n = map (λ a. row (f a) n) (range_with_len 0 n)
