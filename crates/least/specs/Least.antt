-- Least costs, each with how many words have it: 0, 1, or 2 for two and more.
use Rattle.std.specs.Prelude.{ℕ, zero, suc, ◌+◌, cond, ◌==◌, nat_lt}
use Rattle.least.specs.Paths.{Trellis}

-- the less of two costs, in 2 ways where they tie; a cost in no way is passed over
abbrev pub better : ℕ → ℕ → ℕ → ℕ → ℕ × ℕ
better c m d n = cond (n == 0) (c, m) (cond (m == 0) (d, n) (cond (nat_lt d c) (d, n) (cond (nat_lt c d) (c, m) (c, 2))))

-- the least over the symbols below y, each with its cost and its ways
abbrev pub best_of : (ℕ → ℕ) → (ℕ → ℕ) → ℕ → ℕ × ℕ
best_of cost ways zero = (0, 0)
best_of cost ways (suc y) = better (best_of cost ways y).0 (best_of cost ways y).1 (cost y) (ways y)

-- the least cost of k symbols from the state s at the place i to the target, and its ways
abbrev pub best : Trellis → ℕ → ℕ → ℕ → ℕ × ℕ
best t zero i s = cond (s == t.target) (0, 1) (0, 0)
best t (suc k) i s = best_of (λ x. t.cost i x + (best t k (i + 1) (t.next i s x)).0) (λ x. (best t k (i + 1) (t.next i s x)).1) t.symbols

-- one value at the symbol 0, and another at each other symbol
abbrev pub zero_apart : ℕ × ℕ → (ℕ → ℕ × ℕ) → ℕ → ℕ × ℕ
zero_apart zeros others zero = zeros
zero_apart zeros others (suc x) = others (suc x)

-- the same from the state 0, over the words that are not all 0
abbrev pub best_other : Trellis → ℕ → ℕ → ℕ × ℕ
best_other t zero i = (0, 0)
best_other t (suc k) i =
    best_of (λ x. t.cost i x + (zero_apart (best_other t k (i + 1)) (λ y. best t k (i + 1) (t.next i 0 y)) x).0)
    (λ x. (zero_apart (best_other t k (i + 1)) (λ y. best t k (i + 1) (t.next i 0 y)) x).1) t.symbols
