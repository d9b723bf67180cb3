-- Arithmetic by remainder.
use Rattle.std.specs.Prelude.{ℕ, ◌+◌, ◌-◌, ◌*◌, ◌%◌}
use Rattle.field.specs.Field.{Ops}
use Rattle.field.specs.Symbols.{on_symbols}

-- the remainder by p of the product
abbrev pub remainder_times : ℕ → ℕ → ℕ → ℕ
remainder_times p a b = (a * b) % p

-- The numbers below p, with the remainder by p of each sum, difference and product: a field where p is prime.
abbrev pub remainders : ℕ → Ops
remainders p = on_symbols p (λ a b. (a + b) % p) (λ a. (p - a) % p) (remainder_times p)
