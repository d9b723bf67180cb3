-- Arithmetic of polynomials over the field of two symbols, modulo a polynomial.
-- A number stands for a polynomial in α: its binary digit at place i is the coefficient of αⁱ.
use Rattle.std.specs.Prelude.{ℕ, zero, suc, ◌-◌, ◌*◌, ◌/◌, ◌%◌, ◌^◌, cond, ◌==◌, bit_xor, nat_lt}
use Rattle.field.specs.Field.{Ops}
use Rattle.field.specs.Symbols.{on_symbols}

-- α · a, where α to the power `digits` is `low`: each digit moves up by one place, and one that comes to the place `digits` stands for `low`
abbrev pub alpha_times : ℕ → ℕ → ℕ → ℕ
alpha_times digits low a = cond (nat_lt (2 * a) (2 ^ digits)) (2 * a) (bit_xor (2 * a - 2 ^ digits) low)

-- a · b, for b of n digits. Its lowest digit d and the others, c, make b = d + α · c, so that a · b = d · a + (α · a) · c.
abbrev pub polynomial_times : ℕ → ℕ → ℕ → ℕ → ℕ → ℕ
polynomial_times digits low zero a b = 0
polynomial_times digits low (suc n) a b = bit_xor (cond (b % 2 == 1) a 0) (polynomial_times digits low n (alpha_times digits low a) (b / 2))

-- The polynomials of `digits` digits, where α to the power `digits` is `low`. They are added digit by digit, so each is its own
-- negative. This is a field where the polynomial that is the sum of that power and `low` is irreducible.
abbrev pub polynomials : ℕ → ℕ → Ops
polynomials digits low = on_symbols (2 ^ digits) bit_xor (λ a. a) (polynomial_times digits low digits)
