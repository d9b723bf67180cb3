-- The operations of a field on every number, from a sum, a negative and a product of its symbols.
use Rattle.std.specs.Prelude.{ℕ, zero, suc, cond, ◌==◌, nat_lt}
use Rattle.field.specs.Field.{Ops}

-- x where a is a symbol, else 0
abbrev pub if_symbol : ℕ → ℕ → ℕ → ℕ
if_symbol order a x = cond (nat_lt a order) x 0

-- x where a and b are symbols, else 0
abbrev pub if_symbols : ℕ → ℕ → ℕ → ℕ → ℕ
if_symbols order a b x = if_symbol order a (if_symbol order b x)

-- The number below n whose product with a, by `times`, is 1, and 0 where there is none.
-- Among the symbols of a field there is at most one; of several it is the greatest.
abbrev pub inverse_below : (ℕ → ℕ → ℕ) → ℕ → ℕ → ℕ
inverse_below times a zero = 0
inverse_below times a (suc n) = cond (times a n == 1) n (inverse_below times a n)

-- The symbols are added by `plus`, negated by `minus` and multiplied by `times`; a symbol's inverse
-- is the symbol whose product with it is 1, and 0 where there is none. Any other number gives 0.
abbrev pub on_symbols : ℕ → (ℕ → ℕ → ℕ) → (ℕ → ℕ) → (ℕ → ℕ → ℕ) → Ops
on_symbols order plus minus times = record {
  order = order;
  sum = λ a b. if_symbols order a b (plus a b);
  negative = λ a. if_symbol order a (minus a);
  product = λ a b. if_symbols order a b (times a b);
  inverse = λ a. if_symbol order a (inverse_below times a order);
}
