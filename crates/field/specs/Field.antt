-- A finite field of few symbols: its operations, as functions on numbers, and the laws that they keep.
use Rattle.std.specs.Prelude.{◌≡◌, ℕ, ◌<◌, ◌≤◌, ◌≢◌}

-- The symbols are the numbers below the order.
pub record Ops : Type 0 where
  pub order : ℕ
  pub sum : ℕ → ℕ → ℕ
  pub negative : ℕ → ℕ
  pub product : ℕ → ℕ → ℕ
  pub inverse : ℕ → ℕ

pub record Laws (f : Ops) : Type 0 where
  -- there are 2 to 16 symbols
  pub least : 2 ≤ f.order
  pub most : f.order ≤ 16
  -- every result is a symbol
  pub sum_symbol : (a b : ℕ) → a < f.order → b < f.order → f.sum a b < f.order
  pub negative_symbol : (a : ℕ) → a < f.order → f.negative a < f.order
  pub product_symbol : (a b : ℕ) → a < f.order → b < f.order → f.product a b < f.order
  pub inverse_symbol : (a : ℕ) → a < f.order → f.inverse a < f.order
  -- the sum is associative and commutative, 0 is neutral, and each symbol has its negative
  pub sum_assoc : (a b c : ℕ) → a < f.order → b < f.order → c < f.order → f.sum (f.sum a b) c ≡ f.sum a (f.sum b c)
  pub sum_comm : (a b : ℕ) → a < f.order → b < f.order → f.sum a b ≡ f.sum b a
  pub sum_zero : (a : ℕ) → a < f.order → f.sum 0 a ≡ a
  pub sum_negative : (a : ℕ) → a < f.order → f.sum a (f.negative a) ≡ 0
  -- the product is associative and commutative, 1 is neutral, and each symbol other than 0 has its inverse
  pub product_assoc : (a b c : ℕ) → a < f.order → b < f.order → c < f.order → f.product (f.product a b) c ≡ f.product a (f.product b c)
  pub product_comm : (a b : ℕ) → a < f.order → b < f.order → f.product a b ≡ f.product b a
  pub product_one : (a : ℕ) → a < f.order → f.product 1 a ≡ a
  pub product_inverse : (a : ℕ) → a < f.order → (a ≢ 0) → f.product a (f.inverse a) ≡ 1
  -- the product distributes over the sum
  pub product_sum : (a b c : ℕ) → a < f.order → b < f.order → c < f.order → f.product a (f.sum b c) ≡ f.sum (f.product a b) (f.product a c)
  -- an operation on a number that is no symbol answers 0, and so does the inverse of 0
  pub sum_left_none : (a b : ℕ) → f.order ≤ a → f.sum a b ≡ 0
  pub sum_right_none : (a b : ℕ) → f.order ≤ b → f.sum a b ≡ 0
  pub negative_none : (a : ℕ) → f.order ≤ a → f.negative a ≡ 0
  pub product_left_none : (a b : ℕ) → f.order ≤ a → f.product a b ≡ 0
  pub product_right_none : (a b : ℕ) → f.order ≤ b → f.product a b ≡ 0
  pub inverse_none : (a : ℕ) → f.order ≤ a → f.inverse a ≡ 0
  pub inverse_zero : f.inverse 0 ≡ 0
