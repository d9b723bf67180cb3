-- Numbers and symbols: 0 and 1 are symbols, and a number that is none counts as 0.
use Rattle.std.proofs.Common.{◌≡◌, ℕ, ◌<◌, ◌≤◌, sym, ◌∙◌, inl, inr, arith}
use Rattle.std.proofs.lemmas.Bool.{cases_lt, cond-true, cond-false, lt-ltb, le-ltb}
use Rattle.field.specs.Field.{Ops, Laws}
use Rattle.algebra.specs.Words.{symbol}

pub zero_symbol : {f : Ops} → Laws f → 0 < f.order
zero_symbol l = omega (arith, l.least)

pub one_symbol : {f : Ops} → Laws f → 1 < f.order
one_symbol l = omega (arith, l.least)

pub symbol_is : (f : Ops) (x : ℕ) → x < f.order → symbol f x ≡ x
unfolding symbol
symbol_is f x h = cond-true _ _ _ (lt-ltb x f.order h)

pub symbol_none : (f : Ops) (x : ℕ) → f.order ≤ x → symbol f x ≡ 0
unfolding symbol
symbol_none f x h = cond-false _ _ _ (le-ltb x f.order h)

module _ (f : Ops) (l : Laws f) where
  pub symbol_below : (x : ℕ) → symbol f x < f.order
  symbol_below x = elim (cases_lt x f.order) [
    | inl h ↦ rw (symbol_is f x h) h
    | inr h ↦ rw (symbol_none f x h) (zero_symbol l)
  ]

  pub symbol_zero : symbol f 0 ≡ 0
  symbol_zero = symbol_is f 0 (zero_symbol l)

  pub symbol_one : symbol f 1 ≡ 1
  symbol_one = symbol_is f 1 (one_symbol l)

  -- one times a number is the symbol that the number counts as
  pub one_times : (x : ℕ) → f.product 1 x ≡ symbol f x
  one_times x = elim (cases_lt x f.order) [
    | inl h ↦ l.product_one x h ∙ sym (symbol_is f x h)
    | inr h ↦ l.product_right_none 1 x h ∙ sym (symbol_none f x h)
  ]
