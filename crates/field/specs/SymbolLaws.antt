-- What `on_symbols` answers on symbols, and that it answers 0 on any other number.
use Rattle.std.specs.Prelude.{◌≡◌, ℕ, zero, suc, ◌<◌, ◌≤◌, ◌==◌, ◌≢◌, nat_lt, refl}
use Rattle.std.proofs.Common.{ap, ◌∙◌, arith}
use Rattle.std.proofs.lemmas.Bool.{lt-ltb, le-ltb, ne_eqb, cond-true, cond-false, cond_both}
use Rattle.field.specs.Symbols.{if_symbol, if_symbols, inverse_below}

pub symbol_is : (order a x : ℕ) → a < order → if_symbol order a x ≡ x
symbol_is order a x h = cond-true _ _ _ (lt-ltb a order h)

pub symbols_are : (order a b x : ℕ) → a < order → b < order → if_symbols order a b x ≡ x
symbols_are order a b x h k = symbol_is order a (if_symbol order b x) h ∙ symbol_is order b x k

pub symbol_none : (order a x : ℕ) → order ≤ a → if_symbol order a x ≡ 0
symbol_none order a x h = cond-false _ _ _ (le-ltb a order h)

pub symbols_right_none : (order a b x : ℕ) → order ≤ b → if_symbols order a b x ≡ 0
symbols_right_none order a b x h =
    ap (λ y. if_symbol order a y) (symbol_none order b x h) ∙ cond_both (nat_lt a order) 0 0 (λ y. y ≡ 0) (λ _. refl) (λ _. refl)

-- the inverse below n is below each bound of n that is not 0
pub inverse_below_lt : (times : ℕ → ℕ → ℕ) (a n bound : ℕ) → 0 < bound → n ≤ bound → inverse_below times a n < bound
inverse_below_lt times a zero bound h k = h
inverse_below_lt times a (suc n) bound h k =
    cond_both (times a n == 1) n (inverse_below times a n) (λ x. x < bound) (λ _. k) (λ _. inverse_below_lt times a n bound h (omega arith))

-- a number that has the product 1 with none has the inverse 0
pub inverse_below_none : (times : ℕ → ℕ → ℕ) (a n : ℕ) → ((b : ℕ) → times a b ≢ 1) → inverse_below times a n ≡ 0
inverse_below_none times a zero h = refl
inverse_below_none times a (suc n) h = cond-false _ _ _ (ne_eqb (times a n) 1 (h n)) ∙ inverse_below_none times a n h
