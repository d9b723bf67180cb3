-- The laws of arithmetic by remainder, once for all primes up to 16.
use Rattle.std.specs.Prelude.{◌≡◌, ℕ, ◌+◌, ◌-◌, ◌*◌, ◌%◌, ◌<◌, ◌≤◌, Bool, true, ◌||◌, ◌==◌, refl}
use Rattle.std.proofs.Common.{ap, inl, inr, mod-lt, mod-eq_of_lt, add_assoc, add_comm, zero-add, one-mul, zero-mul, mul_comm, mul_assoc, mul-add, le_of_lt, add-sub_of_le, arith}
use Rattle.std.proofs.Math.Nat.{mod-add-mod, add-mod-mod, mod_self, zero-mod, add-mod}
use Rattle.std.proofs.lemmas.Bool.{eqb-true, or_cases}
use Rattle.std.proofs.lemmas.Nat.{mul-mod_first, mul-mod_second}
use Rattle.field.specs.Field.{Laws}
use Rattle.field.specs.Symbols.{inverse_below}
use Rattle.field.specs.Remainders.{remainders, remainder_times}
use Rattle.field.specs.Tests.{every, every_at}
use Rattle.field.specs.SymbolLaws.{symbol_is, symbols_are, symbol_none, symbols_right_none, inverse_below_lt, inverse_below_none}

zero_times : (p b : ℕ) → remainder_times p 0 b ≡ 0
zero_times p b = rw (zero-mul, zero-mod)

-- the test that each number below p but 0 has an inverse, as it has where p is prime
abbrev invertible : ℕ → Bool
invertible p = every (λ a. (a == 0) || remainder_times p a (inverse_below (remainder_times p) a p) == 1) p

module _ (p : ℕ) (least : 1 < p) (most : p ≤ 16) (inverses : invertible p ≡ true) where
  below : (n : ℕ) → n % p < p
  below n = mod-lt n (omega arith)

  sum_is : (a b : ℕ) → a < p → b < p → (remainders p).sum a b ≡ (a + b) % p
  sum_is a b h k = symbols_are p a b ((a + b) % p) h k

  negative_is : (a : ℕ) → a < p → (remainders p).negative a ≡ (p - a) % p
  negative_is a h = symbol_is p a ((p - a) % p) h

  product_is : (a b : ℕ) → a < p → b < p → (remainders p).product a b ≡ (a * b) % p
  product_is a b h k = symbols_are p a b ((a * b) % p) h k

  inverse_is : (a : ℕ) → a < p → (remainders p).inverse a ≡ inverse_below (remainder_times p) a p
  inverse_is a h = symbol_is p a (inverse_below (remainder_times p) a p) h

  inverse_lt : (a : ℕ) → inverse_below (remainder_times p) a p < p
  inverse_lt a = inverse_below_lt (remainder_times p) a p p (omega arith) (omega arith)

  prime_laws : Laws (remainders p)
  prime_laws = record {
    least = least;
    most = most;
    sum_symbol = λ a b h k. rw (sum_is a b h k) (below (a + b));
    negative_symbol = λ a h. rw (negative_is a h) (below (p - a));
    product_symbol = λ a b h k. rw (product_is a b h k) (below (a * b));
    inverse_symbol = λ a h. rw (inverse_is a h) (inverse_lt a);
    sum_assoc = λ a b c h k l. rw (sum_is a b h k, sum_is b c k l, sum_is ((a + b) % p) c (below (a + b)) l, sum_is a ((b + c) % p) h (below (b + c)), mod-add-mod, add-mod-mod, add_assoc);
    sum_comm = λ a b h k. rw (sum_is a b h k, sum_is b a k h) (ap (λ n. n % p) (add_comm a b));
    sum_zero = λ a h. rw (sum_is 0 a (omega arith) h, zero-add) (mod-eq_of_lt h);
    sum_negative = λ a h. rw (negative_is a h, sum_is a ((p - a) % p) h (below (p - a)), add-mod-mod, add-sub_of_le (le_of_lt h)) (mod_self p);
    product_assoc = λ a b c h k l. rw (product_is a b h k, product_is b c k l, product_is ((a * b) % p) c (below (a * b)) l, product_is a ((b * c) % p) h (below (b * c)), mul-mod_first, mul-mod_second, mul_assoc);
    product_comm = λ a b h k. rw (product_is a b h k, product_is b a k h) (ap (λ n. n % p) (mul_comm a b));
    product_one = λ a h. rw (product_is 1 a least h, one-mul) (mod-eq_of_lt h);
    product_inverse = λ a h ne. rw (inverse_is a h, product_is a (inverse_below (remainder_times p) a p) h (inverse_lt a))
        (elim (or_cases _ _ (every_at _ _ inverses a h)) [ inl e ↦ absurd (ne (eqb-true _ _ e)) | inr e ↦ eqb-true _ _ e ]);
    product_sum = λ a b c h k l. rw (sum_is b c k l, product_is a ((b + c) % p) h (below (b + c)), product_is a b h k, product_is a c h l, sum_is ((a * b) % p) ((a * c) % p) (below (a * b)) (below (a * c)), mul-mod_second, mul-add) (add-mod (a * b) (a * c) p);
    sum_left_none = λ a b h. symbol_none p a _ h;
    sum_right_none = λ a b h. symbols_right_none p a b _ h;
    negative_none = λ a h. symbol_none p a _ h;
    product_left_none = λ a b h. symbol_none p a _ h;
    product_right_none = λ a b h. symbols_right_none p a b _ h;
    inverse_none = λ a h. symbol_none p a _ h;
    inverse_zero = rw (inverse_is 0 (omega arith)) (inverse_below_none (remainder_times p) 0 p (λ b e. omega (arith, zero_times p b)));
  }

pub two_laws : Laws (remainders 2)
unfolding every
two_laws = prime_laws 2 (omega arith) (omega arith) refl

pub three_laws : Laws (remainders 3)
unfolding every
three_laws = prime_laws 3 (omega arith) (omega arith) refl
