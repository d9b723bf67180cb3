-- A test of every number below a bound, which antt computes.
use Rattle.std.specs.Prelude.{◌≡◌, ℕ, zero, suc, ◌<◌, Bool, true, ◌&&◌}
use Rattle.std.proofs.Common.{sym, subst, inl, inr, not-suc-le-zero, le_of_suc-le-suc, eq-or-lt_of_le}
use Rattle.std.proofs.lemmas.Bool.{and_parts}

-- the test passes at each number below n
unfoldable pub every : (ℕ → Bool) → ℕ → Bool
every f zero = true
every f (suc n) = f n && every f n

pub every_at : (f : ℕ → Bool) (n : ℕ) → every f n ≡ true → (a : ℕ) → a < n → f a ≡ true
unfolding every
every_at f zero t a h = absurd (not-suc-le-zero h)
every_at f (suc n) t a h =
    let p = and_parts (f n) (every f n) t in
    elim (eq-or-lt_of_le (le_of_suc-le-suc h)) [
      | inl e ↦ subst (λ (m : ℕ). f m ≡ true) (sym e) p.0
      | inr l ↦ every_at f n p.1 a l
    ]

-- the test passes at each two numbers below n
unfoldable pub every2 : (ℕ → ℕ → Bool) → ℕ → Bool
every2 f n = every (λ a. every (f a) n) n

pub every2_at : (f : ℕ → ℕ → Bool) (n : ℕ) → every2 f n ≡ true → (a b : ℕ) → a < n → b < n → f a b ≡ true
unfolding every2
every2_at f n t a b ha hb = every_at (f a) n (every_at (λ a. every (f a) n) n t a ha) b hb

-- the test passes at each three numbers below n
unfoldable pub every3 : (ℕ → ℕ → ℕ → Bool) → ℕ → Bool
every3 f n = every (λ a. every2 (f a) n) n

pub every3_at : (f : ℕ → ℕ → ℕ → Bool) (n : ℕ) → every3 f n ≡ true → (a b c : ℕ) → a < n → b < n → c < n → f a b c ≡ true
unfolding every3
every3_at f n t a b c ha hb hc = every2_at (f a) n (every_at (λ a. every2 (f a) n) n t a ha) b c hb hc
