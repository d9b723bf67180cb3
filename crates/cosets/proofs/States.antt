-- States: a symbol moves the number of a syndrome as it moves the syndrome's symbols.
use Rattle.std.proofs.Common.{◌≡◌, ℕ, zero, suc, ◌+◌, ◌*◌, ◌/◌, ◌%◌, ◌^◌, ◌<◌, sym, refl, ap, ◌∙◌, ap₂, inl, inr, add-zero, add_assoc, add-suc, mul_assoc, add-mul, pow-suc, mul-one, arith}
use native.Mathlib.Nat.{pow-zero, pow-succ', zero-div, zero-mod, mul-add-div_right, mul-add-mod_self_right}
use Rattle.std.proofs.lemmas.Nat.{mul-add-lt, div-mul-add, mod-mul-add, div_below, mod_below}
use Rattle.std.proofs.lemmas.Bool.{cases_lt}
use Rattle.field.specs.Field.{Ops, Laws}
use Rattle.algebra.specs.Words.{Symbols}
use Rattle.algebra.specs.Checks.{index}
use Rattle.algebra.proofs.Symbols.{zero_symbol}
use Rattle.algebra.proofs.Totals.{zero_product}
use Rattle.algebra.proofs.Cells.{product_closed}
use Rattle.cosets.specs.States.{moved}

module _ (f : Ops) (l : Laws f) where
  -- of c symbols there are q ^ c states, and no symbol leads out of them
  pub moved_below : (column : ℕ → ℕ) (c s x : ℕ) → moved f column c s x < f.order ^ c
  moved_below column zero s x = omega (arith, pow-zero f.order)
  moved_below column (suc c) s x =
      let q = f.order in
      rw (pow-succ' q c) (mul-add-lt _ q _ (q ^ c) (moved_below column c (s / q) x) (l.sum_symbol _ _ (mod_below s q (zero_symbol l)) (product_closed f l x (column c))))

  -- the state of the symbols σ moves to the state of these symbols, each with what is added to it
  pub moved_index : (column σ : ℕ → ℕ) → Symbols f σ → (c x : ℕ) → moved f column c (index f.order σ c) x ≡ index f.order (λ i. f.sum (σ i) (f.product x (column i))) c
  moved_index column σ s zero x = refl
  moved_index column σ s (suc c) x =
      let q = f.order in
      ap₂ (λ a b. moved f column c a x * q + f.sum b (f.product x (column c))) (div-mul-add (index q σ c) q (σ c) (s c)) (mod-mul-add (index q σ c) q (σ c) (s c))
      ∙ ap (λ a. a * q + f.sum (σ c) (f.product x (column c))) (moved_index column σ s c x)

  zero_times : (y : ℕ) → f.product 0 y ≡ 0
  zero_times y = elim (cases_lt y f.order) [ inl h ↦ zero_product f l y h | inr h ↦ l.product_right_none 0 y h ]

  -- the symbol 0 leaves the state 0 as it is
  pub moved_zero : (column : ℕ → ℕ) (c : ℕ) → moved f column c 0 0 ≡ 0
  moved_zero column zero = refl
  moved_zero column (suc c) =
      let q = f.order in
      ap₂ (λ a b. moved f column c a 0 * q + f.sum b (f.product 0 (column c))) (zero-div q) (zero-mod q)
      ∙ ap₂ (λ a b. a * q + b) (moved_zero column c) (ap (f.sum 0) (zero_times (column c)) ∙ l.sum_zero 0 (zero_symbol l)) ∙ omega arith

  -- a state of a + b symbols moves as that of its first a symbols and that of the other b
  pub moved_split : (column : ℕ → ℕ) (a b u v x : ℕ) → v < f.order ^ b
      → moved f column (a + b) (u * f.order ^ b + v) x ≡ moved f column a u x * f.order ^ b + moved f (λ i. column (a + i)) b v x
  moved_split column a zero u v x h =
      let one = pow-zero f.order in
      let none : v ≡ 0 = omega arith in
      simp (none, one, mul-one, add-zero)
  moved_split column a (suc b) u v x h =
      let q = f.order in
      let more = pow-suc q b in
      let state : u * q ^ suc b + v ≡ u * q ^ b * q + v = ap (λ y. u * y + v) more ∙ ap (λ y. y + v) (sym (mul_assoc u (q ^ b) q)) in
      let high : (u * q ^ suc b + v) / q ≡ u * q ^ b + v / q = ap (λ y. y / q) state ∙ mul-add-div_right (zero_symbol l) (u * q ^ b) v in
      let low : (u * q ^ suc b + v) % q ≡ v % q = ap (λ y. y % q) state ∙ mul-add-mod_self_right (u * q ^ b) q v in
      let first : ℕ = moved f column a u x in
      let rest : ℕ = moved f (λ i. column (a + i)) b (v / q) x in
      let last : ℕ = f.sum (v % q) (f.product x (column (a + b))) in
      ap (λ c. moved f column c (u * q ^ suc b + v) x) (add-suc a b)
      ∙ ap₂ (λ y z. moved f column (a + b) y x * q + f.sum z (f.product x (column (a + b)))) high low
      ∙ ap (λ y. y * q + last) (moved_split column a b u (v / q) x (div_below v q (q ^ b) (zero_symbol l) (rw more at h)))
      ∙ ap (λ y. y + last) (add-mul (first * q ^ b) rest q ∙ ap (λ y. y + rest * q) (mul_assoc first (q ^ b) q ∙ ap (λ y. first * y) (sym more)))
      ∙ add_assoc (first * q ^ suc b) (rest * q) last
