-- Steps of states: sums are symbols, and tables grow by one digit.
use Rattle.std.proofs.Common.{◌≡◌, ℕ, zero, suc, ◌+◌, ◌*◌, ◌/◌, ◌%◌, ◌^◌, ◌<◌, ◌≤◌, List, get_or, sym, refl, ap, ◌∙◌, ap₂, inl, inr, le_trans, mul-le-mul_right, mul_assoc, add-mul, mul-le-mul_left, pow-suc, mul-one, mul_right_comm, arith}
use Rattle.std.proofs.lemmas.Nat.{div-add-mod', div_below, mod_below}
use Rattle.std.proofs.lemmas.Bool.{cases_lt}
use Rattle.field.specs.Field.{Ops, Laws}
use Rattle.algebra.proofs.Symbols.{zero_symbol}
use Rattle.generator.specs.declared.Generator.{Generator}
use Rattle.cosets.specs.States.{moved, checks, column_at, next}
use Rattle.cosets.proofs.States.{moved_below}
use Rattle.trellis.specs.Steps.{Widened}
use Rattle.trellis.proofs.Powers.{power_more}

-- a state moves by the columns' symbols at its own digits
pub moved_same : (f : Ops) (column other : ℕ → ℕ) (c s x : ℕ) → ((i : ℕ) → i < c → column i ≡ other i) → moved f column c s x ≡ moved f other c s x
moved_same f column other zero s x e = refl
moved_same f column other (suc c) s x e =
    let q = f.order in
    ap₂ (λ a b. a * q + f.sum (s % q) (f.product x b)) (moved_same f column other c (s / q) x (λ i h. e i (omega arith))) (e c (omega arith))

-- a column that has a generator's check symbols at a place moves a state as the generator does
pub moved_next : (f : Ops) (g : Generator) (column : ℕ → ℕ) (p s x : ℕ) → ((i : ℕ) → i < checks g → column i ≡ column_at f g p i) → moved f column (checks g) s x ≡ next f g p s x
unfolding next
moved_next f g column p s x e = moved_same f column (column_at f g p) (checks g) s x e

-- every sum is a symbol
pub sum_closed : (f : Ops) → Laws f → (a b : ℕ) → f.sum a b < f.order
sum_closed f l a b = elim (cases_lt a f.order) [
  | inl h ↦ elim (cases_lt b f.order) [ inl k ↦ l.sum_symbol a b h k | inr k ↦ rw (l.sum_right_none a b k) (zero_symbol l) ]
  | inr h ↦ rw (l.sum_left_none a b h) (zero_symbol l)
]

-- the states with one digit more than u come after u, and before those of a later state
pub at_least : (q u : ℕ) → 0 < q → u ≤ u * q
at_least q u h = omega (arith, mul-le-mul_left {m = 1} u h, mul-one u)

pub later : (q u v : ℕ) → u < v → u * q + q ≤ v * q
later q u v h = let e : (u + 1) * q ≤ v * q = mul-le-mul_right q (omega arith) in omega (arith, add-mul u 1 q)

module _ (f : Ops) (l : Laws f) where
  -- a table's entries stay small while a digit is added
  pub step_small : (column : ℕ → ℕ) (d digits u x unit : ℕ) → d < digits → f.order ^ digits * unit ≤ 4096 → moved f column d u x * unit * f.order + f.order * unit ≤ 4096
  step_small column d digits u x unit h small =
      let q = f.order in
      let m : ℕ = moved f column d u x in
      let whole : (m * q + q) * unit ≤ q ^ digits * unit = mul-le-mul_right unit (le_trans (later q m (q ^ d) (moved_below f l column d u x)) (power_more q d digits (zero_symbol l) h)) in
      omega (arith, add-mul (m * q) q unit, mul_right_comm m unit q)

  -- a table of the states of d digits, widened, is that of the states of one digit more
  pub tabulated_more : (column : ℕ → ℕ) (d x unit : ℕ) (was is : List ℕ) → ((s : ℕ) → s < f.order ^ d → get_or was s 0 ≡ moved f column d s x * unit)
      → Widened f (f.order ^ d) (f.product x (column d)) unit was is → (s : ℕ) → s < f.order ^ suc d → get_or is s 0 ≡ moved f column (suc d) s x * unit
  tabulated_more column d x unit was is old wide s h =
      let q = f.order in
      let u : ℕ = s / q in
      let y : ℕ = s % q in
      let m : ℕ = moved f column d u x in
      let a : ℕ = f.sum y (f.product x (column d)) in
      let below : u < q ^ d = div_below s q (q ^ d) (zero_symbol l) (rw (pow-suc q d) at h) in
      ap (λ t. get_or is t 0) (sym (div-add-mod' s q))
      ∙ wide u y below (mod_below s q (zero_symbol l))
      ∙ ap (λ b. b * q + a * unit) (old u below)
      ∙ ap (λ b. b + a * unit) (mul_right_comm m unit q)
      ∙ sym (add-mul (m * q) a unit)

-- what the last digit of a state moves to is the sum of its own symbols, and the rest goes on
pub moved_last : (f : Ops) (column : ℕ → ℕ) (j rest x to unit all : ℕ) → to + moved f column (suc j) rest x * unit ≡ all
    → to + f.sum (rest % f.order) (f.product x (column j)) * unit + moved f column j (rest / f.order) x * (unit * f.order) ≡ all
moved_last f column j rest x to unit all e =
    let q = f.order in
    let m : ℕ = moved f column j (rest / q) x in
    let a : ℕ = f.sum (rest % q) (f.product x (column j)) in
    let whole : (m * q + a) * unit ≡ m * (unit * q) + a * unit = add-mul (m * q) a unit ∙ ap (λ b. b + a * unit) (mul_right_comm m q unit ∙ mul_assoc m unit q) in
    omega arith
