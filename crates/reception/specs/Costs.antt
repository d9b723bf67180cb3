-- What was received, as costs, and what a word costs.
use Rattle.std.specs.Prelude.{◌≡◌, ℕ, zero, suc, ◌+◌, ◌≤◌, List, slice_index}

-- A reception: a length, and a cost for each place and symbol number.
pub record Costs : Type 0 where
  pub size : ℕ
  pub cost : ℕ → ℕ → ℕ

-- What every reception keeps: a place at or past its length costs nothing, and no cost is above 65,535.
pub record Lawful (t : Costs) : Type 0 where
  pub past : (i x : ℕ) → t.size ≤ i → t.cost i x ≡ 0
  pub most : (i x : ℕ) → t.cost i x ≤ 65535

-- what the first n symbols of the word w cost in all: the sum over their places
abbrev pub word_cost : Costs → ℕ → (ℕ → ℕ) → ℕ
word_cost t zero w = 0
word_cost t (suc n) w = word_cost t n w + t.cost n (w n)

-- what stands at the place i of a list
abbrev pub symbol_at : List ℕ → ℕ → ℕ
symbol_at w i = slice_index w i
