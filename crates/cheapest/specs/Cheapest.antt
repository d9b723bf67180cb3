-- The cheapest word of a coset, and whether another costs the same.
use Rattle.std.specs.Prelude.{◌≡◌, ℕ, ◌<◌, ◌≤◌, Bool, true, false, ◌⊎◌}
use Rattle.field.specs.Field.{Ops}
use Rattle.generator.specs.declared.Generator.{Generator}
use Rattle.generator.specs.Parts.{size}
use Rattle.cosets.specs.Cosets.{Coset}
use Rattle.reception.specs.Costs.{Costs, word_cost}

-- the same symbol at each place
abbrev pub Same : (ℕ → ℕ) → (ℕ → ℕ) → Type 0
Same v w = (p : ℕ) → v p ≡ w p

-- at the first place where they differ, v has the smaller number
abbrev pub Smaller : (ℕ → ℕ) → (ℕ → ℕ) → Type 0
Smaller v w = (p : ℕ) × ((j : ℕ) → j < p → v j ≡ w j) × (v p < w p)

-- The word w is of the coset t and costs c, and no word of the coset costs less. Of several that cost c it is the one with the larger number at the first place where they differ.
pub record Cheapest (f : Ops) (g : Generator) (costs : Costs) (t : ℕ) (w : ℕ → ℕ) (c : ℕ) : Type 0 where
  pub inside : Coset f g t w
  pub cost : word_cost costs (size g) w ≡ c
  pub least : (v : ℕ → ℕ) → Coset f g t v → c ≤ word_cost costs (size g) v
  pub largest : (v : ℕ → ℕ) → Coset f g t v → word_cost costs (size g) v ≡ c → Same v w ⊎ Smaller v w

-- whether w is the only word of the coset t that costs c
abbrev pub Sole : Ops → Generator → Costs → ℕ → (ℕ → ℕ) → ℕ → Bool → Type 0
Sole f g costs t w c true = (v : ℕ → ℕ) → Coset f g t v → word_cost costs (size g) v ≡ c → Same v w
Sole f g costs t w c false = (v : ℕ → ℕ) × Coset f g t v × (word_cost costs (size g) v ≡ c) × (Same v w → ⊥)
