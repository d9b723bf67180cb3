-- The least weight of a codeword that is not all 0.
use Rattle.std.specs.Prelude.{◌≡◌, ℕ, ◌≤◌, replicate, Some, None, Option}
use Rattle.field.specs.Field.{Ops}
use Rattle.generator.specs.declared.Generator.{Generator}
use Rattle.generator.specs.Parts.{size}
use Rattle.cosets.specs.Cosets.{Codeword}
use Rattle.cosets.specs.Weights.{weight}
use Rattle.reception.specs.Costs.{Costs}
use Rattle.reception.specs.Layers.{hard_word}

-- What symbols weigh: a hard word of 0s costs 1 for each symbol that is not 0.
abbrev pub weights : Generator → Costs
weights g = hard_word (replicate (size g) 0)

-- 0 at each place
abbrev pub Zeros : (ℕ → ℕ) → Type 0
Zeros w = (p : ℕ) → w p ≡ 0

-- there is none; or one weighs d, and none weighs less
abbrev pub Lightest : Ops → Generator → Option ℕ → Type 0
Lightest f g None = (w : ℕ → ℕ) → Codeword f g w → Zeros w
Lightest f g (Some d) =
    ((w : ℕ → ℕ) × Codeword f g w × (Zeros w → ⊥) × (weight (size g) w ≡ d))
    × ((w : ℕ → ℕ) → Codeword f g w → (Zeros w → ⊥) → d ≤ weight (size g) w)
