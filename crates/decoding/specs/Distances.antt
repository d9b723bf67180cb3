-- The minimum distance of a code.
use Rattle.std.specs.Prelude.{◌≡◌, ℕ, ◌≤◌, Some, None, Option, Result, ◌≢◌}
use Rattle.refusal.specs.declared.Refusal.{Refusal}
use Rattle.refusal.specs.Refusals.{accepted}
use Rattle.field.specs.Field.{Ops}
use Rattle.generator.specs.declared.Generator.{Generator}
use Rattle.generator.specs.Parts.{size, dimension}
use Rattle.cosets.specs.Cosets.{Codeword}
use Rattle.cosets.specs.Weights.{differences}
use Rattle.cheapest.specs.Cheapest.{Same}
use Rattle.trellis.specs.Rooms.{with_room}

-- some two different codewords differ in d places, and every two different codewords in at least as many
pub record Distant (f : Ops) (g : Generator) (d : ℕ) : Type 0 where
  pub first : ℕ → ℕ
  pub second : ℕ → ℕ
  pub first_in : Codeword f g first
  pub second_in : Codeword f g second
  pub differ : Same first second → ⊥
  pub places : differences (size g) first second ≡ d
  pub least : (v w : ℕ → ℕ) → Codeword f g v → Codeword f g w → (Same v w → ⊥) → d ≤ differences (size g) v w

-- a code with no message symbols has no distance, and every other has one
abbrev pub Distance : Ops → Generator → Option ℕ → Type 0
Distance f g None = dimension g ≡ 0
Distance f g (Some d) = (dimension g ≢ 0) × Distant f g d

-- finding the distance, with so many words of work memory
abbrev pub DistanceFound : Ops → Generator → ℕ → Result (Option ℕ) Refusal → Type 0
DistanceFound f g room = with_room f g room (accepted (Distance f g))
