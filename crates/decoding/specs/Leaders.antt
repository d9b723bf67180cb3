-- Coset leaders.
use Rattle.std.specs.Prelude.{◌≡◌, ℕ, ◌≤◌, Bool, true, false, ◌⊎◌, List, Some, Result, ◌≢◌}
use Rattle.refusal.specs.declared.Refusal.{Refusal}
use Rattle.refusal.specs.Refusals.{accepted, refused_if}
use Rattle.field.specs.Field.{Ops}
use Rattle.algebra.specs.Words.{word}
use Rattle.generator.specs.declared.Generator.{Generator}
use Rattle.generator.specs.Parts.{size}
use Rattle.cosets.specs.States.{cosets}
use Rattle.cosets.specs.Cosets.{Coset}
use Rattle.cosets.specs.Weights.{weight}
use Rattle.cheapest.specs.Cheapest.{Same, Smaller}
use Rattle.trellis.specs.Rooms.{with_room}

-- The word w is the leader of the coset t, of weight d: no word of the coset weighs less, and of several that weigh d it is the one with the larger number at the first place where they differ.
pub record Leader (f : Ops) (g : Generator) (t : ℕ) (w : ℕ → ℕ) (d : ℕ) : Type 0 where
  pub inside : Coset f g t w
  pub weighs : weight (size g) w ≡ d
  pub least : (v : ℕ → ℕ) → Coset f g t v → d ≤ weight (size g) v
  pub largest : (v : ℕ → ℕ) → Coset f g t v → weight (size g) v ≡ d → Same v w ⊎ Smaller v w

-- whether w is the only word of the coset t that weighs d
abbrev pub SoleLeader : Ops → Generator → ℕ → (ℕ → ℕ) → ℕ → Bool → Type 0
SoleLeader f g t w d true = (v : ℕ → ℕ) → Coset f g t v → weight (size g) v ≡ d → Same v w
SoleLeader f g t w d false = (v : ℕ → ℕ) × Coset f g t v × (weight (size g) v ≡ d) × (Same v w → ⊥)

-- finding the leader of the coset t, with so many words of work memory and a buffer of so many places: its weight is answered, and whether it is sole
abbrev pub LeaderFound : Ops → Generator → ℕ → ℕ → ℕ → List ℕ → Result (ℕ × Bool) Refusal → Type 0
LeaderFound f g t room places out =
    with_room f g room
    (refused_if (places ≢ size g) 10 (Some (size g))
    (refused_if (cosets f g ≤ t) 11 (Some (cosets f g))
    (accepted (λ r. Leader f g t (word out) r.0 × SoleLeader f g t (word out) r.0 r.1))))
