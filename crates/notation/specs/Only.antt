-- An answer that is the only one.
use Rattle.std.specs.Prelude.{◌≡◌, Some, None, Option}

-- the answer is the one thing of which P holds, or that P holds of none
abbrev pub Only : {X : Type 0} → (X → Type 0) → Option X → Type 0
Only {X} P (Some x) = P x × ((y : X) → P y → y ≡ x)
Only {X} P None = (y : X) → P y → ⊥
