-- Work memory that is enough, and what is said of a trellis as of what it was made of.
use Rattle.std.proofs.Common.{◌≡◌, ℕ, ◌+◌, ◌*◌, ◌<◌, ◌≤◌, subst, ap, arith}
use Rattle.field.specs.Field.{Ops}
use Rattle.generator.specs.declared.Generator.{Generator}
use Rattle.generator.specs.Parts.{size}
use Rattle.reception.specs.Costs.{Costs}
use Rattle.trellis.specs.declared.shape.Shape.{Shape}
use Rattle.trellis.specs.Rooms.{needed}
use Rattle.trellis.specs.Shapes.{Shaped}
use Rattle.trellis.proofs.Shaping.{states_are}

doubled : (n m : ℕ) → (n + 1) * (m + m) ≡ (2 * n + 2) * m
doubled n m = grind arith

-- the rows of all places, and one more, are within work memory that is not too little
pub enough : (f : Ops) (g : Generator) (h : Shape) → Shaped f g h → (words : ℕ) → (words < needed f g → ⊥) → (size g + 1) * (h.highs * h.lows + h.highs * h.lows) ≤ words
enough f g h shaped words fits = omega (arith, doubled (size g) (h.highs * h.lows), ap (λ m. (2 * size g + 2) * m) (states_are f g h shaped), fits)

pub said : (P : Generator → Costs → ℕ → Type 0) {g h : Generator} {c d : Costs} {s t : ℕ} → g ≡ h → c ≡ d → s ≡ t → P g c s → P h d t
said P {g} {h} {c} {d} {s} {t} eg ec es p = subst (λ x. P x d t) eg (subst (λ y. P g y t) ec (subst (P g c) es p))
