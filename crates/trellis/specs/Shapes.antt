-- The shape of a trellis.
use Rattle.std.specs.Prelude.{◌≡◌, ℕ, ◌+◌, ◌*◌}
use Rattle.field.specs.Field.{Ops}
use Rattle.generator.specs.declared.Generator.{Generator}
use Rattle.cosets.specs.States.{checks}
use Rattle.trellis.specs.declared.shape.Shape.{Shape}

-- the shape of a generator's trellis: its symbols, and a digit for each check row
pub record Shaped (f : Ops) (g : Generator) (h : Shape) : Type 0 where
  pub symbols : h.order ≡ f.order
  pub digits : h.high_digits + h.low_digits ≡ checks g

-- how many states it has
abbrev pub states : Shape → ℕ
states h = h.highs * h.lows
