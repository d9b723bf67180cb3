-- The trellis of a generator.
use Rattle.std.specs.Prelude.{ℕ}
use Rattle.field.specs.Field.{Ops}
use Rattle.generator.specs.declared.Generator.{Generator}
use Rattle.cosets.specs.States.{next}
use Rattle.reception.specs.Costs.{Costs}
use Rattle.least.specs.Paths.{Trellis}

-- Its states are partial syndromes, and a symbol costs what it costs in a reception. The words that count are those of the coset `target`.
abbrev pub trellis_of : Ops → Generator → Costs → ℕ → Trellis
trellis_of f g costs target = record { next = next f g; cost = costs.cost; symbols = f.order; target = target }
