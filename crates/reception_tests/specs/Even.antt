-- Places that all cost the same.
use Rattle.std.specs.Prelude.{ℕ, ◌≤◌}
use Rattle.reception.specs.Costs.{Costs, Lawful}
use Rattle.reception.specs.Layers.{below}
use Rattle.reception.specs.LayerLaws.{below_lawful}

abbrev pub same : ℕ → ℕ → ℕ → ℕ
same each i x = each

abbrev pub even : ℕ → ℕ → Costs
even places each = record { size = places; cost = below places (same each) }

pub even_lawful : (places each : ℕ) → each ≤ 65535 → Lawful (even places each)
even_lawful places each most = below_lawful places (same each) (λ i x. most)
