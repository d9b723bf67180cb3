-- The kinds of receptions, each by its length and costs.
use Rattle.std.specs.Prelude.{ℕ, zero, suc, ◌+◌, ◌-◌, min, cond, List, length, ◌==◌, nat_lt, slice_index}
use Rattle.reception.specs.Costs.{Costs}
use Rattle.reception.specs.Spans.{covered}
use Rattle.reception.specs.declared.erased.Span.{Span}
use Rattle.reception.specs.declared.either.Either.{Either}
use Rattle.reception.specs.declared.either.Either.TheVariants.{First, Second}

-- costs below the place n, and nothing from there on
abbrev pub below : ℕ → (ℕ → ℕ → ℕ) → ℕ → ℕ → ℕ
below n each i x = cond (nat_lt i n) (each i x) 0

-- what a byte of a hard word costs a symbol
abbrev pub hard_cost : ℕ → ℕ → ℕ
hard_cost byte x = cond (byte == x) 0 1

-- hard decisions: the bytes of a word
abbrev pub hard_costs : List ℕ → ℕ → ℕ → ℕ
hard_costs w i = hard_cost (slice_index w i)

abbrev pub hard_word : List ℕ → Costs
hard_word w = record { size = length w; cost = below (length w) (hard_costs w) }

-- how far a level is from a symbol: 0 stands at level 0 and 1 at level 7
abbrev pub level_distance : ℕ → ℕ → ℕ
level_distance v zero = v
level_distance v (suc zero) = 7 - v
level_distance v (suc (suc x)) = 7

-- what a byte of a level word costs a symbol; one above 7 is no level, and costs nothing
abbrev pub level_cost : ℕ → ℕ → ℕ
level_cost v x = cond (nat_lt 7 v) 0 (level_distance v x)

-- soft decisions: a level for each place
abbrev pub level_costs : List ℕ → ℕ → ℕ → ℕ
level_costs w i = level_cost (slice_index w i)

abbrev pub level_word : List ℕ → Costs
level_word w = record { size = length w; cost = below (length w) (level_costs w) }

-- erasures: the places in the spans cost nothing, and the others what they cost below
abbrev pub erased_costs : List Span → Costs → ℕ → ℕ → ℕ
erased_costs spans t i x = cond (covered spans i) 0 (t.cost i x)

abbrev pub erased : List Span → Costs → Costs
erased spans t = record { size = t.size; cost = erased_costs spans t }

-- two receptions of one word: the costs added, held at 65,535
abbrev pub added_costs : Costs → Costs → ℕ → ℕ → ℕ
added_costs s t i x = min (s.cost i x + t.cost i x) 65535

abbrev pub combined : Costs → Costs → Costs
combined s t = record { size = min s.size t.size; cost = below (min s.size t.size) (added_costs s t) }

-- the places from a on
abbrev pub shifted_costs : ℕ → Costs → ℕ → ℕ → ℕ
shifted_costs a t i = t.cost (a + i)

-- at most m places, from a on
abbrev pub window : ℕ → ℕ → Costs → Costs
window a m t = record { size = min m (t.size - a); cost = below (min m (t.size - a)) (shifted_costs a t) }

-- one of two receptions
abbrev pub either : {P Q : Type 0} → (P → Costs) → (Q → Costs) → Either P Q → Costs
either p q (First r) = p r
either p q (Second r) = q r
