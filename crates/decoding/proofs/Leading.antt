-- Where each symbol costs what it weighs, the cheapest word of a coset is its leader.
use Rattle.std.proofs.Common.{◌≡◌, ℕ, ◌≤◌, Bool, true, false, sym, ◌∙◌, subst, arith}
use Rattle.field.specs.Field.{Ops}
use Rattle.generator.specs.declared.Generator.{Generator}
use Rattle.generator.specs.Parts.{size}
use Rattle.cosets.specs.Weights.{weight}
use Rattle.reception.specs.Costs.{word_cost}
use Rattle.cheapest.specs.Cheapest.{Cheapest, Sole}
use Rattle.cheapest.specs.Lightest.{weights}
use Rattle.cheapest.proofs.Weighing.{weight_cost}
use Rattle.decoding.specs.Leaders.{Leader, SoleLeader}

module _ (f : Ops) (g : Generator) (t : ℕ) (w : ℕ → ℕ) (d : ℕ) where
  cost_weight : (v : ℕ → ℕ) → word_cost (weights g) (size g) v ≡ weight (size g) v
  cost_weight v = weight_cost (size g) (size g) v (omega arith)

  pub cheapest_leader : Cheapest f g (weights g) t w d → Leader f g t w d
  cheapest_leader c = record {
    inside = c.inside;
    weighs = sym (cost_weight w) ∙ c.cost;
    least = λ v i. subst (λ a. d ≤ a) (cost_weight v) (c.least v i);
    largest = λ v i e. c.largest v i (cost_weight v ∙ e);
  }

  pub sole_leader : (b : Bool) → Sole f g (weights g) t w d b → SoleLeader f g t w d b
  sole_leader true s = λ v i e. s v i (cost_weight v ∙ e)
  sole_leader false s = (s.0, s.1, sym (cost_weight s.0) ∙ s.2, s.3)
