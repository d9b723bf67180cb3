-- The states of a shape.
use Rattle.std.proofs.Common.{◌≡◌, ℕ, ◌*◌, ◌^◌, ◌<◌, ◌≤◌, sym, ap, ◌∙◌, ap₂, arith}
use Rattle.std.proofs.lemmas.Nat.{pow-add}
use Rattle.field.specs.Field.{Ops, Laws}
use Rattle.generator.specs.declared.Generator.{Generator}
use Rattle.cosets.specs.States.{cosets, next}
use Rattle.cosets.proofs.Partial.{next_below}
use Rattle.trellis.specs.declared.shape.Shape.{Shape}
use Rattle.trellis.specs.Shapes.{Shaped}

module _ (f : Ops) (g : Generator) (h : Shape) (shaped : Shaped f g h) where
  pub upper_states : h.highs ≡ f.order ^ h.high_digits
  upper_states = h.upper ∙ ap (λ q. q ^ h.high_digits) shaped.symbols

  pub lower_states : h.lows ≡ f.order ^ h.low_digits
  lower_states = h.lower ∙ ap (λ q. q ^ h.low_digits) shaped.symbols

  -- there are as many as cosets
  pub states_are : h.highs * h.lows ≡ cosets f g
  states_are = ap₂ (λ a b. a * b) upper_states lower_states ∙ sym (pow-add f.order h.high_digits h.low_digits) ∙ ap (λ d. f.order ^ d) shaped.digits

  pub few_cosets : cosets f g ≤ 4096
  few_cosets = omega (arith, states_are, h.few)

  -- each symbol leads to one of them
  pub next_state : Laws f → (p s x : ℕ) → next f g p s x < h.highs * h.lows
  next_state l p s x = omega (arith, next_below f l g p s x, states_are)
