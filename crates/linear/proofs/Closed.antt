-- The negative and the inverse of every number are symbols.
use Rattle.std.proofs.Common.{ℕ, ◌<◌, inl, inr}
use Rattle.std.proofs.lemmas.Bool.{cases_lt}
use Rattle.field.specs.Field.{Ops, Laws}
use Rattle.algebra.proofs.Symbols.{zero_symbol}

module _ (f : Ops) (l : Laws f) where
  pub negative_closed : (x : ℕ) → f.negative x < f.order
  negative_closed x = elim (cases_lt x f.order) [ inl h ↦ l.negative_symbol x h | inr h ↦ rw (l.negative_none x h) (zero_symbol l) ]

  pub inverse_closed : (x : ℕ) → f.inverse x < f.order
  inverse_closed x = elim (cases_lt x f.order) [ inl h ↦ l.inverse_symbol x h | inr h ↦ rw (l.inverse_none x h) (zero_symbol l) ]
