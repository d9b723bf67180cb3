-- The syndrome of a word's first p places, as a state: each place moves it by its symbol.
use Rattle.std.proofs.Common.{◌≡◌, ℕ, ◌+◌, ◌<◌, refl, ◌∙◌, add-one}
use Rattle.field.specs.Field.{Ops, Laws}
use Rattle.algebra.specs.Words.{Symbols, total}
use Rattle.algebra.specs.Checks.{index}
use Rattle.algebra.proofs.Totals.{total_symbol}
use Rattle.algebra.proofs.Cells.{product_closed}
use Rattle.algebra.proofs.Syndromes.{zero_index}
use Rattle.generator.specs.declared.Generator.{Generator}
use Rattle.cosets.specs.States.{checks, cosets, column_at, next}
use Rattle.cosets.proofs.States.{moved_below, moved_index, moved_zero}

-- symbol i of the syndrome, as far as the first p places of w make it
abbrev pub part : Ops → Generator → (ℕ → ℕ) → ℕ → ℕ → ℕ
part f g w p i = total f (λ k. f.product (w k) (column_at f g k i)) p

module _ (f : Ops) (l : Laws f) where
  part_symbols : (g : Generator) (w : ℕ → ℕ) (p : ℕ) → Symbols f (part f g w p)
  part_symbols g w p i = total_symbol f l _ p (λ k. product_closed f l (w k) (column_at f g k i))

  -- before the first place the state is 0
  pub part_none : (g : Generator) (w : ℕ → ℕ) → index f.order (part f g w 0) (checks g) ≡ 0
  part_none g w = zero_index f.order (part f g w 0) (checks g) (λ _ _. refl)

  -- the symbol at the place p moves the state of the places before it on
  pub part_more : (g : Generator) (w : ℕ → ℕ) (p : ℕ) → next f g p (index f.order (part f g w p) (checks g)) (w p) ≡ index f.order (part f g w (p + 1)) (checks g)
  unfolding next
  part_more g w p = moved_index f l (column_at f g p) (part f g w p) (part_symbols g w p) (checks g) (w p) ∙ rw add-one

  -- no symbol leads out of the states of a syndrome
  pub next_below : (g : Generator) (p s x : ℕ) → next f g p s x < cosets f g
  unfolding next
  next_below g p s x = moved_below f l (column_at f g p) (checks g) s x

  -- the symbol 0 leaves the state 0 as it is
  pub next_zero : (g : Generator) (p : ℕ) → next f g p 0 0 ≡ 0
  unfolding next
  next_zero g p = moved_zero f l (column_at f g p) (checks g)
