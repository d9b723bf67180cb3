-- The steps of an elimination, and how far it has come.
use Rattle.std.specs.Prelude.{◌≡◌, ℕ, ◌+◌, ◌<◌, ◌≤◌, ◌≢◌}
use Rattle.field.specs.Field.{Ops}
use Rattle.algebra.specs.Words.{Symbols, SymbolRows, plus, Span, SameSpan}
use Rattle.algebra.specs.Reduced.{ReducedForm}

-- the rows i and j have changed places
abbrev pub Swapped : (ℕ → ℕ → ℕ) → (ℕ → ℕ → ℕ) → ℕ → ℕ → Type 0
Swapped rs ss i j = ((k : ℕ) → ss i k ≡ rs j k) × ((k : ℕ) → ss j k ≡ rs i k) × ((h k : ℕ) → (h ≢ i) → (h ≢ j) → ss h k ≡ rs h k)

-- the row i has been multiplied by c
abbrev pub Scaled : Ops → (ℕ → ℕ → ℕ) → (ℕ → ℕ → ℕ) → ℕ → ℕ → Type 0
Scaled f rs ss i c = ((k : ℕ) → ss i k ≡ f.product c (rs i k)) × ((h k : ℕ) → (h ≢ i) → ss h k ≡ rs h k)

-- each of the m rows but i has taken the multiple of the row i that its symbol at the place p calls for
abbrev pub Cleared : Ops → ℕ → (ℕ → ℕ → ℕ) → (ℕ → ℕ → ℕ) → ℕ → ℕ → Type 0
Cleared f m rs ss i p =
    ((k : ℕ) → ss i k ≡ rs i k) × ((h k : ℕ) → h < m → (h ≢ i) → ss h k ≡ f.sum (rs h k) (f.product (f.negative (rs h p)) (rs i k)))
    × ((h k : ℕ) → m ≤ h → ss h k ≡ rs h k)

-- The rows rs came from start by steps that keep the span, and the first `rank` are reduced at the places before p;
-- there the other rows have 0.
pub record Progress (f : Ops) (m : ℕ) (start rs : ℕ → ℕ → ℕ) (rank p : ℕ) (at : ℕ → ℕ) : Type 0 where
  pub symbols : SymbolRows f rs
  pub span : SameSpan f m start m rs
  pub ranked : rank ≤ m
  pub counted : rank ≤ p
  pub within : (i : ℕ) → i < rank → at i < p
  pub ascends : (i j : ℕ) → i < j → j < rank → at i < at j
  pub own : (i : ℕ) → i < rank → rs i (at i) ≡ 1
  pub before : (i k : ℕ) → i < rank → k < at i → rs i k ≡ 0
  pub others : (i j : ℕ) → i < m → j < rank → (i ≢ j) → rs i (at j) ≡ 0
  pub rest : (i k : ℕ) → i < m → rank ≤ i → k < p → rs i k ≡ 0

-- one more row is reduced, at the place p, whatever rows it all began with
abbrev pub Pivots : Ops → ℕ → (ℕ → ℕ → ℕ) → (ℕ → ℕ → ℕ) → ℕ → ℕ → Type 0
Pivots f m rs ss rank p =
    (start : ℕ → ℕ → ℕ) (at bt : ℕ → ℕ) → bt rank ≡ p → ((i : ℕ) → i < rank → bt i ≡ at i)
    → Progress f m start rs rank p at → Progress f m start ss (rank + 1) (p + 1) bt

-- The first `rank` of the rows rs are the reduced form of the m rows start, of at most n places; the others are 0.
pub record Reduction (f : Ops) (n m : ℕ) (start rs : ℕ → ℕ → ℕ) (rank : ℕ) (at : ℕ → ℕ) : Type 0 where
  pub ranked : rank ≤ m
  pub symbols : SymbolRows f rs
  pub form : ReducedForm f m start rank rs at
  pub within : (i : ℕ) → i < rank → at i < n
  pub rest : (i k : ℕ) → i < m → rank ≤ i → rs i k ≡ 0

-- v is the word w and a sum of multiples of the first i rows, and is 0 at their pivots
pub record Remainder (f : Ops) (rs : ℕ → ℕ → ℕ) (at w v : ℕ → ℕ) (i : ℕ) : Type 0 where
  pub symbols : Symbols f v
  pub taken : ℕ → ℕ
  pub spanned : Span f i rs taken
  pub is : (k : ℕ) → v k ≡ plus f w taken k
  pub zeros : (j : ℕ) → j < i → v (at j) ≡ 0
