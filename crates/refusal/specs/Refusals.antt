-- Refusals by number and value, and calls by the causes for which they are refused.
use Rattle.std.specs.Prelude.{◌≡◌, ℕ, ◌⊎◌, Some, None, Ok, Err, Option, Result}
use Rattle.refusal.specs.declared.Refusal.{Refusal}
use Rattle.refusal.specs.declared.Refusal.TheVariants.{Length, RowsHeld, WrongLength, NoSymbol, Dependent, NoRow, Cosets, WorkMemory, BufferLength, Index, TallyFull, Tied, SpanBytes, SpanPair, NoneAnswered}

-- the number by which a refusal is told
abbrev pub number : Refusal → ℕ
number (Length n) = 1
number (RowsHeld k) = 2
number (WrongLength n) = 4
number (NoSymbol p) = 5
number (Dependent k) = 6
number NoRow = 7
number (Cosets n) = 8
number (WorkMemory w) = 9
number (BufferLength n) = 10
number (Index k) = 11
number TallyFull = 12
number (Tied c) = 13
number (SpanBytes c) = 16
number (SpanPair k) = 17
number NoneAnswered = 18

-- the value that is returned with it, or nothing
abbrev pub value : Refusal → Option ℕ
value (Length n) = Some n
value (RowsHeld k) = Some k
value (WrongLength n) = Some n
value (NoSymbol p) = Some p
value (Dependent k) = Some k
value NoRow = None
value (Cosets n) = Some n
value (WorkMemory w) = Some w
value (BufferLength n) = Some n
value (Index k) = Some k
value TallyFull = None
value (Tied c) = Some c
value (SpanBytes c) = Some c
value (SpanPair k) = Some k
value NoneAnswered = None

-- A call's causes of refusal stand one after the other. The first that holds is told, by its number
-- and value; where none holds, the call is accepted, with an answer that keeps P.
abbrev pub accepted : {A : Type 0} → (A → Type 0) → Result A Refusal → Type 0
accepted P (Ok a) = P a
accepted P (Err e) = ⊥

-- a cause, with its number and value, and the causes after it
abbrev pub refused_if : {A : Type 0} → Type 0 → ℕ → Option ℕ → (Result A Refusal → Type 0) → Result A Refusal → Type 0
refused_if C n v next (Ok a) = (C → ⊥) × next (Ok a)
refused_if C n v next (Err e) = (C × (number e ≡ n) × (value e ≡ v)) ⊎ ((C → ⊥) × next (Err e))

-- a cause that holds of some value, as a place or a cost, told with its number and that value, and the causes after it
abbrev pub refused_at : {A : Type 0} → (ℕ → Type 0) → ℕ → (Result A Refusal → Type 0) → Result A Refusal → Type 0
refused_at C n next (Ok a) = ((p : ℕ) → C p → ⊥) × next (Ok a)
refused_at C n next (Err e) = ((p : ℕ) × C p × (number e ≡ n) × (value e ≡ Some p)) ⊎ (((p : ℕ) → C p → ⊥) × next (Err e))
