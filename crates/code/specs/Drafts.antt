-- Drafts: their length and rows, and what each call on them answers and leaves.
use Rattle.std.specs.Prelude.{◌≡◌, ℕ, ◌+◌, ◌-◌, ◌<◌, ◌≤◌, ◌⊎◌, List, [], ◌∷◌, ◌++◌, length, take, Some, None, Ok, Err, Result, ◌≢◌, slice_index_or}
use Rattle.field.specs.Field.{Ops}
use Rattle.algebra.specs.Words.{word, cells, SymbolRows, SameSpan, Dependent}
use Rattle.basis.specs.declared.Basis.{Basis}
use Rattle.basis.specs.Parts as Bases
use Rattle.refusal.specs.declared.Refusal.{Refusal}
use Rattle.refusal.specs.Refusals.{accepted, refused_if, refused_at}

-- a length, and the rows held, in the order in which they were loaded
pub record State : Type 0 where
  pub size : ℕ
  pub rows : List (List ℕ)

-- a fresh draft has length 1 and no rows
abbrev pub fresh : State
fresh = record { size = 1; rows = [] }

-- p is the first place at which the word w has a number that is no symbol
abbrev pub FirstNone : Ops → List ℕ → ℕ → Type 0
FirstNone f w p = (p < length w) × (f.order ≤ word w p) × ((k : ℕ) → k < p → word w k < f.order)

-- w is a word of n symbols: it is turned away for its length, or else for the first number that is no symbol
abbrev pub WordChecked : Ops → ℕ → List ℕ → Result Unit Refusal → Type 0
WordChecked f n w =
    refused_if (length w ≢ n) 4 (Some n)
    (refused_at (FirstNone f w) 5
    (accepted (λ _. (length w ≡ n) × ((k : ℕ) → k < length w → word w k < f.order))))

-- A basis stands for a draft of some length and rows: these have that length and only symbols, and
-- the first i of them span what the first i rows of the basis do, for every i.
pub record Holds (f : Ops) (b : Basis) (s : State) : Type 0 where
  pub long : Bases.size b ≡ s.size
  pub all : Bases.count b ≡ length s.rows
  pub lengths : (i : ℕ) → i < length s.rows → length (slice_index_or s.rows i []) ≡ s.size
  pub symbols : SymbolRows f (cells s.rows)
  pub spans : (i : ℕ) → i ≤ length s.rows → SameSpan f i (cells s.rows) i (Bases.rows_of f b)

-- setting the length to n
abbrev pub LengthSet : State → ℕ → Result Unit Refusal → Type 0
LengthSet s n =
    refused_if ((n ≡ 0) ⊎ (24 < n)) 1 (Some n)
    (refused_if (0 < length s.rows) 2 (Some (length s.rows))
    (accepted (λ _. Unit {0})))

-- the length and the rows then
abbrev pub after_length : State → ℕ → Result Unit Refusal → State
after_length s n (Ok _) = record { size = n; rows = s.rows }
after_length s n (Err _) = s

-- loading the row w: how many rows are held then is answered
abbrev pub RowPushed : Ops → State → List ℕ → Result ℕ Refusal → Type 0
RowPushed f s w =
    refused_if (length w ≢ s.size) 4 (Some s.size)
    (refused_at (FirstNone f w) 5
    (refused_if (Dependent f s.rows w) 6 (Some (length s.rows))
    (accepted (λ k. k ≡ length s.rows + 1))))

-- the length and the rows then
abbrev pub after_push : State → List ℕ → Result ℕ Refusal → State
after_push s w (Ok _) = record { size = s.size; rows = s.rows ++ w ∷ [] }
after_push s w (Err _) = s

-- withdrawing the row loaded last: how many rows are held then is answered
abbrev pub RowPopped : State → Result ℕ Refusal → Type 0
RowPopped s =
    refused_if (s.rows ≡ []) 7 None
    (accepted (λ k. k + 1 ≡ length s.rows))

-- the length and the rows then
abbrev pub after_pop : State → Result ℕ Refusal → State
after_pop s (Ok _) = record { size = s.size; rows = take (length s.rows - 1) s.rows }
after_pop s (Err _) = s

-- Whatever length and rows the basis b stands for, the answer is right for them, and c stands for those that are then held.
abbrev pub Turns : {A : Type 0} → Ops → Basis → (State → Result A Refusal → Type 0) → (State → Result A Refusal → State) → Result A Refusal → Basis → Type 0
Turns f b told after r c = (s : State) → Holds f b s → told s r × Holds f c (after s r)
