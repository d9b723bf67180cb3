-- The length and the rows that follow from a list of calls on a fresh draft.
use Rattle.std.specs.Prelude.{◌≡◌, ℕ, ◌-◌, ◌<◌, ◌≤◌, ◌⊎◌, List, [], ◌∷◌, ◌++◌, length, take, Ok, Err, Result}
use Rattle.field.specs.Field.{Ops}
use Rattle.algebra.specs.Words.{word, Dependent}
use Rattle.basis.specs.declared.Basis.{Basis}
use Rattle.refusal.specs.declared.Refusal.{Refusal}
use Rattle.refusal.specs.Refusals.{number}
use Rattle.code.specs.Drafts.{State, fresh, Holds}

-- a call on a draft
pub data Call : Type 0 where
  set_length : ℕ → Call
  push_row : List ℕ → Call
  pop_row : Call

-- a row of the draft's length that has only symbols
abbrev pub Fits : Ops → State → List ℕ → Type 0
Fits f s w = (length w ≡ s.size) × ((k : ℕ) → k < length w → word w k < f.order)

-- whether a call is accepted
abbrev pub Takes : Ops → State → Call → Type 0
Takes f s (set_length n) = (1 ≤ n) × (n ≤ 24) × (s.rows ≡ [])
Takes f s (push_row w) = Fits f s w × (Dependent f s.rows w → ⊥)
Takes f s pop_row = 0 < length s.rows

-- the length and the rows after a call that is accepted
abbrev pub after : State → Call → State
after s (set_length n) = record { size = n; rows = s.rows }
after s (push_row w) = record { size = s.size; rows = s.rows ++ w ∷ [] }
after s pop_row = record { size = s.size; rows = take (length s.rows - 1) s.rows }

-- A call takes s to t. One that is turned away leaves length and rows as they are.
abbrev pub Moves : Ops → State → Call → State → Type 0
Moves f s c t = (Takes f s c × (t ≡ after s c)) ⊎ ((Takes f s c → ⊥) × (t ≡ s))

-- a list of calls takes s to t
pub data Leads (f : Ops) : State → List Call → State → Type 0 where
  none : {s : State} → Leads f s [] s
  next : {s m t : State} {c : Call} {cs : List Call} → Moves f s c m → Leads f m cs t → Leads f s (c ∷ cs) t

-- the calls on a fresh draft lead to the length and the rows of s
abbrev pub Held : Ops → List Call → State → Type 0
Held f calls s = Leads f fresh calls s

-- a basis stands for the length and the rows that follow from the calls
abbrev pub Follows : Ops → List Call → Basis → Type 0
Follows f calls b = (s : State) × Held f calls s × Holds f b s

-- whatever calls b follows from, c follows from these and one more
abbrev pub GoesOn : Ops → Basis → Call → Basis → Type 0
GoesOn f b call c = (calls : List Call) → Follows f calls b → Follows f (calls ++ call ∷ []) c

-- the answer is the refusal of a dependent row
abbrev pub SaysDependent : Result ℕ Refusal → Type 0
SaysDependent (Ok _) = ⊥
SaysDependent (Err e) = number e ≡ 6

-- Whatever calls a draft follows from, a row of the right length that has only symbols is called
-- dependent exactly if it is a sum of multiples of the rows to which these calls lead.
abbrev pub TellsDependence : Ops → Basis → List ℕ → Result ℕ Refusal → Type 0
TellsDependence f b w r =
    (calls : List Call) (s : State) → Follows f calls b → Held f calls s → Fits f s w
    → (SaysDependent r → Dependent f s.rows w) × (Dependent f s.rows w → SaysDependent r)
