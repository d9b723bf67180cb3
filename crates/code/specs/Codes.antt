-- Sealed codes: what sealing gives, and what each call on a code answers and writes.
use Rattle.std.specs.Prelude.{◌≡◌, ℕ, ◌-◌, ◌<◌, ◌≤◌, List, length, Some, Result, ◌≢◌}
use Rattle.field.specs.Field.{Ops}
use Rattle.algebra.specs.Words.{word, cells, Span, Independent}
use Rattle.algebra.specs.Reduced.{ReducedForm, OnlyForm, FirstPlace}
use Rattle.generator.specs.declared.Generator.{Generator}
use Rattle.generator.specs.Parts.{size, dimension, rows_of, places_of, check_place_of, check_row_of, Message, codeword}
use Rattle.refusal.specs.declared.Refusal.{Refusal}
use Rattle.code.specs.Drafts.{State, FirstNone}
use Rattle.refusal.specs.Refusals.{accepted, refused_if, refused_at}

-- The code that a draft of some length and rows is sealed to: it has that length, as many reduced
-- rows as there are rows held, and these are their one reduced row echelon form. The rows held are
-- independent, and the first information place is the first place at which some of them is not 0.
pub record Sealed (f : Ops) (s : State) (g : Generator) : Type 0 where
  pub long : size g ≡ s.size
  pub all : dimension g ≡ length s.rows
  pub form : ReducedForm f (length s.rows) (cells s.rows) (dimension g) (rows_of f g) (places_of g)
  pub only : OnlyForm f (length s.rows) (cells s.rows) (dimension g) (rows_of f g) (places_of g)
  pub first : 0 < dimension g → FirstPlace (length s.rows) (cells s.rows) (places_of g 0)
  pub independent : Independent f (length s.rows) (cells s.rows)

-- a buffer of so many places is as long as the code; else it is turned away
abbrev pub BufferChecked : Generator → ℕ → Result Unit Refusal → Type 0
BufferChecked g room = refused_if (room ≢ size g) 10 (Some (size g)) (accepted (λ _. room ≡ size g))

-- `out` is the codeword of the message m: in the span of the rows, with the message at the
-- information places in order; no other message has this codeword.
pub record Encoded (f : Ops) (g : Generator) (m out : List ℕ) : Type 0 where
  pub is : (p : ℕ) → word out p ≡ codeword f g m p
  pub spanned : Span f (dimension g) (rows_of f g) (word out)
  pub carries : (j : ℕ) → j < dimension g → word out (places_of g j) ≡ word m j
  pub alone : (v : List ℕ) → Message f g v → ((p : ℕ) → word out p ≡ codeword f g v p) → v ≡ m

-- encoding the message m into a buffer of so many places
abbrev pub MessageEncoded : Ops → Generator → List ℕ → ℕ → List ℕ → Result Unit Refusal → Type 0
MessageEncoded f g m room out =
    refused_if (length m ≢ dimension g) 4 (Some (dimension g))
    (refused_at (FirstNone f m) 5
    (refused_if (room ≢ size g) 10 (Some (size g))
    (accepted (λ _. Encoded f g m out))))

-- reading the reduced row i: its information place is answered
abbrev pub ReducedRead : Ops → Generator → ℕ → ℕ → List ℕ → Result ℕ Refusal → Type 0
ReducedRead f g i room out =
    refused_if (room ≢ size g) 10 (Some (size g))
    (refused_if (dimension g ≤ i) 11 (Some (dimension g))
    (accepted (λ p. (p ≡ places_of g i) × ((k : ℕ) → word out k ≡ rows_of f g i k))))

-- `out` is check row i of a code: 1 at check place i, at the information place of reduced row j the negative of
-- that row's symbol at check place i, and 0 at every other place.
pub record CheckRow (f : Ops) (g : Generator) (i : ℕ) (out : List ℕ) : Type 0 where
  pub is : (k : ℕ) → k < size g → word out k ≡ check_row_of f g (check_place_of g i) k
  pub own : word out (check_place_of g i) ≡ 1
  pub information : (j : ℕ) → j < dimension g → word out (places_of g j) ≡ f.negative (rows_of f g j (check_place_of g i))
  pub others : (k : ℕ) → k < size g → (k ≢ check_place_of g i) → ((j : ℕ) → j < dimension g → places_of g j ≢ k) → word out k ≡ 0

-- reading the check row i
abbrev pub CheckRead : Ops → Generator → ℕ → ℕ → List ℕ → Result Unit Refusal → Type 0
CheckRead f g i room out =
    refused_if (room ≢ size g) 10 (Some (size g))
    (refused_if (size g - dimension g ≤ i) 11 (Some (size g - dimension g))
    (accepted (λ _. CheckRow f g i out)))
