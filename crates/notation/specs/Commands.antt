-- A line and the command that it says.
use Rattle.std.specs.Prelude.{◌≡◌, ℕ, ◌<◌, ◌≤◌, ◌⊎◌, List, ◌++◌, length, codes}
use Rattle.std.specs.Str.Parse.{AllDigits, digits_value}
use Rattle.notation.specs.declared.command.Command.{Command}
use Rattle.notation.specs.declared.command.Command.TheVariants.{Kind, Row, Back, Seal, Send, Hear, Distance, Noise}
use Rattle.notation.specs.declared.command.Order.{Order}
use Rattle.notation.specs.declared.command.Order.TheVariants.{Two, Three, Four, Sixteen}
use Rattle.notation.specs.Words.{Spells}

-- the text is the order of a field, written in decimal
abbrev pub OrderNamed : List ℕ → Order → Type 0
OrderNamed text Two = text ≡ codes "2"
OrderNamed text Three = text ≡ codes "3"
OrderNamed text Four = text ≡ codes "4"
OrderNamed text Sixteen = text ≡ codes "16"

-- the text is the number n in one to three decimal digits
abbrev pub Number : List ℕ → ℕ → Type 0
Number text n = (0 < length text) × (length text ≤ 3) × AllDigits 10 text × (n ≡ digits_value 10 text)

-- the text is the order of a field, a space and a length
abbrev pub KindOf : List ℕ → Order × ℕ → Type 0
KindOf text p = (a : List ℕ) × (b : List ℕ) × OrderNamed a p.0 × Number b p.1 × (text ≡ a ++ (codes " " ++ b))

-- the command of this name, with this text after it
abbrev pub With : List ℕ → List ℕ → Command → Type 0
With name text (Kind q n) = (name ≡ codes "kind") × KindOf text (q, n)
With name text (Row word) = (name ≡ codes "row") × Spells text word
With name text (Send word) = (name ≡ codes "send") × Spells text word
With name text (Hear word) = (name ≡ codes "hear") × Spells text word
With name text Back = ⊥
With name text Seal = ⊥
With name text Distance = ⊥
With name text Noise = ⊥

-- the command of this name, with nothing after it
abbrev pub Alone : List ℕ → Command → Type 0
Alone name Back = name ≡ codes "back"
Alone name Seal = name ≡ codes "seal"
Alone name Distance = name ≡ codes "distance"
Alone name Noise = name ≡ codes "noise"
Alone name (Kind q n) = ⊥
Alone name (Row word) = ⊥
Alone name (Send word) = ⊥
Alone name (Hear word) = ⊥

-- the line has the form of the command: its name, or its name and what belongs to it, one space apart
abbrev pub Form : List ℕ → Command → Type 0
Form line command =
    Alone line command ⊎ ((name : List ℕ) × (text : List ℕ) × With name text command × (line ≡ name ++ (codes " " ++ text)))

-- the line says this: it has at most 80 bytes, and its form
abbrev pub Says : List ℕ → Command → Type 0
Says line command = (length line ≤ 80) × Form line command
