-- A word and the text that spells it.
use Rattle.std.specs.Prelude.{◌≡◌, ℕ, ◌<◌, ◌≤◌, ◌⊎◌, List, [], ◌∷◌, length, map, codes, slice_index, nat_lt, if◌then◌else◌}
use Rattle.notation.specs.Symbols.{Writes}

-- the text is `-` for an empty word, and else has one character for each number, as R relates them
unfoldable pub Placed : (ℕ → ℕ → Type 0) → List ℕ → List ℕ → Type 0
Placed R text word =
    ((text ≡ codes "-") × (word ≡ []))
    ⊎ ((0 < length word) × (length text ≡ length word) × ((i : ℕ) → i < length word → R (slice_index text i) (slice_index word i)))

-- the text spells the word: each character writes the symbol at its place
abbrev pub Spells : List ℕ → List ℕ → Type 0
Spells = Placed Writes

-- the text spells the word, which has at most 80 symbols
abbrev pub Readable : List ℕ → List ℕ → Type 0
Readable text word = Spells text word × (length word ≤ 80)

-- the character c stands for the number v in print: it writes it, or it is `?`, code 63, where none does
abbrev pub Shows : ℕ → ℕ → Type 0
Shows c v = Writes c v ⊎ ((16 ≤ v) × (c ≡ 63))

-- the text is how the word is printed, whether or not its numbers are symbols
abbrev pub Prints : List ℕ → List ℕ → Type 0
Prints = Placed Shows

-- the one character that stands for the number v
unfoldable pub shown : ℕ → ℕ
shown v = if nat_lt v 16 then slice_index (codes "0123456789abcdef") v else 63

-- the one text as which the word is printed
abbrev pub printed : List ℕ → List ℕ
printed [] = codes "-"
printed (v ∷ vs) = map shown (v ∷ vs)

-- each number of the word can be written
abbrev pub Writable : List ℕ → Type 0
Writable word = (i : ℕ) → i < length word → slice_index word i < 16
