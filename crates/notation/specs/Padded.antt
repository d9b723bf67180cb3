-- A word in an array of 80 numbers, as `Word` keeps it.
use Rattle.std.specs.Prelude.{◌≡◌, ℕ, ◌-◌, ◌≤◌, List, ◌++◌, length, take, replicate, slice_index}
use Rattle.std.proofs.Common.{arith, ◌∙◌, sym, inl, inr}
use Rattle.std.proofs.lemmas.List.{ext_get_or, length-take-le, length-append, length-replicate, get_or-take, get_or_append_left, get_or-append_right, get_or-replicate}
use Rattle.std.proofs.lemmas.Bool.{cases_lt}
use Rattle.notation.specs.declared.word.reading.Word.TheInside.{Inside}

-- the word: so many symbols at the front of the array
abbrev pub front : Inside → List ℕ
front w = take w.len w.symbols

-- after the word there are 0s
abbrev pub Padded : Inside → Type 0
Padded w = (w.len ≤ 80) × (length w.symbols ≡ 80) × ((k : ℕ) → w.len ≤ k → slice_index w.symbols k ≡ 0)

-- the array of a word
abbrev pub padded : List ℕ → Inside
padded word = record { symbols = word ++ replicate (80 - length word) 0; len = length word }

long : (w : Inside) → Padded w → length (front w) ≡ w.len
long w h = length-take-le w.len w.symbols (omega (arith, h.0, h.1))

wide : (w : Inside) → Padded w → length (front w ++ replicate (80 - length (front w)) 0) ≡ length w.symbols
wide w h =
    let ends : length (replicate {A = ℕ} (80 - length (front w)) 0) ≡ 80 - length (front w) = length-replicate (80 - length (front w)) 0 in
    omega (arith, length-append (front w) (replicate (80 - length (front w)) 0), ends, long w h, h.0, h.1)

same_symbols : (w : Inside) → Padded w → front w ++ replicate (80 - length (front w)) 0 ≡ w.symbols
same_symbols w h =
    let zeros : List ℕ = replicate (80 - length (front w)) 0 in
    ext_get_or 0 (front w ++ zeros) w.symbols (wide w h) (λ k g.
    elim (cases_lt k w.len) [
      | inl e ↦ get_or_append_left (front w) zeros 0 k (omega (arith, long w h, e)) ∙ get_or-take w.len w.symbols k 0 e
      | inr e ↦ get_or-append_right (front w) zeros w.len k 0 (long w h) e ∙ get_or-replicate (80 - length (front w)) (k - w.len) 0 0 (omega (arith, g, wide w h, long w h, h.0, h.1, e)) ∙ sym (h.2 k e)
    ])

-- the array of the word is that which held it
pub padded_front : (w : Inside) → Padded w → padded (front w) ≡ w
padded_front w h i = record { symbols = same_symbols w h i; len = long w h i }
