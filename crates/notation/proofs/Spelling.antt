-- What a text spells.
use Rattle.std.proofs.Common.{◌≡◌, ℕ, ◌<◌, ◌≤◌, ◌⊎◌, List, [], length, get_or, Some, None, codes, sym, refl, ap, ◌∙◌, inl, inr, arith}
use Rattle.std.proofs.lemmas.List.{ext_get_or}
use Rattle.notation.specs.Only.{Only}
use Rattle.notation.specs.Symbols.{Writes}
use Rattle.notation.specs.Words.{Placed, Spells, Readable}
use Rattle.notation.proofs.Characters.{ranges, one_symbol}

-- `-` writes no symbol
dash_writes_none : (text : List ℕ) (v : ℕ) → text ≡ codes "-" → Writes (get_or text 0 0) v → ⊥
dash_writes_none text v e w =
    let is : get_or text 0 0 ≡ 45 = ap (λ (xs : List ℕ). get_or xs 0 0) e in
    omega (arith, ranges (get_or text 0 0) v w)

pub dash_spells : (text : List ℕ) → text ≡ codes "-" → Spells text []
unfolding Placed
dash_spells text e = inl (e, refl)

-- a text other than `-` spells a word of its own length, place by place
pub spells_places : (text word : List ℕ) → (text ≡ codes "-" → ⊥) → Spells text word → (0 < length word) × (length text ≡ length word) × ((i : ℕ) → i < length word → Writes (get_or text i 0) (get_or word i 0))
unfolding Placed
spells_places text word other s = elim s [ inl d ↦ absurd (other d.0) | inr p ↦ p ]

pub one_word : (text v w : List ℕ) → Spells text v → Spells text w → w ≡ v
unfolding Placed
one_word text v w a b =
    elim a [
      | inl d ↦ elim b [
        | inl e ↦ e.1 ∙ sym d.1
        | inr q ↦ absurd (dash_writes_none text (get_or w 0 0) d.0 (q.2 0 q.0))
      ]
      | inr p ↦ elim b [
        | inl e ↦ absurd (dash_writes_none text (get_or v 0 0) e.0 (p.2 0 p.0))
        | inr q ↦
            ext_get_or 0 w v (sym q.1 ∙ p.1)
            (λ i h. one_symbol (get_or text i 0) (get_or v i 0) (get_or w i 0) (p.2 i (omega (arith, p.1, q.1, h))) (q.2 i h))
      ]
    ]

-- The answers of a reader, over plain values.

pub reads_dash : (text : List ℕ) → text ≡ codes "-" → Only (Readable text) (Some [])
reads_dash text e =
    let s = dash_spells text e in
    ((s, omega arith), λ w r. one_word text [] w s r.0)

pub reads_all : (text word : List ℕ) → 0 < length text → length text ≤ 80 → length word ≡ length text → ((i : ℕ) → i < length text → Writes (get_or text i 0) (get_or word i 0)) → Only (Readable text) (Some word)
unfolding Placed
reads_all text word some fits long each =
    let s : Spells text word = inr (omega (arith, long), sym long, λ i h. each i (omega (arith, long))) in
    ((s, omega (arith, long)), λ w r. one_word text word w s r.0)

pub reads_no_length : (text : List ℕ) → (text ≡ codes "-" → ⊥) → (length text ≡ 0) ⊎ (80 < length text) → Only (Readable text) None
reads_no_length text other out w r =
    let p = spells_places text w other r.0 in
    omega (arith, p.0, p.1, r.1)

pub reads_no_symbol : (text : List ℕ) (i : ℕ) → (text ≡ codes "-" → ⊥) → i < length text → Only (Writes (get_or text i 0)) None → Only (Readable text) None
reads_no_symbol text i other h none w r =
    let p = spells_places text w other r.0 in
    none (get_or w i 0) (p.2 i (omega (arith, p.1)))

-- a word has at most as many symbols as its text has bytes
pub readable : (text word : List ℕ) → Spells text word → length text ≤ 80 → Readable text word
unfolding Placed
readable text word s h =
    (s, elim s [ inl d ↦ omega (arith, ap length d.1) | inr p ↦ omega (arith, p.1) ])
