-- The two parts of a text, before and after its first space.
use Rattle.std.proofs.Common.{◌≡◌, ℕ, ◌+◌, ◌<◌, ◌≤◌, List, ◌∷◌, ◌++◌, length, get_or, take, drop, Some, None, sym, refl, ap, ◌∙◌, inl, inr, arith}
use Rattle.std.proofs.lemmas.List.{drop_at, drop-drop, drop_more, get_or_append_left, get_or_at, length-append, length-take-le, take-append-drop, take_at}
use Rattle.std.proofs.lemmas.Bool.{cases_order}
use Rattle.notation.specs.Only.{Only}
use Rattle.notation.specs.Parts.{Parted}

-- the first space of the text stands at i
abbrev pub First : List ℕ → ℕ → Type 0
First text i = (i < length text) × (get_or text i 0 ≡ 32) × ((k : ℕ) → k < i → get_or text k 0 ≡ 32 → ⊥)

one_first : (text : List ℕ) (i j : ℕ) → First text i → First text j → i ≡ j
one_first text i j f g =
    elim (cases_order i j) [
      | inl e ↦ e
      | inr (inl l) ↦ absurd (g.2 i l f.1)
      | inr (inr l) ↦ absurd (f.2 j l g.1)
    ]

-- the parts are those at the first space
pub first_of : (text : List ℕ) (p : List ℕ × List ℕ) → Parted text p → First text (length p.0)
first_of text p h =
    let n = length p.0 in (
      omega (arith, ap length h.1, length-append p.0 (32 ∷ p.1)),
      ap (λ (xs : List ℕ). get_or xs n 0) h.1 ∙ get_or_at p.0 32 p.1 0 n refl,
      λ k l e. h.0 k l (sym (get_or_append_left p.0 (32 ∷ p.1) 0 k l) ∙ ap (λ (xs : List ℕ). get_or xs k 0) (sym h.1) ∙ e),
    )

parts_of : (text : List ℕ) (p : List ℕ × List ℕ) (i : ℕ) → Parted text p → length p.0 ≡ i → p ≡ (take i text, drop (i + 1) text)
parts_of text p i h e =
    let front : take i text ≡ p.0 = ap (take i) h.1 ∙ take_at p.0 (32 ∷ p.1) i e in
    let rest : drop i text ≡ 32 ∷ p.1 = ap (drop i) h.1 ∙ drop_at p.0 (32 ∷ p.1) i e in
    let back : drop (i + 1) text ≡ p.1 = sym (drop-drop 1 i text) ∙ ap (drop 1) rest in
    λ j. (sym front j, sym back j)

pub parted_only : (text a b : List ℕ) (i : ℕ) → First text i → a ≡ take i text → b ≡ drop (i + 1) text → Only (Parted text) (Some (a, b))
parted_only text a b i f ea eb =
    let long : length a ≡ i = ap length ea ∙ length-take-le i text (omega (arith, f.0)) in
    let at : drop i text ≡ 32 ∷ b = drop_more text i 0 f.0 ∙ (λ j. f.1 j ∷ sym eb j) in
    let is : text ≡ a ++ 32 ∷ b = sym (take-append-drop i text) ∙ (λ j. sym ea j ++ at j) in (
      ((λ k l e. f.2 k (omega arith) (ap (λ (xs : List ℕ). get_or xs k 0) is ∙ get_or_append_left a (32 ∷ b) 0 k l ∙ e)), is),
      λ q k. parts_of text q i k (one_first text (length q.0) i (first_of text q k) f) ∙ (λ j. (sym ea j, sym eb j)),
    )

pub parted_none : (text : List ℕ) (i : ℕ) → length text ≤ i → ((k : ℕ) → k < i → get_or text k 0 ≡ 32 → ⊥) → Only (Parted text) None
parted_none text i end none p h =
    let f = first_of text p h in
    none (length p.0) (omega (arith, f.0)) f.1
