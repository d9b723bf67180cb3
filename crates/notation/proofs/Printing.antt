-- How a word is printed.
use Rattle.std.proofs.Common.{◌≡◌, ℕ, ◌+◌, ◌<◌, ◌≤◌, List, [], ◌∷◌, ◌++◌, length, map, take, get_or, encode_utf8, Some, None, codes, Option, unwrap_or, sym, refl, ap, ◌∙◌, subst, inl, inr, arith}
use Rattle.std.proofs.lemmas.Bool.{cases_lt, cond_below, cond_above}
use Rattle.std.proofs.lemmas.List.{get_or-map, length-map, map-append, take_more}
use Rattle.std.proofs.lemmas.Str.{encode_ascii}
use Rattle.notation.specs.Only.{Only}
use Rattle.notation.specs.Symbols.{Writes, Written}
use Rattle.notation.specs.Words.{Placed, printed, Prints, Readable, shown, Shows, Spells, Writable}
use Rattle.notation.proofs.Characters.{one_character, ranges}
use Rattle.notation.proofs.Spelling.{one_word}

shows_shown : (v : ℕ) → Shows (shown v) v
unfolding shown Writes
shows_shown v =
    elim (cases_lt v 16) [
      | inl h ↦ inl (h, sym (cond_below v 16 (get_or (codes "0123456789abcdef") v 0) 63 h))
      | inr h ↦ inr (h, sym (cond_above v 16 (get_or (codes "0123456789abcdef") v 0) 63 63 h refl))
    ]

-- what is shown for a number is ASCII
pub shown_ascii : (v : ℕ) → shown v < 128
shown_ascii v = elim (shows_shown v) [ inl w ↦ omega (arith, ranges (shown v) v w) | inr p ↦ omega (arith, p.1) ]

-- it is the character that writes the number, or `?` where none does
pub marked : (v : ℕ) (o : Option ℕ) → Only (Written v) o → unwrap_or o 63 ≡ shown v
marked v (Some c) h = elim (shows_shown v) [ inl w ↦ one_character (shown v) c v w h.0 | inr p ↦ absurd (omega (arith, p.0, ranges c v h.0)) ]
marked v None h = elim (shows_shown v) [ inl w ↦ absurd (h (shown v) w) | inr p ↦ sym p.1 ]

pub prints : (text word : List ℕ) → text ≡ printed word → Prints text word
unfolding Placed
prints text [] e = inl (e, refl)
prints text (v ∷ vs) e =
    let word = v ∷ vs in
    inr (
      omega arith,
      ap length e ∙ length-map word shown,
      λ i h.
          let is : get_or text i 0 ≡ shown (get_or word i 0) = ap (λ (xs : List ℕ). get_or xs i 0) e ∙ get_or-map shown word i 0 0 h in
          subst (λ (c : ℕ). Shows c (get_or word i 0)) (sym is) (shows_shown (get_or word i 0)),
    )

-- what is printed of symbols spells them
spells_writable : (text word : List ℕ) → Prints text word → Writable word → Spells text word
unfolding Placed
spells_writable text word (inl d) all = inl d
spells_writable text word (inr p) all =
    inr (p.0, p.1, λ i h. elim (p.2 i h) [ inl w ↦ w | inr q ↦ absurd (omega (arith, all i h, q.0)) ])

-- and nothing else
pub spells_only : (text word : List ℕ) → Prints text word → Writable word → Only (Spells text) (Some word)
spells_only text word p all =
    let s = spells_writable text word p all in
    (s, λ w r. one_word text word w s r)

pub reads_back : (text word : List ℕ) → Prints text word → Writable word → length word ≤ 80 → Only (Readable text) (Some word)
reads_back text word p all short =
    let o = spells_only text word p all in
    ((o.0, short), λ w r. o.1 w r.0)

-- one more character
pub shown_more : (word : List ℕ) (i c : ℕ) → i < length word → c ≡ shown (get_or word i 0) → map shown (take i word) ++ encode_utf8 c ≡ map shown (take (i + 1) word)
shown_more word i c h is =
    let small : c < 128 = omega (arith, is, shown_ascii (get_or word i 0)) in
    let here : encode_utf8 c ≡ shown (get_or word i 0) ∷ [] = encode_ascii c small ∙ ap (λ (x : ℕ). x ∷ []) is in
    let more : map shown (take (i + 1) word) ≡ map shown (take i word) ++ shown (get_or word i 0) ∷ [] = ap (map shown) (take_more word i 0 h) ∙ map-append shown (take i word) (get_or word i 0 ∷ []) in
    ap (λ (xs : List ℕ). map shown (take i word) ++ xs) here ∙ sym more

pub printed_none : (word : List ℕ) → length word ≡ 0 → printed word ≡ codes "-"
printed_none [] e = refl
printed_none (v ∷ vs) e = absurd (omega (arith, e))

pub printed_some : (word : List ℕ) → 0 < length word → printed word ≡ map shown word
printed_some [] h = absurd (omega (arith, h))
printed_some (v ∷ vs) h = refl
