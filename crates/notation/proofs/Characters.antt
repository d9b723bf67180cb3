-- The two ranges of the characters that write a symbol.
use Rattle.std.proofs.Common.{◌≡◌, ℕ, ◌+◌, ◌<◌, ◌≤◌, ◌⊎◌, List, map, get_or, codes, sym, refl, ap, ◌∙◌, inl, inr, arith}
use Rattle.std.proofs.lemmas.List.FromFn.{get_or-map-range_with_len}
use Rattle.std.proofs.lemmas.Bool.{cases_lt, cond_below, cond_above}
use Rattle.std.specs.List.{range_with_len}
use Rattle.std.specs.Char.{digit_char}
use Rattle.notation.specs.Symbols.{Writes}

table : codes "0123456789abcdef" ≡ map digit_char (range_with_len 0 16)
table = refl

listed : (v : ℕ) → v < 16 → get_or (codes "0123456789abcdef") v 0 ≡ digit_char v
listed v h = ap (λ (xs : List ℕ). get_or xs v 0) table ∙ get_or-map-range_with_len digit_char 0 16 v v 0 h (omega arith)

pub digit_writes : (c v : ℕ) → v < 10 → c ≡ 48 + v → Writes c v
unfolding Writes
digit_writes c v h e =
    let within : v < 16 = omega arith in
    (within, e ∙ cond_below v 10 (48 + v) (87 + v) h ∙ sym (listed v within))

pub letter_writes : (c v : ℕ) → 10 ≤ v → v < 16 → c ≡ 87 + v → Writes c v
unfolding Writes
letter_writes c v h within e = (within, cond_above v 10 (48 + v) (87 + v) c h e ∙ sym (listed v within))

pub ranges : (c v : ℕ) → Writes c v → ((v < 10) × (c ≡ 48 + v)) ⊎ ((10 ≤ v) × (v < 16) × (c ≡ 87 + v))
unfolding Writes
ranges c v w =
    let e = w.1 ∙ listed v w.0 in
    elim (cases_lt v 10) [
      | inl h ↦ inl (h, e ∙ sym (cond_below v 10 (48 + v) (87 + v) h))
      | inr h ↦ inr (h, w.0, e ∙ sym (cond_above v 10 (48 + v) (87 + v) (87 + v) h refl))
    ]

pub one_symbol : (c v u : ℕ) → Writes c v → Writes c u → u ≡ v
one_symbol c v u a b = omega (arith, ranges c v a, ranges c u b)

pub one_character : (c d v : ℕ) → Writes c v → Writes d v → d ≡ c
one_character c d v a b = omega (arith, ranges c v a, ranges d v b)

-- a symbol is written by some character
pub written : (v : ℕ) → v < 16 → (c : ℕ) × Writes c v
unfolding Writes
written v h = (get_or (codes "0123456789abcdef") v 0, (h, refl))
