-- A loop over the pairs of a list of spans.
use Rattle.std.proofs.Common.{◌≡◌, ℕ, zero, suc, ◌+◌, ◌*◌, ◌/◌, ◌%◌, ◌<◌, ◌≤◌, cond, ltb, List, length, get_or, set, [], drop, sym, ap, ◌∙◌, inl, inr, ⊎_elim, arith, below_more}
use Rattle.std.proofs.lemmas.List.FromFn.{fill_by_all}
use Rattle.std.proofs.lemmas.List.{get_or-drop, get_or-take, get_or-set_same, get_or-set_other}
use Rattle.std.proofs.lemmas.Bool.{cases_eq, cond_below}
use Rattle.std.proofs.lemmas.Bool.Decides.{nat_tests}
use Rattle.std.specs.Simd.{first_chunks}
use Rattle.reception.specs.declared.erased.Span.{Span}
use Rattle.reception.specs.Spans.{span_end}
use Rattle.reception.specs.SpanLists.{empty, pair, end_ahead, Against, listed, spans_of}

-- four bytes further on, the pairs are one ahead
pair_on : (bytes : List ℕ) (k : ℕ) → pair (drop 4 bytes) k ≡ pair bytes (suc k)
pair_on bytes k = grind (arith, get_or-drop)

-- the chunk k of four bytes holds the pair k
chunk : (count k : ℕ) (bytes : List ℕ) → k < count → pair (get_or (first_chunks 4 count bytes) k []) 0 ≡ pair bytes k
chunk zero k bytes h = absurd (omega arith)
chunk (suc count) zero bytes h = grind (arith, get_or-take)
chunk (suc count) (suc k) bytes h = chunk count k (drop 4 bytes) (omega arith) ∙ pair_on bytes k

-- what is read from the chunk k alone is the pair k of the list
pub pair_alone : (bytes : List ℕ) (chunks : List (List ℕ)) (k : ℕ) (span : Span) → chunks ≡ first_chunks 4 (length bytes / 4) bytes → k < length bytes / 4 → span ≡ pair (get_or chunks k []) 0 → span ≡ pair bytes k
pair_alone bytes chunks k span whole h e = e ∙ ap (λ x. pair (get_or x k []) 0) whole ∙ chunk _ k bytes h

-- one pair more keeps its rule
pub keeps_more : (size : ℕ) (bytes : List ℕ) (k : ℕ) (span : Span) → span ≡ pair bytes k → ((j : ℕ) → j < k → Against size bytes j → ⊥) → (span.count ≡ 0 → ⊥) → end_ahead bytes k ≤ span.offset → span_end span ≤ size → (j : ℕ) → j < k + 1 → Against size bytes j → ⊥
keeps_more size bytes k span e earlier some after inside =
    let offset : span.offset ≡ (pair bytes k).offset = ap (λ (s : Span). s.offset) e in
    let count : span.count ≡ (pair bytes k).count = ap (λ (s : Span). s.count) e in
    below_more (λ j. Against size bytes j → ⊥) k earlier (⊎_elim (λ h. some (count ∙ h)) (⊎_elim (λ h. omega arith) (λ h. omega arith)))

-- the first k spans are those of the list, and the others empty
abbrev pub Written : List ℕ → ℕ → List Span → Type 0
Written bytes k spans = (j : ℕ) → j < 8 → get_or spans j empty ≡ cond (ltb j k) (pair bytes j) empty

pub written_more : (bytes : List ℕ) (k : ℕ) (spans : List Span) (span : Span) → span ≡ pair bytes k → k < length spans → Written bytes k spans → Written bytes (k + 1) (set spans k span)
written_more bytes k spans span e room before j h = elim (cases_eq j k) [
  | inl same ↦
      let at : get_or (set spans k span) j empty ≡ span = ap (λ i. get_or (set spans k span) i empty) same ∙ get_or-set_same spans k span empty room in
      at ∙ e ∙ ap (pair bytes) (sym same) ∙ cond_below j (k + 1) (pair bytes j) empty (omega arith)
  | inr other ↦ get_or-set_other spans k j span empty other ∙ before j h ∙ ap (λ b. cond b (pair bytes j) empty) (grind (arith, nat_tests))
]

pub written_all : (bytes : List ℕ) (spans : List Span) (k : ℕ) → length bytes % 4 ≡ 0 → k ≡ length bytes / 4 → length spans ≡ 8 → Written bytes k spans → spans ≡ spans_of bytes
written_all bytes spans k whole e room each = fill_by_all (listed bytes) spans 8 empty room (λ j h. each j h ∙ ap (λ b. cond b (pair bytes j) empty) (same j))
  where
    same : (j : ℕ) → ltb j k ≡ ltb (4 * j) (length bytes)
    same j = grind (arith, nat_tests)
