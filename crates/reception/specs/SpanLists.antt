-- Lists of spans, as bytes.
use Rattle.std.specs.Prelude.{◌≡◌, ℕ, zero, suc, ◌+◌, ◌*◌, ◌%◌, ◌<◌, cond, ◌⊎◌, List, map, length, replicate, Some, Result, ◌≢◌, nat_lt, slice_index}
use Rattle.std.specs.List.{range_with_len}
use Rattle.refusal.specs.declared.Refusal.{Refusal}
use Rattle.refusal.specs.Refusals.{accepted, refused_if, refused_at}
use Rattle.reception.specs.Spans.{span_end}
use Rattle.reception.specs.declared.erased.Span.{Span}

-- a span of no places
abbrev pub empty : Span
empty = record { offset = 0; count = 0 }

-- room for eight spans, all empty
abbrev pub no_spans : List Span
no_spans = replicate 8 empty

-- two bytes as a number, the high byte first
abbrev pub two_bytes : List ℕ → ℕ → ℕ
two_bytes bytes i = 256 * slice_index bytes i + slice_index bytes (i + 1)

-- the pair k of the list: an offset and a count, two bytes each
abbrev pub pair : List ℕ → ℕ → Span
pair bytes k = record { offset = two_bytes bytes (4 * k); count = two_bytes bytes (4 * k + 2) }

-- where the pair ahead of the pair k ends; ahead of the first, the word begins
abbrev pub end_ahead : List ℕ → ℕ → ℕ
end_ahead bytes zero = 0
end_ahead bytes (suc k) = span_end (pair bytes k)

-- the pair k is against its rule: it is empty, begins before the one ahead of it has ended, or ends past the length
abbrev pub Against : ℕ → List ℕ → ℕ → Type 0
Against size bytes k = ((pair bytes k).count ≡ 0) ⊎ (((pair bytes k).offset < end_ahead bytes k) ⊎ (size < span_end (pair bytes k)))

-- the pair k is the first of the list that is against its rule
abbrev pub FirstAgainst : ℕ → List ℕ → ℕ → Type 0
FirstAgainst size bytes k = (4 * k < length bytes) × Against size bytes k × ((j : ℕ) → j < k → Against size bytes j → ⊥)

-- setting the spans of a reception of so many places
abbrev pub SpansSet : ℕ → List ℕ → Result Unit Refusal → Type 0
SpansSet size bytes =
    refused_if ((32 < length bytes) ⊎ (length bytes % 4 ≢ 0)) 16 (Some (length bytes))
    (refused_at (FirstAgainst size bytes) 17
    (accepted (λ _. Unit {0})))

-- the spans that a list of pairs says, and empty ones in the room that is left
abbrev pub listed : List ℕ → ℕ → Span
listed bytes k = cond (nat_lt (4 * k) (length bytes)) (pair bytes k) empty

abbrev pub spans_of : List ℕ → List Span
spans_of bytes = map (listed bytes) (range_with_len 0 8)
