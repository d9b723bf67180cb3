-- Spans of places.
use Rattle.std.specs.Prelude.{ℕ, ◌+◌, Bool, ◌&&◌, List, nat_le, nat_lt}
use Rattle.std.specs.List.{list_any}
use Rattle.reception.specs.declared.erased.Span.{Span}

-- the place after the last of a span
abbrev pub span_end : Span → ℕ
span_end s = s.offset + s.count

-- whether the place i is in a span
abbrev pub within : Span → ℕ → Bool
within s i = nat_le s.offset i && nat_lt i (span_end s)

-- whether the place i is in one of the spans
abbrev pub covered : List Span → ℕ → Bool
covered spans i = list_any (λ s. within s i) spans
