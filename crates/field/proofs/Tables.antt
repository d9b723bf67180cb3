-- A table of a rule has the rule's answer at each place. antt computes the table of a rule, so a constant of the code can be shown to be it.
use Rattle.std.proofs.Common.{◌≡◌, ℕ, ◌<◌, [], get_or, ap, ◌∙◌, arith}
use Rattle.std.proofs.lemmas.List.FromFn.{get_or-map-range_with_len}
use Rattle.field.specs.Tables.{row, table}

pub in_row : (f : ℕ → ℕ) (n a : ℕ) → a < n → get_or (row f n) a 0 ≡ f a
in_row f n a h = get_or-map-range_with_len f 0 n a a 0 h (omega arith)

pub in_table : (f : ℕ → ℕ → ℕ) (n a b : ℕ) → a < n → b < n → get_or (get_or (table f n) a []) b 0 ≡ f a b
in_table f n a b h k =
    ap (λ r. get_or r b 0) (get_or-map-range_with_len (λ a. row (f a) n) 0 n a a [] h (omega arith)) ∙ in_row (f a) n b k
