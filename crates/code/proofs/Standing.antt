-- Every basis stands for some rows: its own, as lists.
use Rattle.std.proofs.Common.{◌≡◌, ℕ, ◌<◌, List, [], map, length, get_or, sym, refl, ap, ◌∙◌, inl, inr, arith}
use Rattle.std.specs.List.{range_with_len}
use Rattle.std.proofs.lemmas.List.FromFn.{length-map-range_with_len, get_or-map-range_with_len}
use Rattle.std.proofs.lemmas.List.{get_or_past}
use Rattle.std.proofs.lemmas.Bool.{cases_lt}
use Rattle.field.specs.Field.{Ops, Laws}
use Rattle.algebra.specs.Words.{word, cells}
use Rattle.algebra.proofs.Symbols.{zero_symbol}
use Rattle.algebra.proofs.Growing.{same_rows}
use Rattle.basis.specs.declared.Basis.{Basis}
use Rattle.basis.specs.Parts as Bases
use Rattle.basis.proofs.Triangles as Triangles
use Rattle.code.specs.Drafts.{State, Holds}

module _ (f : Ops) (l : Laws f) (b : Basis) where
  abbrev row : ℕ → List ℕ
  row i = map (Bases.rows_of f b i) (range_with_len 0 (Bases.size b))

  abbrev rows : List (List ℕ)
  rows = map row (range_with_len 0 (Bases.count b))

  count : length rows ≡ Bases.count b
  count = length-map-range_with_len row 0 (Bases.count b)

  row_at : (i : ℕ) → i < Bases.count b → get_or rows i [] ≡ row i
  row_at i h = get_or-map-range_with_len row 0 (Bases.count b) i i [] h (omega arith)

  cell_at : (i k : ℕ) → i < Bases.count b → cells rows i k ≡ Bases.rows_of f b i k
  cell_at i k h = ap (λ r. word r k) (row_at i h) ∙ elim (cases_lt k (Bases.size b)) [
    | inl c ↦ get_or-map-range_with_len (Bases.rows_of f b i) 0 (Bases.size b) k k 0 c (omega arith)
    | inr c ↦ get_or_past (row i) k 0 (omega (arith, length-map-range_with_len (Bases.rows_of f b i) 0 (Bases.size b))) ∙ sym (Triangles.ends f l b i k h c)
  ]

  pub stands : (s : State) × Holds f b s
  stands = (
    record { size = Bases.size b; rows = rows },
    record {
      long = refl;
      all = sym count;
      lengths = λ i h. ap length (row_at i (omega (arith, count))) ∙ length-map-range_with_len (Bases.rows_of f b i) 0 (Bases.size b);
      symbols = λ i k. elim (cases_lt i (Bases.count b)) [
        | inl h ↦ rw (cell_at i k h) (Triangles.symbols_of f l b i k)
        | inr h ↦ rw (ap (λ r. word r k) (get_or_past rows i [] (omega (arith, count)))) (zero_symbol l)
      ];
      spans = λ i h. same_rows f l i (cells rows) (Bases.rows_of f b) (λ j k g. cell_at j k (omega (arith, count)));
    },
  )
