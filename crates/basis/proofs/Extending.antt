-- A basis with what it leaves of a word stored after its rows.
use Rattle.std.proofs.Common.{◌≡◌, ℕ, ◌+◌, ◌<◌, ◌≤◌, cond, eqb, List, length, set, refl, ap, ◌∙◌, inl, inr, arith}
use Rattle.std.proofs.lemmas.List.{map-set, length-map, get_or-set_same, get_or-set_other}
use Rattle.std.proofs.lemmas.Bool.{cases_eq, cases_lt, cond-true, cond-false, eq-eqb, ne_eqb}
use Rattle.field.specs.Field.{Ops, Laws}
use Rattle.algebra.specs.Words.{word, cells, symbol, symbol_cells, with_row, Symbols, SymbolRows, Span, SameSpan}
use Rattle.algebra.proofs.Symbols.{symbol_is}
use Rattle.algebra.proofs.Cells.{cells_set_same, cells_set_other, by_zero, symbol_rows, product_closed}
use Rattle.algebra.proofs.Triangular.{Triangular, triangular_fits}
use Rattle.algebra.proofs.Growing.{with_new, with_old, with_symbols, zero_from_spanned, grown_triangular, grown_span}
use Rattle.linear.specs.declared.rows.Row.{Row}
use Rattle.linear.specs.Rows.{symbols as symbols_in, places as places_in}
use Rattle.basis.specs.declared.Basis.{Basis}
use Rattle.basis.specs.Left.{Left}
use Rattle.basis.specs.Parts.{size, count, rows_of, pivots_of}
use Rattle.basis.proofs.Triangles.{symbols_of, triangular, ends}

module _ (f : Ops) (l : Laws f) (b : Basis) (tall : length b.rows ≡ 24) (w : ℕ → ℕ) (symbols : Symbols f w) (r : Row) (left : Left f b w r) where
  open left use {remainder, past, some, is}

  abbrev v : ℕ → ℕ
  v = left.rest

  abbrev p : ℕ
  p = r.place

  abbrev new : List ℕ
  new = r.symbols

  pub pivot_inside : p < size b
  pivot_inside = elim (cases_lt p (size b)) [ inl h ↦ h | inr h ↦ absurd (some (past p h)) ]

  new_past : (k : ℕ) → size b ≤ k → word new k ≡ 0
  new_past k h = is k ∙ ap (f.product (f.inverse (v p))) (past k h) ∙ by_zero f l _

  new_symbols : Symbols f (word new)
  new_symbols k = rw (is k) (product_closed f l _ _)

  -- the rows and the pivots with one more, as functions
  rows : ℕ → ℕ → ℕ
  rows = with_row (rows_of f b) (count b) (word new)

  places : ℕ → ℕ
  places i = cond (eqb i (count b)) p (pivots_of b i)

  -- there is room for one more row
  pub room : count b < size b
  unfolding rows places
  room =
      let k = count b in
      let t : Triangular (k + 1) rows places =
      grown_triangular f l (rows_of f b) (symbols_of f l b) (pivots_of b) w symbols k (triangular f l b) v remainder p some rows places
      (λ i x h. with_old (rows_of f b) k (word new) i x (omega arith)) (λ x. with_new (rows_of f b) k (word new) x ∙ is x)
      (λ i h. cond-false _ _ _ (ne_eqb i k (omega arith))) (cond-true _ _ _ (eq-eqb k k refl)) in
      let s : SymbolRows f rows = with_symbols f l (rows_of f b) k (word new) (symbols_of f l b) new_symbols in
      let few : k + 1 ≤ size b = triangular_fits f l (size b) (k + 1) rows places s t (λ i x h g. elim (cases_eq i k) [
        | inl e ↦ ap (λ y. rows y x) e ∙ with_new (rows_of f b) k (word new) x ∙ new_past x g
        | inr n ↦ with_old (rows_of f b) k (word new) i x n ∙ ends f l b i x (omega arith) g
      ]) in
      omega arith

  below_24 : count b < 24
  below_24 = let a = room in let c = b.short in omega arith

  -- the rows and the pivots with the row stored
  abbrev pub after : List Row
  after = set b.rows (count b) r

  abbrev stored : List (List ℕ)
  stored = symbols_in after

  abbrev listed : List ℕ
  listed = places_in after

  cells_new : (x : ℕ) → cells stored (count b) x ≡ word new x
  cells_new x =
      ap (λ rs. cells rs (count b) x) (map-set (λ r. r.symbols) b.rows (count b) r)
      ∙ cells_set_same (symbols_in b.rows) (count b) new x (let c = below_24 in let d = tall in omega (arith, length-map b.rows (λ r. r.symbols)))

  cells_old : (i x : ℕ) → i < count b → cells stored i x ≡ cells (symbols_in b.rows) i x
  cells_old i x h =
      ap (λ rs. cells rs i x) (map-set (λ r. r.symbols) b.rows (count b) r)
      ∙ cells_set_other (symbols_in b.rows) (count b) new i x (omega arith)

  pivot_new : word listed (count b) ≡ p
  pivot_new =
      ap (λ ps. word ps (count b)) (map-set (λ r. r.place) b.rows (count b) r)
      ∙ get_or-set_same (places_in b.rows) (count b) p 0 (let c = below_24 in let d = tall in omega (arith, length-map b.rows (λ r. r.place)))

  pivot_old : (i : ℕ) → i < count b → word listed i ≡ pivots_of b i
  pivot_old i h =
      ap (λ ps. word ps i) (map-set (λ r. r.place) b.rows (count b) r)
      ∙ get_or-set_other (places_in b.rows) (count b) i p 0 (omega arith)

  pub stored_inside : (i : ℕ) → i < count b + 1 → word listed i < size b
  stored_inside i h = elim (cases_eq i (count b)) [
    | inl e ↦ rw (ap (word listed) e ∙ pivot_new) pivot_inside
    | inr n ↦ rw (pivot_old i (omega arith)) (b.inside i (omega arith))
  ]

  pub stored_own : (i : ℕ) → i < count b + 1 → cells stored i (word listed i) ≡ 1
  stored_own i h = elim (cases_eq i (count b)) [
    | inl e ↦ ap (λ x. cells stored x (word listed x)) e ∙ ap (cells stored (count b)) pivot_new
        ∙ cells_new p ∙ is p ∙ l.product_comm _ _ (l.inverse_symbol _ (remainder.symbols p)) (remainder.symbols p) ∙ l.product_inverse _ (remainder.symbols p) some
    | inr n ↦ let g : i < count b = omega arith in ap (cells stored i) (pivot_old i g) ∙ cells_old i _ g ∙ b.own i g
  ]

  pub stored_cleared : (i j : ℕ) → j < i → i < count b + 1 → cells stored i (word listed j) ≡ 0
  stored_cleared i j a h = let c : j < count b = omega arith in elim (cases_eq i (count b)) [
    | inl e ↦ ap (λ x. cells stored x (word listed j)) e ∙ ap (cells stored (count b)) (pivot_old j c)
        ∙ cells_new _ ∙ is _ ∙ ap (f.product (f.inverse (v p))) (remainder.zeros j c) ∙ by_zero f l _
    | inr n ↦ let g : i < count b = omega arith in ap (cells stored i) (pivot_old j c) ∙ cells_old i _ g ∙ b.cleared i j (a, g)
  ]

  pub stored_ends : (i x : ℕ) → i < count b + 1 → size b ≤ x → cells stored i x ≡ 0
  stored_ends i x h g = elim (cases_eq i (count b)) [
    | inl e ↦ ap (λ y. cells stored y x) e ∙ cells_new x ∙ new_past x g
    | inr n ↦ cells_old i x (omega arith) ∙ b.ends i x (omega arith, g)
  ]

  -- what it spans
  pub stored_old : (i x : ℕ) → i < count b → symbol_cells f stored i x ≡ rows_of f b i x
  stored_old i x h = ap (symbol f) (cells_old i x h)

  pub stored_span : SameSpan f (count b + 1) (symbol_cells f stored) (count b + 1) (with_row (rows_of f b) (count b) w)
  stored_span =
      grown_span f l (rows_of f b) (symbols_of f l b) (pivots_of b) w symbols (count b) (triangular f l b) v remainder p some
      (symbol_cells f stored) (word listed) stored_old
      (λ x. ap (symbol f) (cells_new x) ∙ symbol_is f _ (new_symbols x) ∙ is x)
      pivot_old pivot_new (symbol_rows f l stored)

  pub not_spanned : Span f (count b) (rows_of f b) w → ⊥
  not_spanned s = some (zero_from_spanned f l (rows_of f b) (symbols_of f l b) (pivots_of b) w symbols (count b) (triangular f l b) v remainder s p)
