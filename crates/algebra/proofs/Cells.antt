-- Lists of rows by their cells.
use Rattle.std.proofs.Common.{◌≡◌, ℕ, zero, suc, ◌<◌, ◌≤◌, List, [], length, get_or, set, replicate, sym, refl, ap, ◌∙◌, inl, inr, arith}
use Rattle.std.proofs.lemmas.List.{get_or-set_same, get_or-set_other, get_or_past}
use Rattle.std.proofs.lemmas.Bool.{cases_lt}
use Rattle.field.specs.Field.{Ops, Laws}
use Rattle.algebra.specs.Words.{word, symbol, cells, symbol_cells, SymbolRows}
use Rattle.algebra.proofs.Symbols.{symbol_below, symbol_is, symbol_none, zero_symbol}
use Rattle.algebra.proofs.Totals.{product_zero}

pub cells_set_same : (rows : List (List ℕ)) (i : ℕ) (r : List ℕ) (k : ℕ) → i < length rows → cells (set rows i r) i k ≡ word r k
cells_set_same rows i r k h = ap (λ x. get_or x k 0) (get_or-set_same rows i r [] h)

pub cells_set_other : (rows : List (List ℕ)) (i : ℕ) (r : List ℕ) (h k : ℕ) → (h ≡ i → ⊥) → cells (set rows i r) h k ≡ cells rows h k
cells_set_other rows i r h k n = ap (λ x. get_or x k 0) (get_or-set_other rows i h r [] n)

pub zeros_at : (m k : ℕ) → word (replicate m 0) k ≡ 0
zeros_at zero k = refl
zeros_at (suc m) zero = refl
zeros_at (suc m) (suc k) = zeros_at m k

-- a table of 0s
pub blank_cells : (n m i k : ℕ) → cells (replicate n (replicate m 0)) i k ≡ 0
blank_cells zero m i k = refl
blank_cells (suc n) m zero k = zeros_at m k
blank_cells (suc n) m (suc i) k = blank_cells n m i k

-- past the places of every row there is 0
pub cells_past : (rows : List (List ℕ)) (n : ℕ) → ((i : ℕ) → i < length rows → length (get_or rows i []) ≡ n) → (i k : ℕ) → n ≤ k → cells rows i k ≡ 0
cells_past rows n told i k h = elim (cases_lt i (length rows)) [
  | inl b ↦ let e = told i b in get_or_past (get_or rows i []) k 0 (omega arith)
  | inr b ↦ ap (λ r. get_or r k 0) (get_or_past rows i [] b)
]

module _ (f : Ops) (l : Laws f) where
  pub by_zero : (c : ℕ) → f.product c 0 ≡ 0
  by_zero c = elim (cases_lt c f.order) [ inl h ↦ product_zero f l c h | inr h ↦ l.product_left_none c 0 h ]

  -- every product is a symbol
  pub product_closed : (a b : ℕ) → f.product a b < f.order
  product_closed a b = elim (cases_lt a f.order) [
    | inl h ↦ elim (cases_lt b f.order) [ inl k ↦ l.product_symbol a b h k | inr k ↦ rw (l.product_right_none a b k) (zero_symbol l) ]
    | inr h ↦ rw (l.product_left_none a b h) (zero_symbol l)
  ]

  -- in a product a number acts as the symbol that it counts as
  pub product_as_symbol : (c x : ℕ) → f.product c (symbol f x) ≡ f.product c x
  product_as_symbol c x = elim (cases_lt x f.order) [
    | inl h ↦ ap (f.product c) (symbol_is f x h)
    | inr h ↦ ap (f.product c) (symbol_none f x h) ∙ by_zero c ∙ sym (l.product_right_none c x h)
  ]

  pub symbol_rows : (rows : List (List ℕ)) → SymbolRows f (symbol_cells f rows)
  symbol_rows rows i k = symbol_below f l (cells rows i k)

  -- a law of places that holds up to the end of a row holds past it too
  pub scaled_all : (xs ys : List ℕ) (c : ℕ) → c < f.order → length ys ≡ length xs → ((k : ℕ) → k < length xs → word ys k ≡ f.product c (word xs k)) → (k : ℕ) → word ys k ≡ f.product c (word xs k)
  scaled_all xs ys c hc e z k = elim (cases_lt k (length xs)) [
    | inl h ↦ z k h
    | inr h ↦ get_or_past ys k 0 (omega arith) ∙ sym (ap (f.product c) (get_or_past xs k 0 h) ∙ product_zero f l c hc)
  ]

  pub added_all : (xs ys by : List ℕ) (c : ℕ) → c < f.order → length ys ≡ length xs → length by ≤ length xs
      → ((k : ℕ) → k < length xs → word ys k ≡ f.sum (word xs k) (f.product c (word by k))) → (k : ℕ) → word ys k ≡ f.sum (word xs k) (f.product c (word by k))
  added_all xs ys by c hc e b z k = elim (cases_lt k (length xs)) [
    | inl h ↦ z k h
    | inr h ↦ get_or_past ys k 0 (omega arith)
        ∙ sym (ap (λ x. f.sum x (f.product c (word by k))) (get_or_past xs k 0 h) ∙ ap (λ x. f.sum 0 (f.product c x)) (get_or_past by k 0 (omega arith)) ∙ ap (f.sum 0) (product_zero f l c hc) ∙ l.sum_zero 0 (zero_symbol l))
  ]
