-- A table of least costs that is filled from the last place back.
use Rattle.std.proofs.Common.{◌≡◌, ℕ, suc, ◌+◌, ◌-◌, ◌*◌, ◌<◌, ◌≤◌, List, get_or, ap, subst, ⊎_elim, mul-le-mul_right, add-mul, zero-mul, arith}
use Rattle.std.proofs.lemmas.Bool.{cases_eq}
use Rattle.least.specs.Paths.{Trellis}
use Rattle.least.specs.Least.{best}
use Rattle.least.specs.Tables.{Row, Table, reached}
use Rattle.least.proofs.Choosing.{best_of_same}
use Rattle.least.proofs.Recursion.{best_bound}

module _ (t : Trellis) where
  -- what a row says of the row before it
  pub row_step : (n k i s a b : ℕ) (words : List ℕ) → Row t k (i + 1) n a b words → ((x : ℕ) → t.next i s x < n) → reached t words a b i s t.symbols ≡ best t (suc k) i s
  row_step n k i s a b words done stays =
      best_of_same _ _ _ _ t.symbols
      (λ x h. ap (λ c. t.cost i x + c) (done.costs (t.next i s x) (stays x)))
      (λ x h. done.ways (t.next i s x) (stays x))

  pub row_bound : (n k i a b : ℕ) (words : List ℕ) → ((i x : ℕ) → t.cost i x ≤ 65535) → k ≤ 24 → Row t k i n a b words → (s : ℕ) → s < n → get_or words (a + s) 0 ≤ 1572840
  row_bound n k i a b words each small done s h = omega (arith, done.costs s h, best_bound t each k i s)

  -- one row more of a table
  pub table_more : (m n from : ℕ) (words : List ℕ) → Table t m n (from + 1) words → Row t (n - from) from m (from * (m + m)) (from * (m + m) + m) words → Table t m n from words
  table_more m n from words table row = record {
    rows = λ i lo hi. ⊎_elim
        (λ e. subst (λ j. Row t (n - j) j m (j * (m + m)) (j * (m + m) + m) words) e row)
        (λ ne. table.rows i (omega (arith, ne)) hi) (cases_eq from i);
  }

  -- the row of the place after p
  pub next_row : (m n p : ℕ) (words : List ℕ) → p < n → Table t m n (p + 1) words → Row t (n - (p + 1)) (p + 1) m (p * (m + m) + m + m) (p * (m + m) + m + m + m) words
  next_row m n p words lt table =
      let e : (p + 1) * (m + m) ≡ p * (m + m) + m + m = omega (arith, add-mul p 1 (m + m)) in
      subst (λ a. Row t (n - (p + 1)) (p + 1) m a (a + m) words) e (table.rows (p + 1) (omega arith) (omega arith))

  pub table_from : (m n a b : ℕ) (words : List ℕ) → a ≤ b → Table t m n a words → Table t m n b words
  table_from m n a b words le table = record { rows = λ i lo hi. table.rows i (omega arith) hi }

  -- the first row's words for the state 0 are of all words
  pub table_start : (m n : ℕ) (words : List ℕ) → 0 < m → Table t m n 0 words → (get_or words 0 0 ≡ (best t n 0 0).0) × (get_or words m 0 ≡ (best t n 0 0).1)
  table_start m n words some table =
      let row = table.rows 0 (omega arith) (omega arith) in
      let a : 0 * (m + m) + 0 ≡ 0 = omega (arith, zero-mul (m + m)) in
      let b : 0 * (m + m) + m + 0 ≡ m = omega (arith, zero-mul (m + m)) in
      let z : n - 0 ≡ n = omega arith in
      (rw (a, z) at (row.costs 0 some), rw (b, z) at (row.ways 0 some))

-- a place before the last has its row and the next within the table
pub rows_fit : (p n r len : ℕ) → p < n → (n + 1) * r ≤ len → p * r + (r + r) ≤ len
rows_fit p n r len lt e =
    let up : (p + 2) * r ≤ (n + 1) * r = mul-le-mul_right r (omega arith) in
    omega (arith, add-mul p 2 r)
