-- The rows of a table, each in its part of the words.
use Rattle.std.proofs.Common.{◌≡◌, ℕ, ◌+◌, ◌-◌, ◌*◌, ◌<◌, ◌≤◌, List, ◌++◌, length, get_or, take, drop, sym, refl, ap, ◌∙◌, subst, mul-le-mul_right, add-mul, zero-add, add_assoc, arith}
use Rattle.std.proofs.lemmas.List.{length-take, get_or-take, get_or-drop, get_or_append_left, get_or-append_right, get_or-append-add}
use borrow.Rule.Slice.PartMut.{put_mid}
use Rattle.least.specs.Paths.{Trellis}
use Rattle.least.specs.Tables.{Row, Table}
use Rattle.least.proofs.Recursion.{best_bound}
use Rattle.least.proofs.Rows.{table_more}
use Rattle.trellis.specs.Rows.{Holds, Filled}
use Rattle.trellis.proofs.Splicing.{part_at, put_long, put_in}
use Rattle.trellis.proofs.Choosing.{best_two}

-- the first half of a row
pub half_long : (m : ℕ) (words costs : List ℕ) → length words ≡ m + m → costs ≡ take m words → length costs ≡ m
half_long m words costs long e = ap length e ∙ simp length-take (omega arith)

module _ (t : Trellis) where
  -- what stands in a row, read off the part of the words that it fills
  pub row_of_part : (k i m a : ℕ) (words part : List ℕ) → ((s : ℕ) → s < m + m → get_or words (a + s) 0 ≡ get_or part s 0) → Filled t k i m part → Row t k i m a (a + m) words
  row_of_part k i m a words part same row = record {
    costs = λ s h. same s (omega arith) ∙ rw zero-add at (row.costs s h);
    ways = λ s h. rw (add_assoc) (same (m + s) (omega arith)) ∙ row.ways s h;
  }

  pub part_of_row : (k i m a : ℕ) (words part : List ℕ) → ((s : ℕ) → s < m + m → get_or part s 0 ≡ get_or words (a + s) 0) → Row t k i m a (a + m) words → Filled t k i m part
  part_of_row k i m a words part same row = record {
    costs = λ s h. rw zero-add (same s (omega arith) ∙ row.costs s h);
    ways = λ s h. same (m + s) (omega arith) ∙ rw (← add_assoc) (row.ways s h);
  }

  pub table_part : (m n from i a d : ℕ) (words : List ℕ) → Table t m n from words → from ≤ i → i ≤ n → a ≡ i * (m + m) → d ≡ m + m → Filled t (n - i) i m (take d (drop a words))
  table_part m n from i a d words table lo hi ea ed =
      rw (ea, ed) (part_of_row (n - i) i m (i * (m + m)) words _ (part_at (i * (m + m)) (m + m) words) (table.rows i lo hi))

  -- a row that is filled holds small costs, in two ways at most
  module _ (each : (i x : ℕ) → t.cost i x ≤ 65535) (k i m : ℕ) (short : k ≤ 24) (words : List ℕ) (row : Filled t k i m words) where
    pub filled_small : (s : ℕ) → s < m → get_or words s 0 ≤ 1572840
    filled_small s h = let is = rw zero-add at (row.costs s h) in omega (arith, is, best_bound t each k i s)

    pub filled_counted : (s : ℕ) → s < m → get_or words (m + s) 0 ≤ 2
    filled_counted s h = omega (arith, row.ways s h, best_two t k i s)

    pub filled_holds : (costs ways : List ℕ) → length words ≡ m + m → costs ≡ take m words → ways ≡ drop m words → Holds t k i costs ways
    filled_holds costs ways long ec ew =
        let count = half_long m words costs long ec in
        record {
          costs_are = λ s h. ap (λ w. get_or w s 0) ec ∙ get_or-take m words s 0 (omega arith) ∙ rw zero-add at (row.costs s (omega arith));
          ways_are = λ s h. ap (λ w. get_or w s 0) ew ∙ get_or-drop m words s 0 ∙ row.ways s (omega arith);
        }

  -- a table whose words are as they were
  table_same : (m n from : ℕ) (was is : List ℕ) → ((k : ℕ) → from * (m + m) ≤ k → get_or is k 0 ≡ get_or was k 0) → Table t m n from was → Table t m n from is
  table_same m n from was is kept table = record {
    rows = λ i lo hi.
        let up : from * (m + m) ≤ i * (m + m) = mul-le-mul_right (m + m) lo in
        record {
          costs = λ s h. kept _ (omega arith) ∙ (table.rows i lo hi).costs s h;
          ways = λ s h. kept _ (omega arith) ∙ (table.rows i lo hi).ways s h;
        };
  }

  -- a row more is filled, before those of the places after it
  pub table_row : (m n i : ℕ) (was is part : List ℕ) → Table t m n (i + 1) was → ((k : ℕ) → i * (m + m) + (m + m) ≤ k → get_or is k 0 ≡ get_or was k 0) → ((s : ℕ) → s < m + m → get_or is (i * (m + m) + s) 0 ≡ get_or part s 0) → Filled t (n - i) i m part → Table t m n i is
  table_row m n i was is part table kept same row =
      let up : (i + 1) * (m + m) ≡ i * (m + m) + (m + m) = omega (arith, add-mul i 1 (m + m)) in
      table_more t m n i is (table_same m n (i + 1) was is (λ k h. kept k (omega arith)) table) (row_of_part (n - i) i m (i * (m + m)) is part same row)

  module _ (m n i r : ℕ) (words before after : List ℕ) (two : r ≡ m + m) (value : words ≡ before ++ after) (long : length before ≡ i * r + r) where
    -- the row of the place after stands at the head of the words that are after those of the place
    pub next_filled : i < n → r ≤ length after → Table t m n (i + 1) words → Filled t (n - (i + 1)) (i + 1) m (take r after)
    next_filled inside room table =
        let up : (i + 1) * (m + m) ≡ length before = omega (arith, add-mul i 1 (m + m), ap (λ k. i * k) two) in
        part_of_row (n - (i + 1)) (i + 1) m ((i + 1) * (m + m)) words (take r after)
        (λ s h. get_or-take r after s 0 (omega arith) ∙ sym (ap (λ w. get_or w ((i + 1) * (m + m) + s) 0) value ∙ ap (λ k. get_or (before ++ after) (k + s) 0) up ∙ get_or-append-add before after s 0))
        (table.rows (i + 1) (omega arith) (omega arith))

    -- the row of the place is written before them
    pub place_filled : (new : List ℕ) → length new ≡ length before - i * r → Table t m n (i + 1) words → Filled t (n - i) i m new → Table t m n i (put_mid (i * r) (length before - i * r) before new ++ after)
    place_filled new short table row =
        let part = put_mid (i * r) (length before - i * r) before new in
        let same : i * r ≡ i * (m + m) = ap (λ k. i * k) two in
        let whole : length part ≡ length before = put_long (i * r) (length before - i * r) before new (omega arith) short in
        table_row m n i words (part ++ after) new table
        (λ k h. get_or-append_right part after (length before) k 0 whole (omega arith) ∙ sym (ap (λ w. get_or w k 0) value ∙ get_or-append_right before after (length before) k 0 refl (omega arith)))
        (λ s h. get_or_append_left part after 0 (i * (m + m) + s) (omega arith) ∙ ap (λ k. get_or part (k + s) 0) (sym same) ∙ put_in (i * r) (length before - i * r) before new (omega arith) short s (omega arith))
        row

  -- a table of the last row alone
  pub last_table : (m n a k : ℕ) (words new : List ℕ) → a ≡ n * (m + m) → k ≡ m + m → a + k ≤ length words → length new ≡ k → Filled t 0 n m new → Table t m n n (put_mid a k words new)
  last_table m n a k words new ea ek room long row = record {
    rows = λ i lo hi.
        let last : n ≡ i = omega arith in
        let none : 0 ≡ n - n = omega arith in
        subst (λ j. Row t (n - j) j m (j * (m + m)) (j * (m + m) + m) (put_mid a k words new)) last
        (subst (λ z. Row t z n m (n * (m + m)) (n * (m + m) + m) (put_mid a k words new)) none
        (row_of_part 0 n m (n * (m + m)) (put_mid a k words new) new (λ s h. ap (λ b. get_or (put_mid a k words new) (b + s) 0) (sym ea) ∙ put_in a k words new room long s (omega arith)) row));
  }
