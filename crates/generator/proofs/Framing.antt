-- From the reduction of framed rows to a generator.
use Rattle.std.proofs.Common.{◌≡◌, ℕ, ◌<◌, ◌≤◌, List, [], length, sym, ap, ◌∙◌, subst, inl, inr, arith}
use Rattle.std.proofs.lemmas.List.{get_or_past}
use Rattle.std.proofs.lemmas.Bool.{cases_lt}
use Rattle.field.specs.Field.{Ops, Laws}
use Rattle.algebra.specs.Words.{word, cells, symbol, symbol_cells, cut}
use Rattle.algebra.specs.Reduced.{ReducedForm}
use Rattle.algebra.specs.Elimination.{Reduction}
use Rattle.algebra.proofs.Symbols.{symbol_is, symbol_zero}
use Rattle.algebra.proofs.Cells.{symbol_rows}
use Rattle.algebra.proofs.Cuts.{cut_past, cut_symbols}
use Rattle.algebra.proofs.Spans.{span_row}
use Rattle.algebra.proofs.Growing.{same_rows}
use Rattle.algebra.proofs.Elimination.{same_trans}
use Rattle.algebra.proofs.Forms.{zero_place, places_fit, form_of}

-- a reduction of rows, whose symbols and places stand elsewhere too
pub reduction_kept : (f : Ops) → Laws f → (n m j : ℕ) (start rs ss : ℕ → ℕ → ℕ) (rank : ℕ) (at bt : ℕ → ℕ) → m ≡ j → ((i p : ℕ) → ss i p ≡ rs i p) → ((i : ℕ) → i < rank → bt i ≡ at i)
    → Reduction f n m start rs rank at → Reduction f n j start ss rank bt
reduction_kept f l n m j start rs ss rank at bt e same placed r =
    let sys = r.form.reduced.systematic in
    subst (λ (x : ℕ). Reduction f n x start ss rank bt) e
    record {
      ranked = r.ranked;
      symbols = λ i p. rw (same i p) (r.symbols i p);
      form = record {
        span = same_trans f m rank rank start rs ss r.form.span (same_rows f l rank rs ss (λ i p h. sym (same i p)));
        reduced = record {
          systematic = record {
            ascends = λ i j h b. rw (placed i (omega arith), placed j b) (sys.ascends i j h b);
            own = λ i h. same i (bt i) ∙ ap (rs i) (placed i h) ∙ sys.own i h;
            others = λ i j h b x. same i (bt j) ∙ ap (rs i) (placed j b) ∙ sys.others i j h b x;
          };
          leading = record { before = λ i p h b. same i p ∙ r.form.reduced.leading.before i p h (rw (placed i h) at b) };
        };
      };
      within = λ i h. rw (placed i h) (r.within i h);
      rest = λ i p h b. same i p ∙ r.rest i p h b;
    }

-- `start` are the first n places of the first `count` of the rows old, framed by 0s, and `rows` is their reduction
module _ (f : Ops) (l : Laws f) (count n : ℕ) (few : count ≤ 24) (old start rows : List (List ℕ)) (rank : ℕ) (at : ℕ → ℕ) (tall : length rows ≡ 24)
    (inner : (i p : ℕ) → i < count → cells start i p ≡ cut f n (cells old i) p) (below : (i p : ℕ) → count ≤ i → cells start i p ≡ 0)
    (done : Reduction f 24 24 (symbol_cells f start) (cells rows) rank at) where
  start_past : (i p : ℕ) → n ≤ p → symbol_cells f start i p ≡ 0
  start_past i p h =
      ap (symbol f) (elim (cases_lt i count) [ inl b ↦ inner i p b ∙ cut_past f n (cells old i) p h | inr b ↦ below i p b ]) ∙ symbol_zero f l

  pub rows_end : (i p : ℕ) → n ≤ p → cells rows i p ≡ 0
  rows_end i p h = elim (cases_lt i 24) [
    | inl b ↦ elim (cases_lt i rank) [
      | inl c ↦ zero_place f l 24 (symbol_cells f start) p (λ j _. start_past j p h) (cells rows i) (done.form.span.back (cells rows i) (span_row f l rank (cells rows) done.symbols i c))
      | inr c ↦ done.rest i p b c
    ]
    | inr b ↦ ap (λ r. word r p) (get_or_past rows i [] (omega arith))
  ]

  pub places_inside : (i : ℕ) → i < rank → at i < n
  places_inside i h = elim (cases_lt (at i) n) [
    | inl b ↦ b
    | inr b ↦ let one = done.form.reduced.systematic.own i h in let none = rows_end i (at i) b in absurd (omega arith)
  ]

  pub rank_fits : rank ≤ n
  rank_fits = places_fit rank n at done.form.reduced.systematic.ascends places_inside

  pub framed_form : ReducedForm f count (λ i. cut f n (cells old i)) rank (symbol_cells f rows) at
  framed_form =
      form_of f l count 24 (λ i. cut f n (cells old i)) (symbol_cells f start) (cells rows) (symbol_cells f rows) rank at
      (λ i. cut_symbols f l n (cells old i)) (symbol_rows f l start) few
      (λ i p h. sym (ap (symbol f) (inner i p h) ∙ symbol_is f _ (cut_symbols f l n (cells old i) p)))
      (λ i p h b. ap (symbol f) (below i p h) ∙ symbol_zero f l)
      (λ i p. sym (symbol_is f _ (done.symbols i p)))
      done.form
