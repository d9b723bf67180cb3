-- The loop that makes a place 0 in every row but one.
use Rattle.std.proofs.Common.{◌≡◌, ℕ, ◌+◌, ◌<◌, ◌≤◌, List, [], length, get_or, set, sym, ◌∙◌, inl, inr, arith}
use Rattle.std.proofs.lemmas.List.{get_or-set_other}
use Rattle.std.proofs.lemmas.Bool.{cases_eq}
use Rattle.field.specs.Field.{Ops}
use Rattle.algebra.specs.Words.{word, cells}
use Rattle.algebra.proofs.Cells.{cells_set_same, cells_set_other}

-- the rows before h are cleared, the row i and those from h on are as they were
pub record Clearing (f : Ops) (old rows : List (List ℕ)) (i p h : ℕ) : Type 0 where
  pub kept : (k : ℕ) → cells rows i k ≡ cells old i k
  pub done : (j k : ℕ) → j < h → (j ≡ i → ⊥) → cells rows j k ≡ f.sum (cells old j k) (f.product (f.negative (cells old j p)) (cells old i k))
  pub rest : (j : ℕ) → h ≤ j → get_or rows j [] ≡ get_or old j []

module _ (f : Ops) (old rows : List (List ℕ)) (i p h : ℕ) (inv : Clearing f old rows i p h) where
  pub clearing_skip : h ≡ i → Clearing f old rows i p (h + 1)
  clearing_skip e = record {
    kept = inv.kept;
    done = λ j k b n. inv.done j k (omega arith) n;
    rest = λ j b. inv.rest j (omega arith);
  }

  pub clearing_more : (new : List ℕ) → (h ≡ i → ⊥) → h < length rows → ((k : ℕ) → word new k ≡ f.sum (cells old h k) (f.product (f.negative (cells old h p)) (cells old i k)))
      → Clearing f old (set rows h new) i p (h + 1)
  clearing_more new n b is = record {
    kept = λ k. cells_set_other rows h new i k (λ q. n (sym q)) ∙ inv.kept k;
    done = λ j k x y. elim (cases_eq j h) [
      | inl q ↦ rw q (cells_set_same rows h new k b ∙ is k)
      | inr q ↦ cells_set_other rows h new j k q ∙ inv.done j k (omega arith) y
    ];
    rest = λ j x. get_or-set_other rows h j new [] (λ q. let z = q in omega arith) ∙ inv.rest j (omega arith);
  }
