-- A fold over ascending numbers that adds what g gives of each.
use Rattle.std.proofs.Common.{◌≡◌, ℕ, zero, suc, ◌+◌, sym, ap, ◌∙◌, add-zero, arith}
use Rattle.std.specs.List.{fold, range_with_len}
use Rattle.field.specs.Field.{Ops}
use Rattle.algebra.specs.Words.{total}
use Rattle.algebra.proofs.Totals.{total_more}

pub fold_total : (f : Ops) (g : ℕ → ℕ) (n a : ℕ) → fold (λ s p. f.sum s (g p)) (total f g a) (range_with_len a n) ≡ total f g (a + n)
fold_total f g zero a = ap (total f g) (sym (add-zero a))
fold_total f g (suc n) a =
    ap (λ s. fold (λ s p. f.sum s (g p)) s (range_with_len (a + 1) n)) (sym (total_more f g a)) ∙ fold_total f g n (a + 1) ∙ ap (total f g) (omega arith)
