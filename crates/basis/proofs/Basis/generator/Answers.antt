use Rattle.std.proofs.Common.{◌≡◌, ℕ, ◌<◌, List, [], ap, rules, min, sym, ◌∙◌, subst, inl, inr, arith}
use Rattle.std.proofs.lemmas.Bool.{cases_lt}
use Rattle.std.proofs.lemmas.List.{get_or-map}
use Rattle.algebra.specs.Words.{word, cells, symbol, cut}
use Rattle.algebra.specs.Reduced.{ReducedForm}
use Rattle.algebra.proofs.Cuts.{cut_inside, cut_past}
use Rattle.algebra.proofs.Forms.{form_same, form_count, only_form, first_place}
use Rattle.linear.proofs.Taken.{blank}
use Rattle.linear.specs.Rows.{symbols}
use Rattle.linear.proofs.Made.{mapped_at}
use Rattle.basis.specs.Parts.{size, count, rows_of, pivots_of}
use Rattle.basis.proofs.Triangles.{symbols_of, triangular, ends}
use Rattle.generator.specs.Parts as Generators
use Rattle.generator.proofs.Systematics as Systematics
use Rattle.basis.proofs.Basis.generator.Goals as goal

pub returns : goal.returns
returns g c =
    let f = g.F.Field.ops in
    let l = g.F.Field.laws in
    let s = c.args.self.now in
    let r = c.of_rows.result in
    let table : List (List ℕ) = c.map-table.result in
    let same : (i p : ℕ) → i < count s → cells table i p ≡ cells (symbols s.rows) i p =
    λ i p h. let b = s.few in let d = s.short in
    ap (λ r. word r p) (mapped_at _ _ (λ r. r.symbols) (λ x y q k. search rules) s.rows table 24 c.map-table.ensures.items i blank [] (omega arith) ∙ sym (get_or-map (λ r. r.symbols) s.rows i blank [] (omega arith))) in
    let n : size s ≡ min (size s) 24 = let a = s.short in omega arith in
    let k : min (count s) 24 ≡ count s = let a = s.few in let b = s.short in omega arith in
    let m : ℕ = Generators.dimension r in
    let ss : ℕ → ℕ → ℕ = Generators.rows_of f r in
    let at : ℕ → ℕ = Generators.places_of r in
    let cutform : ReducedForm f (count s) (λ i. cut f (size s) (cells table i)) m ss at =
    subst (λ (x : ℕ). ReducedForm f (count s) (λ i. cut f x (cells table i)) m ss at) (sym n)
    (subst (λ (x : ℕ). ReducedForm f x (λ i. cut f (min (size s) 24) (cells table i)) m ss at) k c.of_rows.ensures.form) in
    let form : ReducedForm f (count s) (rows_of f s) m ss at =
    form_same f l (count s) m (λ i. cut f (size s) (cells table i)) (rows_of f s) ss at
    (λ i p h. elim (cases_lt p (size s)) [
      | inl b ↦ sym (cut_inside f (size s) (cells table i) p b ∙ ap (symbol f) (same i p h))
      | inr b ↦ ends f l s i p h b ∙ sym (cut_past f (size s) (cells table i) p b)
    ]) cutform in
    record {
      long = c.of_rows.ensures.long ∙ sym n;
      all = form_count f l (count s) m (rows_of f s) ss (pivots_of s) at (symbols_of f l s) (Systematics.symbols_of f l r) (triangular f l s) form;
      form = form;
      only = only_form f l (count s) (rows_of f s) (symbols_of f l s) m ss (Systematics.symbols_of f l r) at form;
      first = first_place f l (count s) (rows_of f s) (symbols_of f l s) m ss (Systematics.symbols_of f l r) at form;
    }
