use Rattle.std.proofs.lemmas.Bool.{cases_lt}
use Rattle.std.proofs.Common.{inl, inr, ◌≤◌, ◌≡◌, ℕ, ◌<◌, [], length, get_or, take, sym, ap, ◌∙◌, ap₂, arith}
use Rattle.std.proofs.lemmas.List.{get_or_past, length-take}
use Rattle.algebra.specs.Words.{word, cut}
use Rattle.algebra.proofs.Totals.{product_zero}
use Rattle.algebra.proofs.Symbols.{zero_symbol}
use Rattle.algebra.proofs.Cells.{product_as_symbol}
use Rattle.algebra.proofs.Cuts.{cut_symbols, cut_past, cut_everywhere}
use Rattle.algebra.proofs.Growing.{remainder_none, remainder_more}
use Rattle.linear.specs.Rows.{symbols}
use Rattle.linear.proofs.Taken.{taken_symbols, taken_place}
use Rattle.basis.specs.Parts.{size, count, rows_of, pivots_of}
use Rattle.basis.proofs.Triangles.{symbols_of, triangular, ends}
use Rattle.basis.proofs.Basis.remainder.Goals as goal

pub loop-row-init : goal.loop-row-init
loop-row-init g c =
    let f = g.F.Field.ops in
    let l = g.F.Field.laws in
    let s = c.args.self.now in
    let w : ℕ → ℕ = cut f (size s) (word c.args.word.now) in
    let is : (k : ℕ) → word c.cut-rest.result k ≡ w k =
    cut_everywhere f (size s) 24 (word c.args.word.now) c.cut-rest.result s.short (search arith) c.cut-rest.ensures in (
      remainder_none f l (rows_of f s) (symbols_of f l s) (pivots_of s) w (cut_symbols f l (size s) (word c.args.word.now)) (word c.cut-rest.result) is,
      (λ p h. is p ∙ cut_past f (size s) (word c.args.word.now) p h),
    )

pub bounds-rest-row : goal.bounds-rest-row
bounds-rest-row g c =
    let s = c.args.self.now in
    let i = c.loop-row.row-index in
    let held : i < length (take s.k s.rows) = c.loop-row-test.true in
    let here : i < count s = omega (arith, length-take s.k s.rows) in
    let low = s.inside i here in
    let short = s.short in
    rw (taken_place s.rows s.k i) (omega arith)

pub loop-row-preserved : goal.loop-row-preserved
loop-row-preserved g c =
    let f = g.F.Field.ops in
    let l = g.F.Field.laws in
    let s = c.args.self.now in
    let i = c.loop-row.row-index in
    let rs = rows_of f s in
    let at = pivots_of s in
    let w : ℕ → ℕ = cut f (size s) (word c.args.word.now) in
    let old = c.loop-row.rest in
    let new = c.add_multiple.new.row in
    let v = word old in
    let held : i < length (take s.k s.rows) = c.loop-row-test.true in
    let here : i < count s = omega (arith, length-take s.k s.rows) in
    let row = get_or (symbols s.rows) i [] in
    let by : ℕ → ℕ = word row in
    let x = c.negative-factor.result in
    let so = c.loop-row.invariant.0 in
    let factor : x ≡ f.negative (v (at i)) = rw (taken_place s.rows s.k i) at c.negative-factor.ensures in
    let negative : f.negative (v (at i)) < f.order = l.negative_symbol _ (so.symbols (at i)) in
    let past : (k : ℕ) → v k ≡ 0 → size s ≤ k → f.sum (v k) (f.product (f.negative (v (at i))) (rs i k)) ≡ 0 =
    λ k z h. ap₂ (λ a b. f.sum a (f.product (f.negative (v (at i))) b)) z (ends f l s i k here h) ∙ ap (f.sum 0) (product_zero f l _ negative) ∙ l.sum_zero 0 (zero_symbol l) in
    let is : (k : ℕ) → word new k ≡ f.sum (v k) (f.product (f.negative (v (at i))) (rs i k)) =
    λ k. elim (cases_lt k 24) [
      | inl b ↦ (rw (taken_symbols s.rows s.k i) at c.add_multiple.ensures) k (omega arith)
          ∙ ap (f.sum (v k)) (sym (product_as_symbol f l x (by k)) ∙ ap (λ y. f.product y (rs i k)) factor)
      | inr b ↦ get_or_past new k 0 (omega arith) ∙ sym (past k (get_or_past old k 0 (omega arith)) (omega (arith, s.short)))
    ] in (
      remainder_more f l rs (symbols_of f l s) at w (cut_symbols f l (size s) (word c.args.word.now)) (count s) (triangular f l s) v (word new) i here so is,
      (λ p h. is p ∙ past p (c.loop-row.invariant.1 p h) h),
    )
