use Rattle.std.proofs.Common.{◌≡◌, ℕ, ◌+◌, length, Ok, Err, sym, refl, ap, ◌∙◌, subst, inl, arith}
use Rattle.std.proofs.lemmas.List.{nil_from_length}
use Rattle.basis.specs.declared.Basis.{Basis}
use Rattle.refusal.specs.declared.Refusal.TheVariants.{NoRow}
use Rattle.code.specs.Drafts.{Holds, RowPopped, after_pop, Turns}
use Rattle.code.proofs.Holding.{holds_pop}
use Rattle.code.proofs.Leading.{pop_goes_on}
use Rattle.code.proofs.draft.Draft.pop_row.Goals as goal

pub returns-then-shorten : goal.returns-then-shorten
returns-then-shorten g c =
    let b = c.args.self.now.basis in
    let d = c.shorten.new.self in
    let o = c.if-shorten.ensures in
    let told : Turns g.F.Field.ops b RowPopped after_pop (Ok c.count.result) d = λ s h.
    let n : c.count.result + 1 ≡ length s.rows = ap (λ (x : ℕ). x + 1) c.count.ensures ∙ sym o.0 ∙ h.all in (
      ((λ e. let z = ap length e in absurd (omega arith)), n),
      holds_pop g.F.Field.ops g.F.Field.laws b s h d o,
    ) in
    record { told = told; follows = pop_goes_on g.F.Field.ops b d (Ok c.count.result) told; kept = tt }

pub returns-else-shorten : goal.returns-else-shorten
returns-else-shorten g c =
    let b = c.args.self.now.basis in
    let d = c.shorten.new.self in
    let o = c.if-shorten.ensures in
    let told : Turns g.F.Field.ops b RowPopped after_pop (Err NoRow) d =
    λ s h. (inl (nil_from_length s.rows (sym h.all ∙ o.0), refl, refl), subst (λ (x : Basis). Holds g.F.Field.ops x s) (sym o.1) h) in
    record {
      told = told;
      follows = pop_goes_on g.F.Field.ops b d (Err NoRow) told;
      kept = ap (λ (x : Basis). record { basis = x; field = c.args.self.now.field }) o.1;
    }
