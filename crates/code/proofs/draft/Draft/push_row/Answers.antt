use Rattle.std.proofs.Common.{◌≡◌, ℕ, ◌+◌, ◌<◌, length, get_or, Some, Ok, Err, Result, sym, refl, ap, ◌∙◌, subst, inl, inr, rules}
use Rattle.basis.specs.declared.Basis.{Basis}
use Rattle.basis.specs.Parts as Bases
use Rattle.refusal.specs.declared.Refusal.{Refusal}
use Rattle.refusal.specs.declared.Refusal.TheVariants.{Dependent}
use Rattle.code.specs.Drafts.{Holds, RowPushed, after_push, Turns}
use Rattle.code.proofs.Holding.{dependent_from, dependent_to, holds_push}
use Rattle.code.proofs.Leading.{push_goes_on, tells_dependence}
use Rattle.code.proofs.draft.Draft.push_row.Goals as goal

pub returns-in_err-check_word-clause-follows : goal.returns-in_err-check_word-clause-follows
returns-in_err-check_word-clause-follows g c = push_goes_on _ _ _ _ c.from_residual.result (search rules)

pub returns-in_err-check_word-clause-dependent : goal.returns-in_err-check_word-clause-dependent
returns-in_err-check_word-clause-dependent g c = tells_dependence _ _ _ c.args.self.now.basis _ (search rules)

pub returns-then-extend : goal.returns-then-extend
returns-then-extend g c =
    let f = g.F.Field.ops in
    let l = g.F.Field.laws in
    let b = c.args.self.now.basis in
    let w = c.args.row.now in
    let word = c.in_ok-check_word.ensures in
    let good : (k : ℕ) → k < length w → get_or w k 0 < f.order = word.1.1.1 in
    let o = c.if-extend.ensures in
    let told : Turns f b (λ s. RowPushed f s w) (λ s. after_push s w) (Ok c.count.result) c.extend.new.self = λ s h.
    let long : length w ≡ s.size = word.1.1.0 ∙ c.length.ensures ∙ h.long in (
      ((λ n. n long), (word.1.0, ((λ d. o.0 (dependent_to f l b s h w long good d)), c.count.ensures ∙ o.2 ∙ ap (λ (x : ℕ). x + 1) h.all))),
      holds_push f l b s h w long good c.extend.new.self o,
    ) in
    record {
      told = told;
      follows = push_goes_on f w b c.extend.new.self (Ok c.count.result) told;
      dependent = tells_dependence f w b c.extend.new.self (Ok c.count.result) told;
      kept = tt;
    }

pub returns-else-extend : goal.returns-else-extend
returns-else-extend g c =
    let f = g.F.Field.ops in
    let l = g.F.Field.laws in
    let b = c.args.self.now.basis in
    let w = c.args.row.now in
    let word = c.in_ok-check_word.ensures in
    let good : (k : ℕ) → k < length w → get_or w k 0 < f.order = word.1.1.1 in
    let o = c.if-extend.ensures in
    let e : Result ℕ Refusal = Err (Dependent c.count-else-extend.result) in
    let told : Turns f b (λ s. RowPushed f s w) (λ s. after_push s w) e c.extend.new.self = λ s h.
    let long : length w ≡ s.size = word.1.1.0 ∙ c.length.ensures ∙ h.long in (
      inr (
        (λ n. n long),
        inr (
          word.1.0,
          inl (dependent_from f l b s h w long good o.0, refl, ap Some (c.count-else-extend.ensures ∙ ap Bases.count o.1 ∙ h.all)),
        ),
      ),
      subst (λ (x : Basis). Holds f x s) (sym o.1) h,
    ) in
    record {
      told = told;
      follows = push_goes_on f w b c.extend.new.self e told;
      dependent = tells_dependence f w b c.extend.new.self e told;
      kept = ap (λ (x : Basis). record { basis = x; field = c.args.self.now.field }) o.1;
    }
