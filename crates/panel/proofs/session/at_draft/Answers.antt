use Rattle.std.proofs.Common.{◌≡◌, ℕ, List, Some, Ok, Option, Result, sym, refl, ap, subst, rules}
use Rattle.refusal.specs.declared.Refusal.{Refusal}
use Rattle.code.specs.Views.{basis_of}
use Rattle.code.specs.Drafts.{RowPushed, after_push, Turns}
use Rattle.notation.specs.declared.command.Command.{Command}
use Rattle.panel.specs.declared.session.Stage.TheVariants.{Open, Sealed}
use Rattle.panel.specs.declared.replies.Reply.{Reply}
use Rattle.panel.specs.declared.replies.Reply.TheVariants.{Number}
use Rattle.panel.specs.Calls.{replied}
use Rattle.panel.specs.Replies.{AtDraft}
use Rattle.panel.proofs.session.at_draft.Goals as goal

pub returns-in-Row : goal.returns-in-Row
returns-in-Row g c =
    let f = g.F.Field.ops in
    let d = c.args.draft in
    let e = c.push_row-rows.new.self in
    let a = c.push_row-rows.result in
    let number : c.map.result ≡ replied Number a = search rules in
    let W : List ℕ → Type 0 = λ w. Turns f (basis_of d) (λ s. RowPushed f s w) (λ s. after_push s w) a (basis_of e) in
    let P : Command → Type 0 = λ k. AtDraft f d k (Open e) (Some c.map.result) in
    subst P (sym c.in-Row.is) (e, a, refl, ap (λ (r : Result Reply Refusal). Some r) number, subst W c.symbols.ensures.value c.push_row-rows.ensures.told)

pub returns-in-Back : goal.returns-in-Back
returns-in-Back g c =
    let f = g.F.Field.ops in
    let e = c.pop_row-rows.new.self in
    let a = c.pop_row-rows.result in
    let number : c.map-in-Back.result ≡ replied Number a = search rules in
    let P : Command → Type 0 = λ k. AtDraft f c.args.draft k (Open e) (Some c.map-in-Back.result) in
    subst P (sym c.in-Back.is) (e, a, refl, ap (λ (r : Result Reply Refusal). Some r) number, c.pop_row-rows.ensures.told)

pub returns-in-Seal : goal.returns-in-Seal
returns-in-Seal g c =
    let f = g.F.Field.ops in
    let code = c.seal-code.result in
    let reply : ℕ → Option (Result Reply Refusal) = λ n. Some (Ok (Number n)) in
    let P : Command → Type 0 = λ k. AtDraft f c.args.draft k (Sealed code) (reply c.dimension-dimension.result) in
    subst P (sym c.in-Seal.is)
    (code, refl, ap reply c.dimension-dimension.ensures, c.seal-code.ensures.told, c.seal-code.ensures.tally)
