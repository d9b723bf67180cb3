use Rattle.std.proofs.Common.{rules, arith, ◌≡◌, ◌≢◌, take}
use borrow.Author.Tests.{tests}
use Rattle.std.proofs.lemmas.Iterator.{YieldsList-from_slice, IsFirst-from_position}
use Rattle.generator.proofs.Checking.{informing_row}
use Rattle.generator.proofs.Generator.informing_row.Goals as goal

pub returns : goal.returns
returns c =
    let s = c.args.self.now in
    let p = c.args.p in
    let few = s.few in
    let short = s.short in
    informing_row s.rows s.k p c.position.result (omega arith)
    (IsFirst-from_position _ _ c.position.result (λ r. r.place ≡ p) (λ r. r.place ≢ p) c.position.ensures.ran (YieldsList-from_slice (take s.k s.rows) cc) (λ x q k. search (rules, tests)) (λ x q k. search (rules, tests)))
