use Rattle.code.specs.Drafts.{State, Holds}
use Rattle.code.specs.Codes.{Sealed}
use Rattle.code.proofs.Leading.{held_holds}
use Rattle.code.proofs.Sealing.{sealed}
use Rattle.code.proofs.draft.Draft.seal.Goals as goal

pub returns : goal.returns
returns g c =
    let f = g.F.Field.ops in
    let b = c.args.self.basis in
    let told : (s : State) → Holds f b s → Sealed f s c.generator.result =
    λ s h. sealed f g.F.Field.laws b s h c.generator.result c.generator.ensures.long c.generator.ensures.all c.generator.ensures.form in
    record { told = told; follows = λ calls s p h. told s (held_holds f calls b s p h); tally = c.new.ensures }
