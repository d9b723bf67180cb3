use Rattle.std.proofs.Common.{◌∙◌, ap, arith}
use Rattle.generator.specs.Parts.{check_row_of}
use Rattle.code.proofs.Checking.{check_row_read}
use Rattle.code.proofs.sealed.Code.check_row.Goals as goal

pub returns-clause-told : goal.returns-clause-told
returns-clause-told g c =
    let f = g.F.Field.ops in
    let code = c.args.self.now.generator in
    let room = c.in_ok-check_buffer.ensures in
    let place = c.in-Some.ensures in (
      room.0,
      (
        (λ h. let b = place.0 in omega arith),
        check_row_read f g.F.Field.laws code c.args.i c.check_row.new.out place.0
            (λ k h. c.check_row.ensures k (omega (arith, room.1)) ∙ ap (λ p. check_row_of f code p k) place.2),
      ),
    )
