use Rattle.std.proofs.Common.{◌≡◌, ◌∙◌, arith, length}
use Rattle.generator.specs.Parts.{dimension}
use Rattle.code.proofs.Encoding.{encoded}
use Rattle.code.proofs.sealed.Code.encode.Goals as goal

pub returns-clause-told : goal.returns-clause-told
returns-clause-told g c =
    let f = g.F.Field.ops in
    let m = c.args.message.now in
    let code = c.args.self.now.generator in
    let word = c.in_ok-check_word.ensures in
    let room = c.in_ok-check_buffer.ensures in
    let long : length m ≡ dimension code = word.1.1.0 ∙ c.dimension.ensures in (
      (λ n. n long),
      (word.1.0, (room.0, encoded f g.F.Field.laws code m c.encode.new.out (long, word.1.1.1) (omega (arith, room.1)) (λ p h. c.encode.ensures p (omega arith)))),
    )
