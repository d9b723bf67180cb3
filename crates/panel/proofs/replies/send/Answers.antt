use Rattle.std.proofs.Common.{◌≡◌, ℕ, length, Ok, Result, ap, subst, arith}
use Rattle.arrayvec.specs.ArrayVec.{ArrayVec, array_vec_len}
use Rattle.refusal.specs.declared.Refusal.{Refusal}
use Rattle.generator.specs.Parts.{size}
use Rattle.code.specs.Views.{generator_of}
use Rattle.code.specs.Codes.{MessageEncoded}
use Rattle.panel.specs.declared.replies.Reply.{Reply}
use Rattle.panel.specs.declared.replies.Reply.TheVariants.{Word}
use Rattle.panel.proofs.Written.{overwritten}
use Rattle.panel.proofs.replies.send.Goals as goal

pub returns : goal.returns
returns g c =
    let f = g.F.Field.ops in
    let code = generator_of c.args.code.now in
    let room = c.room-word.result in
    let out = c.encode.new.out in
    let n : array_vec_len room ≡ size code = let a = code.short in let b = c.room-word.ensures in let d = c.length.ensures in omega arith in
    let lent : length c.deref_mut.result.now ≡ size code = omega (arith, n, ap length c.deref_mut.ensures.value) in
    let reply : ArrayVec ℕ → Result Reply Refusal = λ w. Ok (Word w) in
    let M : ℕ → Type 0 = λ x. MessageEncoded f code c.args.message.now x out (Ok tt) in (
      out,
      Ok tt,
      ap reply (overwritten room out (omega arith)),
      omega (arith, lent),
      subst M lent c.in_ok-encode.ensures.told,
    )
