use Rattle.std.proofs.Common.{◌≡◌, ℕ, min, List, length, Ok, Err, Result, ap, subst₂, rules, arith}
use Rattle.arrayvec.specs.ArrayVec.{ArrayVec, array_vec_len}
use Rattle.refusal.specs.declared.Refusal.{Refusal}
use Rattle.generator.specs.declared.Generator.{Generator}
use Rattle.generator.specs.Parts.{dimension}
use Rattle.reception.specs.Layers.{hard_word}
use Rattle.tally.specs.Tallies.{counts_of}
use Rattle.decoding.specs.Decoding.{MessageDecoded}
use Rattle.code.specs.Views.{generator_of, tally_of}
use Rattle.panel.specs.declared.replies.Reply.{Reply}
use Rattle.panel.specs.declared.replies.Reply.TheVariants.{Decoded}
use Rattle.panel.proofs.Written.{overwritten}
use Rattle.panel.proofs.replies.hear.Goals as goal

-- a message has at most 24 symbols, and so the room has as many as the message
fits : (g : Generator) (room : ArrayVec ℕ) (n : ℕ) (lent : List ℕ) → array_vec_len room ≡ min n 24 → n ≡ dimension g → lent ≡ room.items → length lent ≡ dimension g
fits g room n lent a b e = let s = g.short in let f = g.few in omega (arith, ap length e)

pub returns : goal.returns
returns g c =
    let f = g.F.Field.ops in
    let code = c.args.code.now in
    let room = c.room-message.result in
    let out = c.decode.new.message in
    let cost = c.in_ok-cost.cost in
    let told = c.in_ok-cost.ensures in
    let k = fits (generator_of code) room c.dimension.result c.deref_mut.result.now c.room-message.ensures c.dimension.ensures c.deref_mut.ensures.value in
    let reply : ArrayVec ℕ → Result Reply Refusal = λ m. Ok (Decoded m cost) in
    let M : List ℕ → ℕ → Type 0 = λ w places. MessageDecoded f (generator_of code) (hard_word w) (length c.args.work.now) places (counts_of (tally_of code)) out (Ok cost) in (
      out,
      Ok cost,
      ap reply (overwritten room out (omega (arith, ap length c.deref_mut.ensures.value))),
      subst₂ M c.new.ensures k told.told,
      told.generator,
      told.tally,
      told.work,
    )

pub returns-in_err-cost : goal.returns-in_err-cost
returns-in_err-cost g c =
    let f = g.F.Field.ops in
    let code = c.args.code.now in
    let out = c.decode.new.message in
    let e = c.in_err-cost.field-0.0 in
    let told = c.in_err-cost.ensures in
    let k = fits (generator_of code) c.room-message.result c.dimension.result c.deref_mut.result.now c.room-message.ensures c.dimension.ensures c.deref_mut.ensures.value in
    let M : List ℕ → ℕ → Type 0 = λ w places. MessageDecoded f (generator_of code) (hard_word w) (length c.args.work.now) places (counts_of (tally_of code)) out (Err e) in
    (out, Err e, search rules, subst₂ M c.new.ensures k told.told, told.generator, told.tally, told.work)
