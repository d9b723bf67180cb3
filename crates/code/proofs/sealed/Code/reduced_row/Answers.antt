use Rattle.std.proofs.Common.{◌<◌, sym, ◌∙◌, inl, inr, arith}
use Rattle.std.proofs.lemmas.List.{get_or_past}
use Rattle.std.proofs.lemmas.Bool.{cases_lt}
use Rattle.generator.specs.Parts.{dimension}
use Rattle.generator.proofs.Systematics.{ends}
use Rattle.code.proofs.sealed.Code.reduced_row.Goals as goal

pub returns-clause-told : goal.returns-clause-told
returns-clause-told g c =
    let code = c.args.self.now.generator in
    let i = c.args.i in
    let room = c.in_ok-check_buffer.ensures in
    let below : i < dimension code = let e = c.dimension-k.ensures in omega arith in (
      room.0,
      (
        (λ h. omega arith),
        (
          c.place.ensures.0 below,
          λ k. elim (cases_lt k c.loop-p.p) [
            | inl h ↦ c.loop-p.invariant k h
            | inr h ↦ get_or_past c.loop-p.out k 0 (omega (arith, room.1)) ∙ sym (ends g.F.Field.ops g.F.Field.laws code i k (omega (arith, room.1)))
          ],
        ),
      ),
    )
