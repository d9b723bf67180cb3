use Rattle.std.proofs.Common.{sym, subst}
use Rattle.panel.specs.declared.session.Panel.{Panel}
use Rattle.panel.specs.Replies.{Answered}
use Rattle.panel.proofs.session.answer.Goals as goal

pub returns-in-Two : goal.returns-in-Two
returns-in-Two c =
    let step = c.answer_at in
    let kept = step.ensures in
    let P : Panel → Type 0 = λ p. Answered p c.args.command.now c.args.work.now step.result.0 step.result.1 step.new.work in
    subst P (sym c.in-Two.is) (kept.0, kept.1.1, kept.2)

pub returns-in-Three : goal.returns-in-Three
returns-in-Three c =
    let step = c.answer_at-in-Three in
    let kept = step.ensures in
    let P : Panel → Type 0 = λ p. Answered p c.args.command.now c.args.work.now step.result.0 step.result.1 step.new.work in
    subst P (sym c.in-Three.is) (kept.0, kept.1.1, kept.2)

pub returns-in-Four : goal.returns-in-Four
returns-in-Four c =
    let step = c.answer_at-in-Four in
    let kept = step.ensures in
    let P : Panel → Type 0 = λ p. Answered p c.args.command.now c.args.work.now step.result.0 step.result.1 step.new.work in
    subst P (sym c.in-Four.is) (kept.0, kept.1.1, kept.2)

pub returns-in-Sixteen : goal.returns-in-Sixteen
returns-in-Sixteen c =
    let step = c.answer_at-in-Sixteen in
    let kept = step.ensures in
    let P : Panel → Type 0 = λ p. Answered p c.args.command.now c.args.work.now step.result.0 step.result.1 step.new.work in
    subst P (sym c.in-Sixteen.is) (kept.0, kept.1.1, kept.2)
