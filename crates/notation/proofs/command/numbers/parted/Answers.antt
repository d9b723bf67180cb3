use Rattle.std.proofs.Common.{◌≡◌, ◌+◌, ◌-◌, length, take, drop, refl, rules, tests, arith}
use Rattle.std.proofs.lemmas.Iterator.{IsFirst-from_position, YieldsList-from_slice}
use Rattle.std.proofs.lemmas.List.{take_rest}
use Rattle.std.proofs.lemmas.Option.{MatchOption-at_none, MatchOption-at_some}
use Rattle.notation.proofs.Spaces.{parted_only, parted_none}
use Rattle.notation.proofs.command.numbers.parted.Goals as goal

pub returns-in_err-space : goal.returns-in_err-space
returns-in_err-space c =
    let text = c.args.text.now in
    let none = MatchOption-at_none _ _ c.in_err-space.was (IsFirst-from_position _ _ _ (λ x. x ≡ 32) (λ x. x ≡ 32 → ⊥) c.position.ensures.ran (YieldsList-from_slice text cc) (λ x q k. search (rules, tests)) (λ x q k. search (rules, tests))) in
    rw c.from_residual.ensures (parted_none text (length text) (omega arith) (λ k h. none k 0 (omega arith) h))

pub returns : goal.returns
returns c =
    let text = c.args.text.now in
    let i = c.in_ok-space.space in
    let first = MatchOption-at_some _ _ _ c.in_ok-space.was (IsFirst-from_position _ _ _ (λ x. x ≡ 32) (λ x. x ≡ 32 → ⊥) c.position.ensures.ran (YieldsList-from_slice text cc) (λ x q k. search (rules, tests)) (λ x q k. search (rules, tests))) in
    parted_only text (take i text) (take (length text - (i + 1)) (drop (i + 1) text)) i
    (first.0, first.1 0, λ k h. first.2 k 0 (omega arith) h) refl (take_rest text (i + 1))
