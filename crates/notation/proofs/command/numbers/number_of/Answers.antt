use Rattle.std.proofs.Common.{◌≡◌, ℕ, List, Some, None, Result, Ok, Err, sym, ap, ◌∙◌, rules, tests, arith}
use Rattle.std.proofs.lemmas.Iterator.{cases_from_all, YieldsList-from_slice}
use Rattle.std.proofs.lemmas.Option.{same_Some}
use Rattle.std.specs.Borrow.{Bor}
use Rattle.std.specs.Int.{IsInRange}
use Rattle.std.specs.Result.{MatchResult, result_ok}
use Rattle.notation.proofs.Decimals.{no_number, number_parsed, digits_utf8}
use Rattle.notation.proofs.command.numbers.number_of.Goals as goal
use Rattle.notation.proofs.command.numbers.number_of.Goals.{then-text-gt3-via-then-text-gt3, then-text-gt3-via-else-text-gt3+then-not-all}

-- a text of digits is read
no_error : {S E U : Type 0} (P : S → Type 0) (Q : E → Type 0) (r : Result S E) → U → MatchResult r P (λ e. (U → ⊥) × Q e) → result_ok r ≡ None → ⊥
no_error P Q (Ok s) u h e = cc
no_error P Q (Err x) u h e = h.0 u

-- as it is
same_text : {E : Type 0} (U : Type 0) (text : List ℕ) (Q : E → Type 0) (r : Result (Bor (List ℕ)) E) (s : Bor (List ℕ)) → MatchResult r (λ t. (t.now ≡ text) × U) Q → result_ok r ≡ Some s → s.now ≡ text
same_text U text Q (Ok t) s h e = ap (λ (b : Bor (List ℕ)). b.now) (sym (same_Some t s e)) ∙ h.0
same_text U text Q (Err x) s h e = cc

pub returns-then-text-gt3 : goal.returns-then-text-gt3
returns-then-text-gt3 c =
    let text = c.args.text.now in
    elim c.then-text-gt3.branch [
      | then-text-gt3-via-then-text-gt3 w ↦ λ y k. omega (arith, k.1)
      | then-text-gt3-via-else-text-gt3+then-not-all w ↦
          let cases = cases_from_all _ _ _ (λ b. IsInRange 48 57 b) (λ b. IsInRange 48 57 b → ⊥) w.all.ensures.ran (YieldsList-from_slice text cc) (λ x q k. search (rules, tests)) (λ x q k. search (rules, tests)) in
          let no = rw w.if-not-all.true at cases in
          no_number text no.0 no.1 (no.2 0)
    ]

pub returns-in_err-ok : goal.returns-in_err-ok
returns-in_err-ok c =
    let text = c.args.text.now in
    let cases = cases_from_all _ _ _ (λ b. IsInRange 48 57 b) (λ b. IsInRange 48 57 b → ⊥) c.all.ensures.ran (YieldsList-from_slice text cc) (λ x q k. search (rules, tests)) (λ x q k. search (rules, tests)) in
    let each = rw c.if-not-all.false at cases in
    absurd (no_error _ _ c.from_utf8.result (digits_utf8 text (λ i h. each i 0 (omega arith) h)) c.from_utf8.ensures.cases (sym c.ok.ensures.value ∙ c.in_err-ok.was))

pub returns : goal.returns
returns c =
    let text = c.args.text.now in
    let cases = cases_from_all _ _ _ (λ b. IsInRange 48 57 b) (λ b. IsInRange 48 57 b → ⊥) c.all.ensures.ran (YieldsList-from_slice text cc) (λ x q k. search (rules, tests)) (λ x q k. search (rules, tests)) in
    let each = rw c.if-not-all.false at cases in
    let same : c.in_ok-ok.field-0.now ≡ text = same_text _ text _ c.from_utf8.result c.in_ok-ok.field-0 c.from_utf8.ensures.cases (sym c.ok.ensures.value ∙ c.in_ok-ok.was) in
    rw c.ok-2.ensures.value (number_parsed text c.parse.result (omega arith) (λ i h. each i 0 (omega arith) h) (rw same at c.parse.ensures.value.0))
