use Rattle.std.proofs.Common.{rules, ◌≡◌, ℕ, zero, suc, ◌<◌, ◌≤◌, ◌==◌, Bool, true, false, cond, List, [], ◌∷◌, refl, sym, ap, subst, ◌∙◌, inl, inr, arith, Option, Some, None, MatchOption, Bor}
use Rattle.std.specs.Bool.{⊤}
use Rattle.std.specs.Option.{unwrap_or}
use Rattle.std.specs.List.{FoldsTo}
use Rattle.std.specs.Fn.{CalledAt}
use Rattle.std.specs.Iterator.{Yields, YieldsThen}
use Rattle.std.specs.declared.ops.Range.{Range}
use Rattle.std.specs.declared.iter.Rev.{Rev}
use Rattle.std.proofs.iter.runs.Sources.{nat_range_steps_back}
use Rattle.std.proofs.lemmas.Bool.{cases_lt, cond-true, cond-false}
use denote.Param.Members.{Mut}
use Rattle.field.specs.Symbols.{if_symbol, inverse_below}
use Rattle.field.specs.SymbolLaws.{symbol_is, symbols_are, symbol_none, inverse_below_none}
use Rattle.field.specs.Remainders.{remainders, remainder_times}
use Rattle.field.proofs.prime.RemaindersField.inverse.Goals as goal

-- the next of the numbers of a range, from the greatest down
abbrev down : Rev (Range ℕ) → Option ℕ → Rev (Range ℕ) → Type 0
down s r t = nat_range_steps_back s.iter r t.iter

module _ {F : Type 0} {g : Mut F (Bor ℕ × Unit {0}) Bool} (times : ℕ → ℕ → ℕ) (a : ℕ) (f : F)
    (says : (x : ℕ) (b : Bool) (q : F) → CalledAt g f x b q → (q ≡ f) × (b ≡ (times a x == 1))) where
  -- the first number, from the greatest down, that passes is the one that `inverse_below` names
  passing : (xs : List ℕ) (s t u : Rev (Range ℕ)) (j : F) (r : Option ℕ) → s.iter.start ≡ 0 → Yields down s xs t → down t r u
      → FoldsTo (λ p x q. CalledAt g p x false q) f xs j → MatchOption r ⊤ (λ x. (h : F) × CalledAt g j x true h)
      → unwrap_or r 0 ≡ inverse_below times a s.iter.end
  passing [] s t u j None z y e c m =
      let none : s.iter.end ≡ 0 = omega (arith, e.1.0, ap (λ (k : Rev (Range ℕ)). k.iter.start) y, ap (λ (k : Rev (Range ℕ)). k.iter.end) y) in
      rw none refl
  passing [] s t u j (Some x) z y e c m =
      let last : s.iter.end ≡ suc x = omega (arith, e.1.1, e.1.2, ap (λ (k : Rev (Range ℕ)). k.iter.end) y) in
      let passes = says x true m.0 (subst (λ k. CalledAt g k x true m.0) (sym c) m.1) in
      rw last (sym (cond-true _ _ _ (sym passes.1)))
  passing (x ∷ xs) s t u j r z y e c m =
      let last : s.iter.end ≡ suc x = omega (arith, y.1.1.1, y.1.1.2) in
      let fails = says x false c.0 c.1 in
      let rest = passing xs y.0 t u j r (omega (arith, y.1.0)) y.2 e (subst (λ k. FoldsTo (λ p x q. CalledAt g p x false q) k xs j) fails.0 c.2) m in
      rw last (rest ∙ ap (inverse_below times a) (sym y.1.1.1) ∙ sym (cond-false _ _ _ (sym fails.1)))

module _ (p a : ℕ) where
  of_symbol : (n : ℕ) → n ≤ p → a < p → inverse_below (remainders p).product a n ≡ inverse_below (remainder_times p) a n
  of_symbol zero l h = refl
  of_symbol (suc n) l h =
      rw (symbols_are p a n (remainder_times p a n) h (omega arith)) (ap (cond (remainder_times p a n == 1) n) (of_symbol n (omega arith) h))

  -- the product is 0 at a number that is no symbol, so none has the product 1 with it
  by_product : inverse_below (remainders p).product a p ≡ (remainders p).inverse a
  by_product =
      elim (cases_lt a p) [
        | inl h ↦ of_symbol p (omega arith) h ∙ sym (symbol_is p a _ h)
        | inr h ↦ inverse_below_none (remainders p).product a p (λ b e. omega (arith, e, symbol_none p a (if_symbol p b (remainder_times p a b)) h)) ∙ sym (symbol_none p a _ h)
      ]

  found : {F : Type 0} {g : Mut F (Bor ℕ × Unit {0}) Bool} (s u : Rev (Range ℕ)) (f : F) (r : Option ℕ)
      → (xs : List ℕ) × (j : F) × YieldsThen down s xs r u × FoldsTo (λ p x q. CalledAt g p x false q) f xs j × MatchOption r ⊤ (λ x. (h : F) × CalledAt g j x true h)
      → s.iter ≡ record { start = 0; end = p } → ((x : ℕ) (b : Bool) (q : F) → CalledAt g f x b q → (q ≡ f) × (b ≡ ((remainders p).product a x == 1)))
      → unwrap_or r 0 ≡ (remainders p).inverse a
  found s u f r d e says =
      passing (remainders p).product a f says d.0 s d.2.0 u d.1 r (ap (λ (k : Range ℕ). k.start) e) d.2.1 d.2.2 d.3 d.4
      ∙ ap (λ (k : Range ℕ). inverse_below (remainders p).product a k.end) e ∙ by_product

pub returns : goal.returns
returns g c =
    let inverse : unwrap_or c.find.result 0 ≡ (remainders g.row.P).inverse c.args.a = found g.row.P c.args.a c.rev.result c.find.new.self _ c.find.result c.find.ensures.ran c.rev.ensures.source (λ x b q k. search rules) in
    let told : c.unwrap_or.result ≡ unwrap_or c.find.result 0 = search rules in
    told ∙ inverse
