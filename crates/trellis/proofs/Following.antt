-- A word that is traced over a trellis, one place on.
use Rattle.std.proofs.Common.{◌≡◌, ℕ, suc, ◌+◌, ◌-◌, ◌<◌, List, [], ◌∷◌, ◌++◌, Option, Some, None, sym, refl, ap, ◌∙◌, subst, arith}
use Rattle.std.specs.Option.{MatchOption, IsSome}
use Rattle.least.specs.Paths.{Trellis}
use Rattle.least.specs.Least.{best_of, best, zero_apart, best_other}
use Rattle.least.specs.Tables.{Picked}
use Rattle.least.proofs.Choosing.{best_of_found}
use Rattle.least.proofs.Tracing.{Traced, trace_more}

module _ (t : Trellis) (n i s : ℕ) (inside : i < n) where
  -- what a symbol costs with all after it, and in how many ways
  abbrev pub cost : ℕ → ℕ
  cost x = t.cost i x + (best t (n - (i + 1)) (i + 1) (t.next i s x)).0

  abbrev pub ways : ℕ → ℕ
  ways x = (best t (n - (i + 1)) (i + 1) (t.next i s x)).1

  left : n - i ≡ suc (n - (i + 1))
  left = omega arith

  -- the least over the symbols is that of the state
  pub least_is : best t (n - i) i s ≡ best_of cost ways t.symbols
  least_is = ap (λ k. best t k i s) left

  -- whether the least cost is had by a symbol
  abbrev pub Pays : ℕ → Type 0
  Pays x = (0 < ways x) × (cost x ≡ (best t (n - i) i s).0)

  -- the last symbol by which it is had, if there is one
  abbrev pub Last : Option ℕ → Type 0
  Last r = MatchOption r ((x : ℕ) → x < t.symbols → Pays x → ⊥) (λ x. (x < t.symbols) × Pays x × ((y : ℕ) → x < y → y < t.symbols → Pays y → ⊥))

  pub last_some : (r : Option ℕ) → Last r → 0 < (best t (n - i) i s).1 → IsSome r
  last_some None none live =
      let o = best_of_found cost ways t.symbols (omega (arith, live, ap (λ r. r.1) least_is)) in
      absurd (none o.0 o.1.0 (o.1.1, o.1.2 ∙ sym (ap (λ r. r.0) least_is)))
  last_some (Some x) found live = refl

  pub last_picked : (r : Option ℕ) (x : ℕ) → r ≡ Some x → Last r → Picked t.symbols cost ways (best t (n - i) i s).0 x
  last_picked r x e last =
      let found = rw e at last in
      record { symbol = found.0; live = found.1.0; paid = found.1.1; largest = λ y more symbol live paid. found.2 y more symbol (live, paid) }

  pub follows : (x : ℕ) (p : List ℕ) → Picked t.symbols cost ways (best t (n - i) i s).0 x → Traced t n (n - i) i s p → Traced t n (n - (i + 1)) (i + 1) (t.next i s x) (p ++ x ∷ [])
  follows x p picked traced =
      let was : (best t (n - i) i s).0 ≡ (best t (suc (n - (i + 1))) i s).0 = ap (λ k. (best t k i s).0) left in
      trace_more t n (n - (i + 1)) i s x p (subst (λ k. Traced t n k i s p) left traced) picked.symbol picked.live (picked.paid ∙ was) (λ y more symbol live paid. picked.largest y more symbol live (paid ∙ sym was))

-- the least over the words that are not all 0 after a symbol at the place i: k symbols are left
abbrev pub other_rest : Trellis → ℕ → ℕ → ℕ → ℕ → ℕ × ℕ
other_rest t k j i = zero_apart (best_other t k j) (λ y. best t k j (t.next i 0 y))

-- k symbols are left after that at the place i
module _ (t : Trellis) (n i : ℕ) (inside : i < n) where
  pub other_is : best_other t (n - i) i ≡ best_of (λ y. t.cost i y + (other_rest t (n - (i + 1)) (i + 1) i y).0) (λ y. (other_rest t (n - (i + 1)) (i + 1) i y).1) t.symbols
  other_is = let left : n - i ≡ suc (n - (i + 1)) = omega arith in ap (λ k. best_other t k i) left
