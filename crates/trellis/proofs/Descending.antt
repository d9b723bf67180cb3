-- The last number of a range for which a closure answers true.
use Rattle.std.proofs.Common.{◌≡◌, ℕ, zero, suc, ◌+◌, ◌-◌, ◌<◌, ◌≤◌, Bool, true, false, List, [], ◌∷◌, length, get_or, Some, None, Option, sym, refl, ap, ap₂, ◌∙◌, subst, arith}
use Rattle.std.proofs.lemmas.Iterator.{YieldsList, first_from_find}
use Rattle.std.proofs.lemmas.Iterator.Consumers.{YieldsList-from_shown}
use Rattle.std.specs.Iterator.{YieldsThen}
use Rattle.std.specs.Iterator.Adapters.{rev_source, rev_steps}
use Rattle.std.specs.List.{AllWithin, FoldsTo, HoldsAt}
use Rattle.std.specs.Fn.{CalledAt}
use Rattle.std.specs.Option.{MatchOption}
use Rattle.std.specs.Bool.{⊤}
use Rattle.std.specs.declared.iter.Rev.{Rev}
use Rattle.std.specs.declared.ops.Range.{Range}
use Rattle.std.specs.Range.{range_steps_back}
use denote.Ref.{Bor}
use denote.Param.Members.{Mut}

-- a step from the end of a range of numbers
abbrev pub down : Range ℕ → Option ℕ → Range ℕ → Type 0
down = range_steps_back (λ a b. b - a) (λ a b. b ≡ a + 1)

-- n numbers from a on, the last first
descending : ℕ → ℕ → List ℕ
descending a zero = []
descending a (suc n) = (a + n) ∷ descending a n

length-descending : (a n : ℕ) → length (descending a n) ≡ n
unfolding descending
length-descending a zero = refl
length-descending a (suc n) = ap suc (length-descending a n)

get_or-descending : (a n k d : ℕ) → k < n → get_or (descending a n) k d ≡ a + (n - 1 - k)
unfolding descending
get_or-descending a zero k d h = absurd (omega arith)
get_or-descending a (suc n) zero d h = omega arith
get_or-descending a (suc n) (suc k) d h = get_or-descending a n k d (omega arith) ∙ omega arith

shown : Rev (Range ℕ) → List ℕ
shown s = descending (rev_source s).start ((rev_source s).end - (rev_source s).start)

listed : (s : Rev (Range ℕ)) → YieldsList (rev_steps down) (λ x. x) s (shown s)
unfolding shown descending
listed s = YieldsList-from_shown (rev_steps down) (λ x. x) shown
    (λ u t h. length-descending _ _ ∙ h.1.0)
    (λ u x t h.
    let more : (rev_source u).end - (rev_source u).start ≡ suc ((rev_source t).end - (rev_source t).start) = omega (arith, h.0, h.1.0, h.1.1, h.1.2) in
    let at : (rev_source u).start + ((rev_source t).end - (rev_source t).start) ≡ x = omega (arith, h.0, h.1.0, h.1.1, h.1.2) in
    ap (descending (rev_source u).start) more ∙ ap₂ (λ y a. y ∷ descending a ((rev_source t).end - (rev_source t).start)) at (sym h.0))
    s

pub last_from_find : {F : Type 0} {g : Mut F (Bor ℕ × Unit {0}) Bool} (s u : Rev (Range ℕ)) (n : ℕ) (f : F) (r : Option ℕ) (Yes No : ℕ → Type 0) → rev_source s ≡ record { start = 0; end = n }
    → (xs : List ℕ) × (j : F) × YieldsThen (rev_steps down) s xs r u × FoldsTo (λ p x q. CalledAt g p x false q) f xs j × MatchOption r ⊤ (λ x. (h : F) × CalledAt g j x true h)
    → ((x : ℕ) (q : F) → CalledAt g f x true q → Yes x) → ((x : ℕ) (q : F) → CalledAt g f x false q → (q ≡ f) × No x)
    → MatchOption r ((k : ℕ) → k < n → No k) (λ x. (x < n) × Yes x × ((k : ℕ) → x < k → k < n → No k))
unfolding shown
last_from_find s u n f r Yes No e d yes' no' = by r (first_from_find u f r Yes No d (listed s) yes' no')
  where
    is : shown s ≡ descending 0 n
    is = ap (λ (p : Range ℕ). descending p.start (p.end - p.start)) e ∙ ap (descending 0) (omega arith)

    long : length (shown s) ≡ n
    long = ap length is ∙ length-descending 0 n

    at : (k d : ℕ) → k < n → get_or (shown s) k d ≡ n - 1 - k
    at k d h = ap (λ l. get_or l k d) is ∙ get_or-descending 0 n k d h ∙ omega arith

    above : (m : ℕ) → m ≤ n → AllWithin No (shown s) 0 m → (k : ℕ) → n ≤ k + m → k < n → No k
    above m l h k a b = subst No {x = get_or (shown s) (n - 1 - k) 0} {y = k} (at (n - 1 - k) 0 (omega arith) ∙ omega arith) (h (n - 1 - k) 0 (omega arith) (omega arith))

    by : (o : Option ℕ) → MatchOption o (AllWithin No (shown s) 0 (length (shown s))) (λ x. Yes x × (i : ℕ) × (i < length (shown s)) × HoldsAt (λ y. y ≡ x) (shown s) i × AllWithin No (shown s) 0 i)
        → MatchOption o ((k : ℕ) → k < n → No k) (λ x. (x < n) × Yes x × ((k : ℕ) → x < k → k < n → No k))
    by None h = λ k b. above (length (shown s)) (omega (arith, long)) h k (omega (arith, long)) b
    by (Some x) h =
        let i : h.1 < n = omega (arith, long, h.2) in
        let place : x ≡ n - 1 - h.1 = sym (h.3 0) ∙ at h.1 0 i in
        (omega arith, h.0, λ k a b. above h.1 (omega arith) h.4 k (omega arith) b)
