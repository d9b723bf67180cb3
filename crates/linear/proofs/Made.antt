-- What `array::from_fn` and an array's `map` make with a closure that its calls leave as it is.
use Rattle.std.proofs.Common.{◌≡◌, ℕ, zero, suc, ◌+◌, ◌<◌, ◌≤◌, List, slice_index_or, sym, ap, ◌∙◌, subst, inl, inr, arith}
use Rattle.std.specs.Array.{IsFromFnResult, IsFromFnResultFrom, IsMapOf, MapsFrom}
use Rattle.std.specs.Fn.{Called}
use Rattle.std.proofs.lemmas.Bool.{cases_eq}
use denote.Param.Members.{Mut}

module _ {F B : Type 0} (g : Mut F (ℕ × Unit {0}) B) (f : F) (P : ℕ → B → Type 0) (call : (i : ℕ) (y : B) (q : F) → Called g f (i, tt) y q → (q ≡ f) × P i y) (ys : List B) where
  made_from : (n i : ℕ) → IsFromFnResultFrom g f ys i n → (k : ℕ) (d : B) → i ≤ k → k < i + n → P k (slice_index_or ys k d)
  made_from zero i made k d a b = absurd (omega arith)
  made_from (suc n) i (q, y, at, called, rest) k d a b = elim (cases_eq k i) [
    | inl e ↦ rw (e, at.1 d) (call i y q called).1
    | inr m ↦ made_from n (i + 1) (subst (λ p. IsFromFnResultFrom g p ys (i + 1) n) (call i y q called).0 rest) k d (omega arith) (omega arith)
  ]

  -- each element is what a call at its index gives
  pub made_at : (n : ℕ) → IsFromFnResult g f ys n → (k : ℕ) (d : B) → k < n → P k (slice_index_or ys k d)
  made_at n made k d b = made_from n 0 made.each k d (omega arith) (omega arith)

module _ {F A B : Type 0} (g : Mut F (A × Unit {0}) B) (f : F) (h : A → B) (call : (x : A) (y : B) (q : F) → Called g f (x, tt) y q → (q ≡ f) × (y ≡ h x)) (xs : List A) (ys : List B) where
  mapped_from : (n i : ℕ) → MapsFrom g f xs ys i n → (k : ℕ) (d : A) (e : B) → i ≤ k → k < i + n → slice_index_or ys k e ≡ h (slice_index_or xs k d)
  mapped_from zero i mapped k d e a b = absurd (omega arith)
  mapped_from (suc n) i (q, x, y, from, at, called, rest) k d e a b = elim (cases_eq k i) [
    | inl p ↦ rw p (at.1 e ∙ (call x y q called).1 ∙ ap h (sym (from.1 d)))
    | inr m ↦ mapped_from n (i + 1) (subst (λ p. MapsFrom g p xs ys (i + 1) n) (call x y q called).0 rest) k d e (omega arith) (omega arith)
  ]

  -- each element is what a call gives of the element at its index
  pub mapped_at : (n : ℕ) → IsMapOf g f xs ys n → (k : ℕ) (d : A) (e : B) → k < n → slice_index_or ys k e ≡ h (slice_index_or xs k d)
  mapped_at n mapped k d e b = mapped_from n 0 mapped.each k d e (omega arith) (omega arith)
