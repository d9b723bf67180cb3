-- The first places of a word.
use Rattle.std.proofs.Common.{◌≡◌, ℕ, ◌<◌, ◌≤◌, List, length, sym, ◌∙◌, inl, inr, arith}
use Rattle.std.proofs.lemmas.List.{get_or_past}
use Rattle.std.proofs.lemmas.Bool.{cases_lt, cond-true, cond-false, lt-ltb, le-ltb}
use Rattle.field.specs.Field.{Ops, Laws}
use Rattle.algebra.specs.Words.{word, symbol, cut, Symbols}
use Rattle.algebra.proofs.Symbols.{zero_symbol, symbol_below, symbol_is}

pub cut_inside : (f : Ops) (n : ℕ) (w : ℕ → ℕ) (k : ℕ) → k < n → cut f n w k ≡ symbol f (w k)
cut_inside f n w k h = cond-true _ _ _ (lt-ltb k n h)

pub cut_past : (f : Ops) (n : ℕ) (w : ℕ → ℕ) (k : ℕ) → n ≤ k → cut f n w k ≡ 0
cut_past f n w k h = cond-false _ _ _ (le-ltb k n h)

pub cut_symbols : (f : Ops) → Laws f → (n : ℕ) (w : ℕ → ℕ) → Symbols f (cut f n w)
cut_symbols f l n w k = elim (cases_lt k n) [
  | inl h ↦ rw (cut_inside f n w k h) (symbol_below f l (w k))
  | inr h ↦ rw (cut_past f n w k h) (zero_symbol l)
]

-- a word of n symbols is not changed
pub cut_whole : (f : Ops) (n : ℕ) (w : List ℕ) → length w ≡ n → ((k : ℕ) → k < n → word w k < f.order) → (k : ℕ) → cut f n (word w) k ≡ word w k
cut_whole f n w e s k = elim (cases_lt k n) [
  | inl h ↦ cut_inside f n (word w) k h ∙ symbol_is f (word w k) (s k h)
  | inr h ↦ cut_past f n (word w) k h ∙ sym (get_or_past w k 0 (omega arith))
]

-- what holds of the places of an array holds past its end
pub cut_everywhere : (f : Ops) (n size : ℕ) (w : ℕ → ℕ) (r : List ℕ) → n ≤ size → length r ≡ size → ((k : ℕ) → k < size → word r k ≡ cut f n w k) → (k : ℕ) → word r k ≡ cut f n w k
cut_everywhere f n size w r h e all k = elim (cases_lt k size) [
  | inl b ↦ all k b
  | inr b ↦ get_or_past r k 0 (omega arith) ∙ sym (cut_past f n w k (omega arith))
]
