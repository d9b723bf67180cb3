-- The walk to a check place, and the row of an information place.
use Rattle.std.proofs.Common.{◌≡◌, ◌≢◌, ℕ, ◌+◌, ◌<◌, ◌≤◌, List, length, take, Option, Some, None, MatchOption, sym, ◌∙◌, inl, inr, arith}
use Rattle.std.specs.List.{AllWithin, HoldsAt}
use Rattle.std.proofs.lemmas.List.{length-take}
use Rattle.algebra.specs.Words.{word}
use Rattle.linear.specs.declared.rows.Row.{Row}
use Rattle.linear.specs.Rows.{places}
use Rattle.linear.proofs.Taken.{blank, taken_place}
use Rattle.std.proofs.lemmas.Bool.{cases_eq, cases_lt}

-- the walk from i is at p, and has passed those of the first j information places that are before p
pub record Walked (at : ℕ → ℕ) (i j p : ℕ) : Type 0 where
  pub passed : ℕ
  pub some : passed ≤ j
  pub is : p ≡ i + passed
  pub before : (h : ℕ) → h < passed → at h < p
  pub after : (h : ℕ) → passed ≤ h → h < j → p < at h

module _ (at : ℕ → ℕ) (m : ℕ) (up : (i j : ℕ) → i < j → j < m → at i < at j) (i j p : ℕ) (h : j < m) (w : Walked at i j p) where
  -- all before j have been passed where j is
  all_passed : at j ≤ p → w.passed ≡ j
  all_passed b = elim (cases_lt w.passed j) [
    | inl c ↦ let s = w.some in let x = w.after w.passed (omega arith) c in let y = up w.passed j c h in absurd (omega arith)
    | inr c ↦ let s = w.some in omega arith
  ]

  pub walked_on : at j ≤ p → Walked at i (j + 1) (p + 1)
  walked_on b =
      let all = all_passed b in
      let is = w.is in
      record {
        passed = j + 1;
        some = omega arith;
        is = omega arith;
        before = λ x y. elim (cases_eq x j) [
          | inl e ↦ rw e (omega arith)
          | inr n ↦ let z = w.before x (omega arith) in omega arith
        ];
        after = λ x y z. absurd (omega arith);
      }

  pub walked_by : p < at j → Walked at i (j + 1) p
  walked_by b = record {
    passed = w.passed;
    some = let s = w.some in omega arith;
    is = w.is;
    before = w.before;
    after = λ x y z. elim (cases_eq x j) [ inl e ↦ rw e b | inr n ↦ w.after x y (omega arith) ];
  }

-- the first row at whose place p stands, among the first k
pub informing_row : (rows : List Row) (k p : ℕ) (r : Option ℕ) → k ≤ length rows
    → MatchOption r (AllWithin (λ x. x.place ≢ p) (take k rows) 0 (length (take k rows))) (λ j. (j < length (take k rows)) × HoldsAt (λ x. x.place ≡ p) (take k rows) j × AllWithin (λ x. x.place ≢ p) (take k rows) 0 j)
    → MatchOption r ((j : ℕ) → j < k → word (places rows) j ≢ p) (λ j. (j < k) × (word (places rows) j ≡ p))
informing_row rows k p None h none = λ j b e.
    let c : j < length (take k rows) = omega (arith, length-take k rows) in
    none j blank (omega arith) c (taken_place rows k j blank c ∙ e)
informing_row rows k p (Some j) h (b, own, _) = (omega (arith, length-take k rows), sym (taken_place rows k j blank b) ∙ own blank)
