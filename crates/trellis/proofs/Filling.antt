-- A row that is filled part by part.
use Rattle.std.proofs.Common.{◌≡◌, ℕ, ◌+◌, ◌-◌, ◌*◌, ◌<◌, ◌≤◌, List, ◌++◌, length, get_or, set, eqb, sym, refl, ap, ◌∙◌, ap₂, inl, inr, add-mul, zero-add, arith}
use Rattle.std.proofs.lemmas.Bool.{cases_eq, cases_lt, cond_both, eq-eqb, ne_eqb}
use Rattle.std.proofs.lemmas.List.{get_or_append_left, get_or-append_right, get_or-set_same, get_or-set_other}
use borrow.Rule.Slice.PartMut.{put_mid}
use Rattle.least.specs.Paths.{Trellis}
use Rattle.least.specs.Least.{best}
use Rattle.trellis.specs.Rows.{Filled}
use Rattle.trellis.proofs.Splicing.{put_before, put_in}

-- a part of n states more is filled
pub part_more : (value : ℕ → ℕ × ℕ) (u n a k : ℕ) (costs ways new_costs new_ways : List ℕ) → a ≡ u * n → k ≡ n → a + k ≤ length costs → length ways ≡ length costs → length new_costs ≡ k → length new_ways ≡ k
    → ((s : ℕ) → s < u * n → (get_or costs s 0, get_or ways s 0) ≡ value s)
    → ((v : ℕ) → v < n → (get_or new_costs v 0, get_or new_ways v 0) ≡ value (u * n + v))
    → (s : ℕ) → s < (u + 1) * n → (get_or (put_mid a k costs new_costs) s 0, get_or (put_mid a k ways new_ways) s 0) ≡ value s
part_more value u n a k costs ways new_costs new_ways ea ek room paired lc lw old new s h = elim (cases_lt s (u * n)) [
  | inl b ↦ ap₂ (λ c w. (c, w)) (put_before a k costs new_costs room lc s (omega arith)) (put_before a k ways new_ways (omega arith) lw s (omega arith)) ∙ old s b
  | inr b ↦
      let v : ℕ = s - u * n in
      let at : a + v ≡ s = omega arith in
      let is : u * n + v ≡ s = omega arith in
      let short : v < n = omega (arith, add-mul u 1 n) in
      ap (λ i. (get_or (put_mid a k costs new_costs) i 0, get_or (put_mid a k ways new_ways) i 0)) (sym at)
      ∙ ap₂ (λ c w. (c, w)) (put_in a k costs new_costs room lc v (omega arith)) (put_in a k ways new_ways (omega arith) lw v (omega arith))
      ∙ new v short
      ∙ ap value is
]

-- all states are filled
pub row_filled : (t : Trellis) (k i m : ℕ) (costs ways : List ℕ) → length costs ≡ m → length ways ≡ m → ((s : ℕ) → s < m → (get_or costs s 0, get_or ways s 0) ≡ best t k i s) → Filled t k i m (costs ++ ways)
row_filled t k i m costs ways lc lw done = record {
  costs = λ s h. rw (zero-add) (get_or_append_left costs ways 0 s (omega arith) ∙ ap (λ r. r.0) (done s h));
  ways = λ s h.
      let e : m + s - m ≡ s = omega arith in
      get_or-append_right costs ways m (m + s) 0 lc (omega arith) ∙ ap (λ j. get_or ways j 0) e ∙ ap (λ r. r.1) (done s h);
}

-- past the last place only the target has a way
pub last_filled : (t : Trellis) (n m : ℕ) (zeros : List ℕ) → length zeros ≡ m + m → t.target < m → ((k : ℕ) → k < length zeros → get_or zeros k 0 ≡ 0) → Filled t 0 n m (set zeros (m + t.target) 1)
last_filled t n m zeros long known clear = record {
  costs = λ s h. rw zero-add (get_or-set_other zeros (m + t.target) s 1 0 (λ e. omega arith) ∙ clear s (omega arith) ∙ sym (cond_both {A = ℕ × ℕ} (eqb s t.target) (0, 1) (0, 0) (λ r. r.0 ≡ 0) (λ _. refl) (λ _. refl)));
  ways = λ s h. elim (cases_eq s t.target) [
    | inl e ↦ rw e (get_or-set_same zeros (m + t.target) 1 0 (omega arith) ∙ rw (eq-eqb t.target t.target refl) refl)
    | inr ne ↦ get_or-set_other zeros (m + t.target) (m + s) 1 0 (λ e. omega (arith, ne)) ∙ clear (m + s) (omega arith) ∙ rw (ne_eqb s t.target ne) refl
  ];
}
