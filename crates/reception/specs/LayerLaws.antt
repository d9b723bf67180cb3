-- Each kind of reception keeps the laws.
use Rattle.std.specs.Prelude.{◌≡◌, ℕ, zero, suc, ◌≤◌, List, ◌==◌, nat_lt, slice_index, slice_index_or, refl}
use Rattle.std.proofs.Common.{arith}
use Rattle.std.proofs.lemmas.Bool.{cond_both, cond-false, le-ltb, ltb-false}
use Rattle.reception.specs.Costs.{Costs, Lawful}
use Rattle.reception.specs.Layers.{below, hard_costs, hard_word, level_distance, level_costs, level_word, erased, added_costs, combined, shifted_costs, window, either}
use Rattle.reception.specs.Spans.{covered}
use Rattle.reception.specs.declared.erased.Span.{Span}
use Rattle.reception.specs.declared.either.Either.{Either}
use Rattle.reception.specs.declared.either.Either.TheVariants.{First, Second}

-- costs that end at n, and are bounded before it
pub below_lawful : (n : ℕ) (each : ℕ → ℕ → ℕ) → ((i x : ℕ) → each i x ≤ 65535) → Lawful (record { size = n; cost = below n each })
below_lawful n each most = record {
  past = λ i x h. cond-false (nat_lt i n) (each i x) 0 (le-ltb i n h);
  most = λ i x. cond_both (nat_lt i n) (each i x) 0 (λ c. c ≤ 65535) (λ _. most i x) (λ _. omega arith);
}

pub hard_lawful : (w : List ℕ) → Lawful (hard_word w)
hard_lawful w = below_lawful _ (hard_costs w) (λ i x. cond_both (slice_index w i == x) 0 1 (λ c. c ≤ 65535) (λ _. omega arith) (λ _. omega arith))

distance_most : (v x : ℕ) → v ≤ 7 → level_distance v x ≤ 65535
distance_most v zero h = omega arith
distance_most v (suc zero) h = omega arith
distance_most v (suc (suc x)) h = omega arith

pub level_lawful : (w : List ℕ) → Lawful (level_word w)
level_lawful w = below_lawful _ (level_costs w) (λ i x.
    let v : ℕ = slice_index_or w i 0 in
    cond_both (nat_lt 7 v) 0 (level_distance v x) (λ c. c ≤ 65535) (λ _. omega arith) (λ e. distance_most v x (ltb-false 7 v e)))

pub erased_lawful : (spans : List Span) (t : Costs) → Lawful t → Lawful (erased spans t)
erased_lawful spans t l = record {
  past = λ i x h. cond_both (covered spans i) 0 (t.cost i x) (λ c. c ≡ 0) (λ _. refl) (λ _. l.past i x h);
  most = λ i x. cond_both (covered spans i) 0 (t.cost i x) (λ c. c ≤ 65535) (λ _. omega arith) (λ _. l.most i x);
}

pub combined_lawful : (s t : Costs) → Lawful (combined s t)
combined_lawful s t = below_lawful _ (added_costs s t) (λ i x. omega arith)

pub window_lawful : (a m : ℕ) (t : Costs) → Lawful t → Lawful (window a m t)
window_lawful a m t l = below_lawful _ (shifted_costs a t) (λ i x. l.most _ x)

pub either_lawful : {P Q : Type 0} (p : P → Costs) (q : Q → Costs) → ((r : P) → Lawful (p r)) → ((r : Q) → Lawful (q r)) → (e : Either P Q) → Lawful (either p q e)
either_lawful p q lp lq (First r) = lp r
either_lawful p q lp lq (Second r) = lq r
