-- What the cheapest word of the code says of messages and ties.
use Rattle.std.proofs.Common.{◌≡◌, ℕ, zero, suc, ◌+◌, ◌*◌, ◌<◌, ◌≤◌, Bool, true, false, List, length, Err, sym, refl, ap, ◌∙◌, ap₂, inl, inr, ⊎_elim, arith}
use Rattle.std.proofs.lemmas.List.{get_or_past}
use Rattle.std.proofs.lemmas.Bool.{cases_lt, cases_eq}
use Rattle.refusal.specs.declared.Refusal.{Refusal}
use Rattle.field.specs.Field.{Ops, Laws}
use Rattle.algebra.specs.Words.{word}
use Rattle.algebra.proofs.Symbols.{zero_symbol}
use Rattle.algebra.proofs.Totals.{total_same}
use Rattle.generator.specs.declared.Generator.{Generator}
use Rattle.generator.specs.Parts.{size, dimension, rows_of, places_of, Message, codeword}
use Rattle.cosets.specs.States.{cosets}
use Rattle.cosets.specs.Cosets.{Codeword}
use Rattle.cosets.proofs.Codewords.{codeword_coset, coset_codeword, codeword_message}
use Rattle.reception.specs.Costs.{Costs, Lawful, word_cost}
use Rattle.cheapest.specs.Cheapest.{Same, Cheapest, Sole}
use Rattle.trellis.specs.Rooms.{needed}
use Rattle.trellis.specs.Told.{CheapestFound}
use Rattle.tally.specs.declared.Tally.{Tally}
use Rattle.tally.specs.Tallies.{Counts, counts_of, Counted}
use Rattle.decoding.specs.Decoding.{Decoded, Tied}

-- a word costs no more than so many places can
cost_most : (costs : Costs) → Lawful costs → (n : ℕ) (w : ℕ → ℕ) → word_cost costs n w ≤ 65535 * n
cost_most costs lawful zero w = omega arith
cost_most costs lawful (suc n) w = omega (arith, cost_most costs lawful n w, lawful.most n (w n))

-- words that are the same cost the same
same_cost : (costs : Costs) (n : ℕ) (v w : ℕ → ℕ) → Same v w → word_cost costs n v ≡ word_cost costs n w
same_cost costs zero v w same = refl
same_cost costs (suc n) v w same = ap₂ (λ a b. a + costs.cost n b) (same_cost costs n v w same) (same n)

-- a decoding that nothing is against is counted
pub counted : (Against : Type 0) (next : Counts) (was is : Tally) (r : Bool) → (Against → ⊥) → Counted Against next was r is → counts_of is ≡ next
counted Against next was is true none told = told.1
counted Against next was is false none told = absurd (none told.0)

module _ (f : Ops) (l : Laws f) (g : Generator) (costs : Costs) where
  -- with room, and a buffer of the right length, the code's own coset is found
  pub never_refused : (room places : ℕ) (out : List ℕ) (e : Refusal) → (4096 < cosets f g → ⊥) → (room < needed f g → ⊥) → places ≡ size g → 0 < cosets f g → CheapestFound f g costs 0 room places out (Err e) → ⊥
  never_refused room places out e few enough long some =
      ⊎_elim (λ a. few a.0) (λ a. ⊎_elim (λ b. enough b.0) (λ b. ⊎_elim (λ d. d.0 long) (λ d. ⊎_elim (λ h. omega (arith, h.0)) (λ h. h.1) d.1) b.1) a.1)

  module _ (w : ℕ → ℕ) (c : ℕ) (cheap : Cheapest f g costs 0 w c) where
    pub cost_small : Lawful costs → c ≤ 1572840
    cost_small lawful = let short : size g ≤ 24 = g.short in omega (arith, cheap.cost, cost_most costs lawful (size g) w)

    pub tied : Sole f g costs 0 w c false → Tied f g costs c
    tied (v, inside, cost, other) = record {
      least = λ u in_u. cheap.least u (codeword_coset f l g u in_u);
      first = v;
      second = w;
      first_in = coset_codeword f l g v inside;
      second_in = coset_codeword f l g w cheap.inside;
      first_cost = cost;
      second_cost = cheap.cost;
      differ = other;
    }

    module _ (m : List ℕ) (long : length m ≡ dimension g) (read : (j : ℕ) → j < dimension g → word m j ≡ w (places_of g j)) where
      is_codeword : Same w (codeword f g m)
      is_codeword p = codeword_message f l g w (coset_codeword f l g w cheap.inside) p ∙ total_same f l _ _ (dimension g) (λ j h. ap (λ x. f.product x (rows_of f g j p)) (sym (read j h)))

      pub decoded : Sole f g costs 0 w c true → Decoded f g costs m c
      decoded sole = record {
        message = (long, λ j h. let b : j < dimension g = omega arith in rw (read j b) (cheap.inside.0.0 (places_of g j)));
        cost = same_cost costs (size g) (codeword f g m) w (λ p. sym (is_codeword p)) ∙ cheap.cost;
        others = λ v in_v.
            let inside = codeword_coset f l g v in_v in
            elim (cases_eq (word_cost costs (size g) v) c) [
              | inl e ↦ inl (λ p. sole v inside e p ∙ is_codeword p)
              | inr n ↦ inr (let h = cheap.least v inside in omega (arith, n))
            ];
      }

  codeword_in : (m : List ℕ) → Message f g m → Codeword f g (codeword f g m)
  codeword_in m ok = record {
    coefficients = word m;
    symbols = λ j. elim (cases_lt j (length m)) [ inl h ↦ ok.1 j h | inr h ↦ rw (get_or_past m j 0 h) (zero_symbol l) ];
    is = λ p. refl;
  }

  -- what is decoded is not tied
  pub not_tied : (m : List ℕ) (c : ℕ) → Decoded f g costs m c → (d : ℕ) → Tied f g costs d → ⊥
  not_tied m c dec d tie =
      let low : d ≤ c = let h = tie.least (codeword f g m) (codeword_in m dec.message) in omega (arith, dec.cost) in
      let same : (v : ℕ → ℕ) → Codeword f g v → word_cost costs (size g) v ≡ d → Same v (codeword f g m) = λ v in_v e. ⊎_elim (λ s. s) (λ h. absurd (omega arith)) (dec.others v in_v) in
      tie.differ (λ p. same tie.first tie.first_in tie.first_cost p ∙ sym (same tie.second tie.second_in tie.second_cost p))
