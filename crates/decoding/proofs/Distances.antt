-- The least weight of a codeword that is not all 0 is the distance: two codewords differ in as many places as their difference weighs.
use Rattle.std.proofs.Common.{ℕ, ◌≤◌, Some, None, Ok, Err, Option, Result, ◌∙◌, subst, inl, inr, arith}
use Rattle.std.proofs.lemmas.Bool.{cases_eq}
use Rattle.refusal.specs.declared.Refusal.{Refusal}
use Rattle.field.specs.Field.{Ops, Laws}
use Rattle.algebra.specs.Words.{Symbols}
use Rattle.algebra.proofs.Spans.{span_zero}
use Rattle.generator.specs.declared.Generator.{Generator}
use Rattle.generator.specs.Parts.{size, dimension, rows_of, places_of}
use Rattle.generator.proofs.Systematics.{symbols_of}
use Rattle.cosets.specs.Cosets.{Codeword}
use Rattle.cosets.proofs.Codewords.{codeword_coset, codeword_first, codeword_none}
use Rattle.cosets.proofs.Weights.{minus, differences_zero, codeword_minus, minus_zero, weight_minus}
use Rattle.cheapest.specs.Lightest.{Lightest}
use Rattle.trellis.specs.Told.{LightestFound}
use Rattle.decoding.specs.Distances.{Distance, DistanceFound}

module _ (f : Ops) (l : Laws f) (g : Generator) where
  -- a codeword has only symbols
  symbols : (w : ℕ → ℕ) → Codeword f g w → Symbols f w
  symbols w c = (codeword_coset f l g w c).0.0

  -- a code with message symbols has a codeword that is not all 0, and no other code has one
  lightest_distance : (r : Option ℕ) → Lightest f g r → Distance f g r
  lightest_distance None all = elim (cases_eq (dimension g) 0) [
    | inl e ↦ e
    | inr some ↦
        let first = codeword_first f l g (omega arith) in
        absurd (omega (arith, first.1, all (rows_of f g 0) first.0 (places_of g 0)))
  ]
  lightest_distance (Some d) h =
      let w = h.0.0 in
      let c : Codeword f g w = h.0.1 in (
        (λ e. h.0.2 (codeword_none f l g w e c)),
        record {
          first = w;
          second = λ _. 0;
          first_in = c;
          second_in = span_zero f l (dimension g) (rows_of f g) (symbols_of f l g);
          differ = h.0.2;
          places = differences_zero (size g) w ∙ h.0.3;
          least = λ u v a b other.
              subst (λ k. d ≤ k) (weight_minus f l (size g) u v (symbols u a) (symbols v b))
              (h.1 (minus f u v) (codeword_minus f l g u v a b) (λ zeros. other (λ p. minus_zero f l (u p) (v p) (symbols u a p) (symbols v b p) (zeros p))));
        },
      )

  -- the causes of refusal are the same
  pub distance_found : (room : ℕ) (r : Result (Option ℕ) Refusal) → LightestFound f g room r → DistanceFound f g room r
  distance_found room (Ok r) h = (h.0, (h.1.0, lightest_distance r h.1.1))
  distance_found room (Err e) h = h
