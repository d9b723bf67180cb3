-- The laws of arithmetic of polynomials, from tests over all symbols that antt computes.
use Rattle.std.specs.Prelude.{◌≡◌, ℕ, zero, suc, Bool, true, ◌&&◌, ◌||◌, eqb, List, [], ◌∷◌, ◌==◌, nat_le, nat_lt, slice_index_or, refl}
use Rattle.std.proofs.Common.{inl, inr}
use Rattle.std.proofs.lemmas.Bool.{and_parts, or_cases, eqb-true, ltb-true, leb-true}
use Rattle.field.specs.Field.{Ops, Laws}
use Rattle.field.specs.Polynomials.{polynomials}
use Rattle.field.specs.Tests.{every, every2, every3, every_at, every2_at, every3_at}
use Rattle.field.specs.SymbolLaws.{symbol_none, symbols_right_none}

-- the tests, one for each law that speaks of symbols
abbrev tests : Ops → List Bool
tests f =
    nat_le 2 f.order
    ∷ nat_le f.order 16
    ∷ every2 (λ a b. nat_lt (f.sum a b) f.order) f.order
    ∷ every (λ a. nat_lt (f.negative a) f.order) f.order
    ∷ every2 (λ a b. nat_lt (f.product a b) f.order) f.order
    ∷ every (λ a. nat_lt (f.inverse a) f.order) f.order
    ∷ every3 (λ a b c. eqb (f.sum (f.sum a b) c) (f.sum a (f.sum b c))) f.order
    ∷ every2 (λ a b. eqb (f.sum a b) (f.sum b a)) f.order
    ∷ every (λ a. eqb (f.sum 0 a) a) f.order
    ∷ every (λ a. eqb (f.sum a (f.negative a)) 0) f.order
    ∷ every3 (λ a b c. eqb (f.product (f.product a b) c) (f.product a (f.product b c))) f.order
    ∷ every2 (λ a b. eqb (f.product a b) (f.product b a)) f.order
    ∷ every (λ a. eqb (f.product 1 a) a) f.order
    ∷ every (λ a. (a == 0) || f.product a (f.inverse a) == 1) f.order
    ∷ every3 (λ a b c. eqb (f.product a (f.sum b c)) (f.sum (f.product a b) (f.product a c))) f.order
    ∷ (f.inverse 0 == 0)
    ∷ []

-- every test of the list passes
abbrev passes : List Bool → Bool
passes [] = true
passes (b ∷ bs) = b && passes bs

pass_at : (bs : List Bool) → passes bs ≡ true → (i : ℕ) → slice_index_or bs i true ≡ true
pass_at [] t i = refl
pass_at (b ∷ bs) t zero = (and_parts b (passes bs) t).0
pass_at (b ∷ bs) t (suc i) = pass_at bs (and_parts b (passes bs) t).1 i

polynomial_laws : (digits low : ℕ) → passes (tests (polynomials digits low)) ≡ true → Laws (polynomials digits low)
polynomial_laws digits low t =
    let p = pass_at (tests (polynomials digits low)) t in
    record {
      least = leb-true _ _ (p 0);
      most = leb-true _ _ (p 1);
      sum_symbol = λ a b h k. ltb-true _ _ (every2_at _ _ (p 2) a b h k);
      negative_symbol = λ a h. ltb-true _ _ (every_at _ _ (p 3) a h);
      product_symbol = λ a b h k. ltb-true _ _ (every2_at _ _ (p 4) a b h k);
      inverse_symbol = λ a h. ltb-true _ _ (every_at _ _ (p 5) a h);
      sum_assoc = λ a b c h k l. eqb-true _ _ (every3_at _ _ (p 6) a b c h k l);
      sum_comm = λ a b h k. eqb-true _ _ (every2_at _ _ (p 7) a b h k);
      sum_zero = λ a h. eqb-true _ _ (every_at _ _ (p 8) a h);
      sum_negative = λ a h. eqb-true _ _ (every_at _ _ (p 9) a h);
      product_assoc = λ a b c h k l. eqb-true _ _ (every3_at _ _ (p 10) a b c h k l);
      product_comm = λ a b h k. eqb-true _ _ (every2_at _ _ (p 11) a b h k);
      product_one = λ a h. eqb-true _ _ (every_at _ _ (p 12) a h);
      product_inverse = λ a h ne. elim (or_cases _ _ (every_at _ _ (p 13) a h)) [ inl e ↦ absurd (ne (eqb-true _ _ e)) | inr e ↦ eqb-true _ _ e ];
      product_sum = λ a b c h k l. eqb-true _ _ (every3_at _ _ (p 14) a b c h k l);
      sum_left_none = λ a b h. symbol_none _ a _ h;
      sum_right_none = λ a b h. symbols_right_none _ a b _ h;
      negative_none = λ a h. symbol_none _ a _ h;
      product_left_none = λ a b h. symbol_none _ a _ h;
      product_right_none = λ a b h. symbols_right_none _ a b _ h;
      inverse_none = λ a h. symbol_none _ a _ h;
      inverse_zero = eqb-true _ _ (p 15);
    }

pub four_laws : Laws (polynomials 2 3)
unfolding every every2 every3
four_laws = polynomial_laws 2 3 refl

pub sixteen_laws : Laws (polynomials 4 3)
unfolding every every2 every3
sixteen_laws = polynomial_laws 4 3 refl
