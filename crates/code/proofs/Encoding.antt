-- What is written for a message is its codeword, and no other message has it.
use Rattle.std.proofs.Common.{◌≡◌, ℕ, ◌<◌, List, length, sym, ap, ◌∙◌, inl, inr, arith}
use Rattle.std.proofs.lemmas.List.{get_or_past, get_or_default, same_lists}
use Rattle.std.proofs.lemmas.Bool.{cases_lt}
use Rattle.field.specs.Field.{Ops, Laws}
use Rattle.algebra.specs.Words.{word, Symbols, Span}
use Rattle.algebra.proofs.Symbols.{zero_symbol}
use Rattle.algebra.proofs.Totals.{total_zero}
use Rattle.algebra.proofs.Cells.{by_zero}
use Rattle.algebra.proofs.Unique.{read_off}
use Rattle.generator.specs.declared.Generator.{Generator}
use Rattle.generator.specs.Parts.{size, dimension, rows_of, places_of, Message, codeword}
use Rattle.generator.proofs.Systematics.{symbols_of, systematic, ends}
use Rattle.code.specs.Codes.{Encoded}

module _ (f : Ops) (l : Laws f) (g : Generator) where
  message_symbols : (m : List ℕ) → Message f g m → Symbols f (word m)
  message_symbols m ok j = elim (cases_lt j (length m)) [ inl h ↦ ok.1 j h | inr h ↦ rw (get_or_past m j 0 h) (zero_symbol l) ]

  -- the word w is the codeword of m, whose symbols stand in it
  carried : (m : List ℕ) → Message f g m → (w : ℕ → ℕ) → ((p : ℕ) → w p ≡ codeword f g m p) → (j : ℕ) → j < dimension g → w (places_of g j) ≡ word m j
  carried m ok w is j h =
      let s : Span f (dimension g) (rows_of f g) w = record { coefficients = word m; symbols = message_symbols m ok; is = is } in
      read_off f l (dimension g) (rows_of f g) (symbols_of f l g) (places_of g) (systematic f l g) w s j h

  pub encoded : (m out : List ℕ) → Message f g m → length out ≡ size g → ((p : ℕ) → p < length out → word out p ≡ codeword f g m p) → Encoded f g m out
  encoded m out ok long written =
      let is : (p : ℕ) → word out p ≡ codeword f g m p = λ p. elim (cases_lt p (length out)) [
        | inl h ↦ written p h
        | inr h ↦ get_or_past out p 0 h ∙ sym (total_zero f l _ (dimension g) (λ j _. ap (f.product (word m j)) (ends f l g j p (omega arith)) ∙ by_zero f l (word m j)))
      ] in
      record {
        is = is;
        spanned = record { coefficients = word m; symbols = message_symbols m ok; is = is };
        carries = carried m ok (word out) is;
        alone = λ v good same. same_lists v m (good.0 ∙ sym ok.0) (λ k d h.
            let b : k < dimension g = let e = good.0 in omega arith in
            let c : k < length m = let e = ok.0 in omega arith in
            get_or_default v k d 0 h ∙ sym (carried v good (word out) same k b) ∙ carried m ok (word out) is k b ∙ get_or_default m k 0 d c);
      }
