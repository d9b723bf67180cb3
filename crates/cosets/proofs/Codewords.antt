-- Codewords: they are the coset of the index 0, and their symbols at the information places tell them.
-- And every coset has a word.
use Rattle.std.proofs.Common.{◌≡◌, ℕ, zero, suc, ◌+◌, ◌*◌, ◌/◌, ◌%◌, ◌^◌, ◌<◌, false, cond, eqb, sym, refl, ap, ◌∙◌, ap₂, pow-suc, div-add-mod', arith}
use native.Mathlib.Nat.{pow-zero}
use Rattle.std.proofs.lemmas.Nat.{div_below, mod_below}
use Rattle.std.proofs.lemmas.Bool.{cond-true, cond-false, cond_both, eq-eqb, ne_eqb}
use Rattle.field.specs.Field.{Ops, Laws}
use Rattle.algebra.specs.Words.{Symbols, combination}
use Rattle.algebra.specs.Checks.{informs, at_information, index}
use Rattle.algebra.proofs.Symbols.{zero_symbol}
use Rattle.algebra.proofs.Totals.{sum_zero_right, zero_product, total_same, total_zero}
use Rattle.algebra.proofs.Spans.{span_row}
use Rattle.algebra.proofs.Unique.{read_off}
use Rattle.algebra.proofs.Growing.{span_symbols}
use Rattle.algebra.proofs.Forms.{zero_place}
use Rattle.algebra.proofs.Checks.{informs_none, informs_some, check_place_at, check_place_ascends, information_other, information_own, information_symbol}
use Rattle.algebra.proofs.Syndromes.{syndrome_is}
use Rattle.generator.specs.declared.Generator.{Generator}
use Rattle.generator.specs.Parts.{size, dimension, rows_of, places_of, check_place_of, syndrome_of}
use Rattle.generator.proofs.Systematics.{symbols_of, systematic, inside, ends, index_tells}
use Rattle.cosets.specs.States.{checks, cosets}
use Rattle.cosets.specs.Cosets.{Word, Coset, Codeword}

-- the symbol i of the c symbols that the state s stands for
abbrev digit : ℕ → ℕ → ℕ → ℕ → ℕ
digit q zero s i = 0
digit q (suc c) s i = cond (eqb i c) (s % q) (digit q c (s / q) i)

digit_below : (q : ℕ) → 0 < q → (c s i : ℕ) → digit q c s i < q
digit_below q h zero s i = h
digit_below q h (suc c) s i = cond_both (eqb i c) (s % q) (digit q c (s / q) i) (λ x. x < q) (λ _. mod_below s q h) (λ _. digit_below q h c (s / q) i)

-- only the first c symbols count
index_same : (q : ℕ) (v w : ℕ → ℕ) (c : ℕ) → ((i : ℕ) → i < c → v i ≡ w i) → index q v c ≡ index q w c
index_same q v w zero e = refl
index_same q v w (suc c) e = ap₂ (λ x y. x * q + y) (index_same q v w c (λ i h. e i (omega arith))) (e c (omega arith))

-- the symbols of a state make its number again
digit_index : (q : ℕ) → 0 < q → (c s : ℕ) → s < q ^ c → index q (digit q c s) c ≡ s
digit_index q h zero s b = let one = pow-zero q in omega arith
digit_index q h (suc c) s b =
    ap₂ (λ x y. x * q + y)
    (index_same q (digit q (suc c) s) (digit q c (s / q)) c (λ i k. cond-false _ _ _ (ne_eqb i c (omega arith)))
    ∙ digit_index q h c (s / q) (div_below s q (q ^ c) h (rw (pow-suc q c) at b)))
    (cond-true _ _ _ (eq-eqb c c refl))
    ∙ div-add-mod' s q

module _ (f : Ops) (l : Laws f) (g : Generator) where
  -- a codeword is a word of the generator's length
  codeword_word : (w : ℕ → ℕ) → Codeword f g w → Word f g w
  codeword_word w c = (
    span_symbols f l (dimension g) (rows_of f g) (symbols_of f l g) w c,
    (λ p h. zero_place f l (dimension g) (rows_of f g) p (λ i _. ends f l g i p h) w c),
  )

  -- a codeword has syndrome 0
  pub codeword_coset : (w : ℕ → ℕ) → Codeword f g w → Coset f g 0 w
  codeword_coset w c = let ok = codeword_word w c in (ok, (index_tells f l g w ok.0 ok.1).1 c)

  -- a word with syndrome 0 is a codeword
  pub coset_codeword : (w : ℕ → ℕ) → Coset f g 0 w → Codeword f g w
  coset_codeword w c = (index_tells f l g w c.0.0 c.0.1).0 c.1

  -- a codeword is the sum of the rows, each times the codeword's symbol at its information place
  pub codeword_message : (v : ℕ → ℕ) → Codeword f g v → (p : ℕ) → v p ≡ combination f (λ j. v (places_of g j)) (rows_of f g) (dimension g) p
  codeword_message v c p =
      c.is p
      ∙ total_same f l _ _ (dimension g) (λ j h.
      ap (λ x. f.product x (rows_of f g j p)) (sym (read_off f l (dimension g) (rows_of f g) (symbols_of f l g) (places_of g) (systematic f l g) v c j h)))

  -- the first row is a codeword with 1 at its information place
  pub codeword_first : 0 < dimension g → Codeword f g (rows_of f g 0) × (rows_of f g 0 (places_of g 0) ≡ 1)
  codeword_first h = (span_row f l (dimension g) (rows_of f g) (symbols_of f l g) 0 h, (systematic f l g).own 0 h)

  -- of no rows only the word of 0s is a codeword
  pub codeword_none : (w : ℕ → ℕ) → dimension g ≡ 0 → Codeword f g w → (p : ℕ) → w p ≡ 0
  codeword_none w e c p = zero_place f l (dimension g) (rows_of f g) p (λ i h. absurd (omega arith)) w c

  -- the word with the symbols of the state t at the check places, and 0 at the others
  abbrev check_word : ℕ → ℕ → ℕ
  check_word t = at_information (check_place_of g) (checks g) (digit f.order (checks g) t)

  check_word_symbols : (t : ℕ) → Symbols f (check_word t)
  check_word_symbols t = information_symbol (check_place_of g) (digit f.order (checks g) t) f l (digit_below f.order (zero_symbol l) (checks g) t) (checks g)

  check_inside : (i : ℕ) → i < checks g → (check_place_of g i < size g) × (informs (places_of g) (dimension g) (check_place_of g i) ≡ false)
  check_inside i h = check_place_at (places_of g) (dimension g) (size g) (systematic f l g).ascends (inside g) i (omega arith)

  check_word_other : (t p : ℕ) → ((i : ℕ) → i < checks g → check_place_of g i ≡ p → ⊥) → check_word t p ≡ 0
  check_word_other t p none =
      information_other (check_place_of g) (digit f.order (checks g) t) (checks g) p (informs_none (check_place_of g) (checks g) p none)

  check_word_check : (t i : ℕ) → i < checks g → check_word t (check_place_of g i) ≡ digit f.order (checks g) t i
  check_word_check t i h =
      information_own (check_place_of g) (digit f.order (checks g) t) (checks g)
      (λ a b x y. check_place_ascends (places_of g) (dimension g) (size g) (systematic f l g).ascends (inside g) a b x (omega arith)) i h

  -- its syndrome is these symbols
  check_word_syndrome : (t i : ℕ) → i < checks g → syndrome_of f g (check_word t) i ≡ digit f.order (checks g) t i
  check_word_syndrome t i h =
      syndrome_is f l (size g) (dimension g) (rows_of f g) (symbols_of f l g) (places_of g) (systematic f l g) (inside g) (check_word t) (check_word_symbols t) i (omega arith)
      ∙ ap₂ f.sum (check_word_check t i h) (total_zero f l _ (dimension g) (λ j k.
      ap (λ x. f.product x (f.negative (rows_of f g j (check_place_of g i)))) (check_word_other t (places_of g j) (λ a b e. informs_some (places_of g) (dimension g) (check_place_of g a) (check_inside a b).1 j k (sym e)))
      ∙ zero_product f l _ (l.negative_symbol _ (symbols_of f l g j (check_place_of g i)))))
      ∙ sum_zero_right f l _ (digit_below f.order (zero_symbol l) (checks g) t i)

  -- every coset has a word
  pub coset_some : (t : ℕ) → t < cosets f g → (w : ℕ → ℕ) × Coset f g t w
  coset_some t h = (
    check_word t,
    (
      (check_word_symbols t, λ p b. check_word_other t p (λ i k e. omega (arith, (check_inside i k).0))),
      index_same f.order (syndrome_of f g (check_word t)) (digit f.order (checks g) t) (checks g) (check_word_syndrome t)
          ∙ digit_index f.order (zero_symbol l) (checks g) t h,
    ),
  )
