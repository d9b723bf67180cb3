-- Calls lead to one length and rows, and each answer tells which.
use Rattle.std.proofs.Common.{◌≡◌, ℕ, zero, suc, ◌<◌, List, [], ◌∷◌, ◌++◌, length, Ok, Err, Result, sym, refl, ap, ◌∙◌, subst, inl, inr, not-suc-le-zero, arith}
use Rattle.std.proofs.lemmas.List.{nil_from_length}
use Rattle.std.proofs.lemmas.Bool.{cases_eq, cases_lt}
use Rattle.field.specs.Field.{Ops}
use Rattle.algebra.specs.Words.{word, Dependent}
use Rattle.basis.specs.declared.Basis.{Basis}
use Rattle.refusal.specs.declared.Refusal.{Refusal}
use Rattle.code.specs.Drafts.{State, Holds, FirstNone, LengthSet, RowPushed, RowPopped, after_length, after_push, after_pop, Turns}
use Rattle.code.specs.Histories.{Call, set_length, push_row, pop_row, Fits, SaysDependent, Moves, Leads, Held, Follows, GoesOn, TellsDependence}

module _ (f : Ops) where
  one_more : {s m : State} {cs : List Call} (c : Call) (t : State) → Leads f s cs m → Moves f m c t → Leads f s (cs ++ c ∷ []) t
  one_more c t Leads.none q = Leads.next q Leads.none
  one_more c t (Leads.next p l) q = Leads.next p (one_more c t l q)

  one_way : (s : State) (c : Call) (t u : State) → Moves f s c t → Moves f s c u → t ≡ u
  one_way s c t u (inl p) (inl q) = p.1 ∙ sym q.1
  one_way s c t u (inl p) (inr q) = absurd (q.0 p.0)
  one_way s c t u (inr p) (inl q) = absurd (p.0 q.0)
  one_way s c t u (inr p) (inr q) = p.1 ∙ sym q.1

  one_end : {s t : State} {cs : List Call} (u : State) → Leads f s cs t → Leads f s cs u → t ≡ u
  one_end u Leads.none Leads.none = refl
  one_end u (Leads.next {cs = cs} p l) (Leads.next q k) = one_end u l (subst (λ (z : State). Leads f z cs u) (sym (one_way _ _ _ _ p q)) k)

  -- a basis that follows from calls stands for the length and the rows to which they lead
  pub held_holds : (calls : List Call) (b : Basis) (s : State) → Follows f calls b → Held f calls s → Holds f b s
  held_holds calls b s p h = subst (λ (z : State). Holds f b z) (one_end s p.1 h) p.2

  -- a word in which no first number is no symbol has only symbols
  all_symbols : (w : List ℕ) → ((p : ℕ) → FirstNone f w p → ⊥) → (n k : ℕ) → k < n → k < length w → word w k < f.order
  all_symbols w none zero k b h = absurd (not-suc-le-zero b)
  all_symbols w none (suc n) k b h = elim (cases_lt (word w k) f.order) [
    | inl x ↦ x
    | inr x ↦ absurd (none k (h, x, λ j y. all_symbols w none n j (omega arith) (omega arith)))
  ]

  length_moves : (s : State) (n : ℕ) (r : Result Unit Refusal) → LengthSet s n r → Moves f s (set_length n) (after_length s n r)
  length_moves s n (Ok a) h =
      inl (
        (
          elim (cases_eq n 0) [ inl e ↦ absurd (h.0 (inl e)) | inr e ↦ omega arith ],
          elim (cases_lt 24 n) [ inl e ↦ absurd (h.0 (inr e)) | inr e ↦ e ],
          nil_from_length s.rows (elim (cases_eq (length s.rows) 0) [ inl e ↦ e | inr e ↦ absurd (h.1.0 (omega arith)) ]),
        ),
        refl,
      )
  length_moves s n (Err e) (inl (inl z, _, _)) = inr (λ t. omega (arith, z, t.0), refl)
  length_moves s n (Err e) (inl (inr z, _, _)) = inr (λ t. omega (arith, z, t.1), refl)
  length_moves s n (Err e) (inr (_, inl (some, _, _))) = inr (λ t. omega (arith, some, ap length t.2), refl)
  length_moves s n (Err e) (inr (_, inr (_, none))) = absurd none

  push_moves : (s : State) (w : List ℕ) (r : Result ℕ Refusal) → RowPushed f s w r → Moves f s (push_row w) (after_push s w r)
  push_moves s w (Ok a) h =
      inl (
        (
          (elim (cases_eq (length w) s.size) [ inl e ↦ e | inr e ↦ absurd (h.0 e) ], λ k b. all_symbols w h.1.0 (suc k) k (omega arith) b),
          h.1.1.0,
        ),
        refl,
      )
  push_moves s w (Err e) (inl (other, _, _)) = inr (λ t. other t.0.0, refl)
  push_moves s w (Err e) (inr (_, inl (p, none, _, _))) = inr (λ t. omega (arith, none.1, t.0.1 p none.0), refl)
  push_moves s w (Err e) (inr (_, inr (_, inl (dependent, _, _)))) = inr (λ t. t.1 dependent, refl)
  push_moves s w (Err e) (inr (_, inr (_, inr (_, none)))) = absurd none

  pop_moves : (s : State) (r : Result ℕ Refusal) → RowPopped s r → Moves f s pop_row (after_pop s r)
  pop_moves s (Ok a) h = inl (elim (cases_eq (length s.rows) 0) [ inl e ↦ absurd (h.0 (nil_from_length s.rows e)) | inr e ↦ omega arith ], refl)
  pop_moves s (Err e) (inl (empty, _, _)) = inr (λ t. omega (arith, t, ap length empty), refl)
  pop_moves s (Err e) (inr (_, none)) = absurd none

  -- a call whose answer tells how it moves the length and the rows
  goes_on : {A : Type 0} (call : Call) (told : State → Result A Refusal → Type 0) (after : State → Result A Refusal → State) (b c : Basis) (r : Result A Refusal)
      → ((s : State) → told s r → Moves f s call (after s r)) → Turns f b told after r c → GoesOn f b call c
  goes_on call told after b c r moves turns calls p =
      let a = turns p.0 p.2 in
      (after p.0 r, one_more call (after p.0 r) p.1 (moves p.0 a.0), a.1)

  pub length_goes_on : (n : ℕ) (b c : Basis) (r : Result Unit Refusal) → Turns f b (λ s. LengthSet s n) (λ s. after_length s n) r c → GoesOn f b (set_length n) c
  length_goes_on n b c r turns = goes_on (set_length n) (λ s. LengthSet s n) (λ s. after_length s n) b c r (λ s. length_moves s n r) turns

  pub push_goes_on : (w : List ℕ) (b c : Basis) (r : Result ℕ Refusal) → Turns f b (λ s. RowPushed f s w) (λ s. after_push s w) r c → GoesOn f b (push_row w) c
  push_goes_on w b c r turns = goes_on (push_row w) (λ s. RowPushed f s w) (λ s. after_push s w) b c r (λ s. push_moves s w r) turns

  pub pop_goes_on : (b c : Basis) (r : Result ℕ Refusal) → Turns f b RowPopped after_pop r c → GoesOn f b pop_row c
  pop_goes_on b c r turns = goes_on pop_row RowPopped after_pop b c r (λ s. pop_moves s r) turns

  push_tells : (s : State) (w : List ℕ) (r : Result ℕ Refusal) → RowPushed f s w r → Fits f s w → (SaysDependent r → Dependent f s.rows w) × (Dependent f s.rows w → SaysDependent r)
  push_tells s w (Ok a) h fits = ((λ z. absurd z), (λ d. absurd (h.1.1.0 d)))
  push_tells s w (Err e) (inl (other, _, _)) fits = absurd (other fits.0)
  push_tells s w (Err e) (inr (_, inl (p, none, _, _))) fits = absurd (omega (arith, none.1, fits.1 p none.0))
  push_tells s w (Err e) (inr (_, inr (_, inl (dependent, six, _)))) fits = ((λ _. dependent), (λ _. six))
  push_tells s w (Err e) (inr (_, inr (_, inr (_, none)))) fits = absurd none

  pub tells_dependence : (w : List ℕ) (b c : Basis) (r : Result ℕ Refusal) → Turns f b (λ s. RowPushed f s w) (λ s. after_push s w) r c → TellsDependence f b w r
  tells_dependence w b c r turns calls s p h fits = push_tells s w r (turns s (held_holds calls b s p h)).0 fits
