-- What a tally counts, and the noise figure.
use Rattle.std.specs.Prelude.{◌≡◌, ℕ, ◌+◌, ◌*◌, ◌/◌, ◌<◌, Bool, true, false, ◌⊎◌, None, Result}
use Rattle.refusal.specs.declared.Refusal.{Refusal}
use Rattle.refusal.specs.Refusals.{accepted, refused_if}
use Rattle.tally.specs.declared.Tally.{Tally}

-- the decodings answered, the decodings tied, and what the answered ones cost, all together
pub record Counts : Type 0 where
  pub answered : ℕ
  pub tied : ℕ
  pub cost : ℕ

abbrev pub counts_of : Tally → Counts
counts_of t = record { answered = t.answered; tied = t.tied; cost = t.cost }

-- of no decodings
abbrev pub none_yet : Counts
none_yet = record { answered = 0; tied = 0; cost = 0 }

-- after a decoding more that was answered, at this cost
abbrev pub after_answered : Counts → ℕ → Counts
after_answered c cost = record { answered = c.answered + 1; tied = c.tied; cost = c.cost + cost }

-- after a decoding more that was tied
abbrev pub after_tied : Counts → Counts
after_tied c = record { answered = c.answered; tied = c.tied + 1; cost = c.cost }

-- no decoding more can be counted
abbrev pub Full : Counts → Type 0
Full c = c.answered + c.tied ≡ 1000000000

-- more than 24 places of 65535 each, which no decoding costs
abbrev pub TooDear : ℕ → Type 0
TooDear cost = 1572840 < cost

-- an answer that tells whether so
abbrev pub Whether : Type 0 → Bool → Type 0
Whether C true = C
Whether C false = C → ⊥

-- A decoding is to be counted in the tally t, which then is u. It is counted exactly if nothing is
-- against it: then the counts are `next`. Otherwise nothing has changed.
abbrev pub Counted : Type 0 → Counts → Tally → Bool → Tally → Type 0
Counted Against next t true u = (Against → ⊥) × (counts_of u ≡ next)
Counted Against next t false u = Against × (u ≡ t)

-- counting a decoding that was answered at this cost
abbrev pub AnsweredCounted : Tally → ℕ → Bool → Tally → Type 0
AnsweredCounted t cost = Counted (Full (counts_of t) ⊎ TooDear cost) (after_answered (counts_of t) cost) t

-- counting a decoding that was tied
abbrev pub TiedCounted : Tally → Bool → Tally → Type 0
TiedCounted t = Counted (Full (counts_of t)) (after_tied (counts_of t)) t

-- The noise figure: what an answered decoding cost on the average, in thousandths, the fraction dropped.
abbrev pub noise : ℕ → ℕ → ℕ
noise answered cost = 1000 * cost / answered

-- telling the noise figure
abbrev pub FigureTold : Counts → Result ℕ Refusal → Type 0
FigureTold c =
    refused_if (c.answered ≡ 0) 18 None
    (accepted (λ figure. figure ≡ noise c.answered c.cost))
