-- A panel of the draft that was opened.
use Rattle.std.proofs.Common.{◌≡◌, ℕ, Ok, Err, Result, IsOkAnd, MatchResult, sym, subst}
use Rattle.field.specs.Field.{Ops}
use Rattle.refusal.specs.declared.Refusal.{Refusal}
use Rattle.panel.specs.declared.session.Panel.{Panel}
use Rattle.panel.specs.declared.session.Stage.{Stage}
use Rattle.panel.specs.Replies.{Opened, Opens}

-- the panel holds the draft that was opened
pub opens : {F : Type 0} (f : Ops) (holding : Stage F → Panel) (n : ℕ) (a : Result (Stage F) Refusal) (r : Result Panel Refusal) → Opened f n a → MatchResult a (λ t. IsOkAnd r (λ p. p ≡ holding t)) (λ e. r ≡ Err e) → Opens f holding n r
opens f holding n (Ok t) (Ok p) o m = (t, m, o)
opens f holding n (Ok t) (Err e) o m = absurd m
opens f holding n (Err e) r o m = subst (Opens f holding n) (sym m) o
