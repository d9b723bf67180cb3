-- What a call of the panel's draft or code is replied with.
use Rattle.std.specs.Prelude.{◌≡◌, ℕ, List, length, Ok, Err, Option, Result, MatchResult}
use Rattle.field.specs.Field.{Ops}
use Rattle.generator.specs.declared.Generator.{Generator}
use Rattle.generator.specs.Parts.{size, dimension}
use Rattle.refusal.specs.declared.Refusal.{Refusal}
use Rattle.reception.specs.Layers.{hard_word}
use Rattle.trellis.specs.Clearing.{Cleared}
use Rattle.tally.specs.Tallies.{Counts, counts_of, FigureTold}
use Rattle.decoding.specs.Decoding.{MessageDecoded, Tallied, WorkLeft}
use Rattle.decoding.specs.Distances.{DistanceFound}
use Rattle.code.specs.declared.sealed.Code.{Code}
use Rattle.code.specs.Views.{generator_of, tally_of}
use Rattle.code.specs.Codes.{MessageEncoded}
use Rattle.panel.specs.declared.replies.Reply.{Reply}
use Rattle.panel.specs.declared.replies.Reply.TheVariants as reply

-- a call's answer makes the reply, and a refusal stays one
abbrev pub replied : {A : Type 0} → (A → Reply) → Result A Refusal → Result Reply Refusal
replied make (Ok a) = Ok (make a)
replied make (Err e) = Err e

-- the reply to the message m: its codeword, of n symbols
abbrev pub Sent : Ops → Generator → List ℕ → Result Reply Refusal → Type 0
Sent f g m r =
    (out : List ℕ) × (a : Result Unit Refusal) × (r ≡ replied (λ _. reply.Word record { items = out }) a) × (length out ≡ size g) × MessageEncoded f g m (size g) out a

-- The word w is heard at the code c, with the work memory `was`, and the reply is its message and the cost. The code
-- then is d, which differs from c in no more than its tally, and the work memory `is`.
abbrev pub Heard : {F : Type 0} → Ops → Code F → List ℕ → List ℕ → Code F → Result Reply Refusal → List ℕ → Type 0
Heard f c w was d r is =
    (out : List ℕ) × (a : Result ℕ Refusal) × (r ≡ replied (reply.Decoded record { items = out }) a)
    × MessageDecoded f (generator_of c) (hard_word w) (length was) (dimension (generator_of c)) (counts_of (tally_of c)) out a
    × (generator_of d ≡ generator_of c) × Tallied (tally_of c) (tally_of d) a × WorkLeft was is a

-- The distance of a code is asked for, with the work memory `was`, which then is `is`: clear, unless the call was refused, which leaves it as it was.
abbrev pub Measured : Ops → Generator → List ℕ → Result Reply Refusal → List ℕ → Type 0
Measured f g was r is =
    (a : Result (Option ℕ) Refusal) × (r ≡ replied reply.Distance a) × DistanceFound f g (length was) a × MatchResult a (λ _. Cleared is) (λ _. is ≡ was)

-- the reply to a call for the noise figure of these counts
abbrev pub NoiseTold : Counts → Result Reply Refusal → Type 0
NoiseTold counts r = (a : Result ℕ Refusal) × (r ≡ replied reply.Figure a) × FigureTold counts a
