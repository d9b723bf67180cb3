-- How the panel answers a command, and what it and its work memory hold then.
use Rattle.std.specs.Prelude.{◌≡◌, ℕ, ◌⊎◌, List, [], Some, None, Ok, Err, Option, Result}
use Rattle.field.specs.Field.{Ops}
use Rattle.field.specs.Remainders.{remainders}
use Rattle.field.specs.Polynomials.{polynomials}
use Rattle.generator.specs.Parts.{dimension}
use Rattle.tally.specs.Tallies.{counts_of, none_yet}
use Rattle.code.specs.declared.draft.Draft.{Draft}
use Rattle.code.specs.declared.sealed.Code.{Code}
use Rattle.code.specs.Views.{basis_of, generator_of, tally_of}
use Rattle.code.specs.Drafts.{State, fresh, Holds, LengthSet, RowPushed, RowPopped, after_push, after_pop, Turns}
use Rattle.code.specs.Codes.{Sealed}
use Rattle.refusal.specs.declared.Refusal.{Refusal}
use Rattle.notation.specs.declared.command.Command.{Command}
use Rattle.notation.specs.declared.command.Command.TheVariants.{Kind, Row, Back, Seal, Send, Hear, Distance, Noise}
use Rattle.notation.specs.declared.command.Order.{Order}
use Rattle.notation.specs.declared.command.Order.TheVariants.{Two, Three, Four, Sixteen}
use Rattle.notation.specs.Commands.{Says}
use Rattle.panel.specs.declared.session.Panel.{Panel}
use Rattle.panel.specs.declared.session.Panel.TheVariants as panel
use Rattle.panel.specs.declared.session.Stage.{Stage}
use Rattle.panel.specs.declared.session.Stage.TheVariants as stage
use Rattle.panel.specs.declared.replies.Reply.{Reply}
use Rattle.panel.specs.declared.replies.Reply.TheVariants as reply
use Rattle.panel.specs.Calls.{replied, Sent, Heard, Measured, NoiseTold}

-- a reply or a refusal, or neither at a command that is out of its state
abbrev pub Answer : Type 0
Answer = Option (Result Reply Refusal)

-- such a command changes nothing, here a draft
abbrev pub Passed : {F : Type 0} → Stage F → Stage F → Answer → Type 0
Passed s t r = (t ≡ s) × (r ≡ None)

-- a command at a draft
abbrev pub AtDraft : {F : Type 0} → Ops → Draft F → Command → Stage F → Answer → Type 0
AtDraft {F} f d (Row w) t r =
    (e : Draft F) × (a : Result ℕ Refusal) × (t ≡ stage.Open e) × (r ≡ Some (replied reply.Number a)) × Turns f (basis_of d) (λ s. RowPushed f s w) (λ s. after_push s w) a (basis_of e)
AtDraft {F} f d Back t r =
    (e : Draft F) × (a : Result ℕ Refusal) × (t ≡ stage.Open e) × (r ≡ Some (replied reply.Number a)) × Turns f (basis_of d) RowPopped after_pop a (basis_of e)
AtDraft {F} f d Seal t r =
    (c : Code F) × (t ≡ stage.Sealed c) × (r ≡ Some (Ok (reply.Number (dimension (generator_of c))))) × ((s : State) → Holds f (basis_of d) s → Sealed f s (generator_of c)) × (counts_of (tally_of c) ≡ none_yet)
AtDraft f d (Kind q n) t r = Passed (stage.Open d) t r
AtDraft f d (Send w) t r = Passed (stage.Open d) t r
AtDraft f d (Hear w) t r = Passed (stage.Open d) t r
AtDraft f d Distance t r = Passed (stage.Open d) t r
AtDraft f d Noise t r = Passed (stage.Open d) t r

-- nor does it change a code c, which then is d, or the work memory `was`, which then is `is`
abbrev pub Unmoved : {F : Type 0} → Code F → List ℕ → Code F → List ℕ → Type 0
Unmoved c was d is = (d ≡ c) × (is ≡ was)

-- a command at a code c, which then is d, with the work memory `was`, which then is `is`
abbrev pub AtCode : {F : Type 0} → Ops → Code F → Command → List ℕ → Code F → Answer → List ℕ → Type 0
AtCode f c (Send w) was d r is = (a : Result Reply Refusal) × (r ≡ Some a) × Sent f (generator_of c) w a × Unmoved c was d is
AtCode f c (Hear w) was d r is = (a : Result Reply Refusal) × (r ≡ Some a) × Heard f c w was d a is
AtCode f c Distance was d r is = (a : Result Reply Refusal) × (r ≡ Some a) × Measured f (generator_of c) was a is × (d ≡ c)
AtCode f c Noise was d r is = (a : Result Reply Refusal) × (r ≡ Some a) × NoiseTold (counts_of (tally_of c)) a × Unmoved c was d is
AtCode f c (Row w) was d r is = (r ≡ None) × Unmoved c was d is
AtCode f c Back was d r is = (r ≡ None) × Unmoved c was d is
AtCode f c Seal was d r is = (r ≡ None) × Unmoved c was d is
AtCode f c (Kind q n) was d r is = (r ≡ None) × Unmoved c was d is

-- a command at a draft needs no work memory
abbrev pub AtStage : {F : Type 0} → Ops → Stage F → Command → List ℕ → Stage F → Answer → List ℕ → Type 0
AtStage f (stage.Open d) command was t r is = AtDraft f d command t r × (is ≡ was)
AtStage {F} f (stage.Sealed c) command was t r is = (d : Code F) × (t ≡ stage.Sealed d) × AtCode f c command was d r is

-- the draft of length n with which the panel begins, or why there is none
abbrev pub Opened : {F : Type 0} → Ops → ℕ → Result (Stage F) Refusal → Type 0
Opened {F} f n (Ok t) = (d : Draft F) × (t ≡ stage.Open d) × LengthSet fresh n (Ok tt) × Holds f (basis_of d) record { size = n; rows = [] }
Opened f n (Err e) = LengthSet fresh n (Err e)

-- the panel that holds it
abbrev pub Opens : {F : Type 0} → Ops → (Stage F → Panel) → ℕ → Result Panel Refusal → Type 0
Opens {F} f holding n (Ok p) = (t : Stage F) × (p ≡ holding t) × Opened f n (Ok t)
Opens {F} f holding n (Err e) = Opened {F = F} f n (Err e)

-- what the panel knows of the field of each order
abbrev pub arithmetic : Order → Ops
arithmetic Two = remainders 2
arithmetic Three = remainders 3
arithmetic Four = polynomials 2 3
arithmetic Sixteen = polynomials 4 3

-- the field of this order is chosen, and the length n
abbrev pub Chosen : Order → ℕ → Result Panel Refusal → Type 0
Chosen Two n a = Opens (arithmetic Two) panel.Two n a
Chosen Three n a = Opens (arithmetic Three) panel.Three n a
Chosen Four n a = Opens (arithmetic Four) panel.Four n a
Chosen Sixteen n a = Opens (arithmetic Sixteen) panel.Sixteen n a

-- the panel and its reply then
abbrev pub Begins : Result Panel Refusal → Panel → Answer → Type 0
Begins (Ok q) p r = (p ≡ q) × (r ≡ Some (Ok reply.Done))
Begins (Err e) p r = (p ≡ panel.Fresh) × (r ≡ Some (Err e))

-- a command that is not for a panel changes nothing
abbrev pub Ignored : Panel → Panel → Answer → Type 0
Ignored q p r = (p ≡ q) × (r ≡ None)

-- a command at a fresh panel
abbrev pub AtFresh : Command → Panel → Answer → Type 0
AtFresh (Kind q n) p r = (a : Result Panel Refusal) × Chosen q n a × Begins a p r
AtFresh (Row w) p r = Ignored panel.Fresh p r
AtFresh Back p r = Ignored panel.Fresh p r
AtFresh Seal p r = Ignored panel.Fresh p r
AtFresh (Send w) p r = Ignored panel.Fresh p r
AtFresh (Hear w) p r = Ignored panel.Fresh p r
AtFresh Distance p r = Ignored panel.Fresh p r
AtFresh Noise p r = Ignored panel.Fresh p r

-- a command at the stage s, of which the panel p then holds what is left, as `holds` tells
abbrev pub Kept : {F : Type 0} → Ops → (Stage F → Panel → Type 0) → Stage F → Command → List ℕ → Panel → Answer → List ℕ → Type 0
Kept {F} f holds s command was p r is = (t : Stage F) × holds t p × AtStage f s command was t r is

-- A command at a panel, which then is p: it chooses a field first, and goes to the draft or the code of that field from then on. The work memory was `was`, and then is `is`.
abbrev pub Answered : Panel → Command → List ℕ → Panel → Answer → List ℕ → Type 0
Answered panel.Fresh command was p r is = AtFresh command p r × (is ≡ was)
Answered (panel.Two s) command was p r is = Kept (arithmetic Two) (λ t q. q ≡ panel.Two t) s command was p r is
Answered (panel.Three s) command was p r is = Kept (arithmetic Three) (λ t q. q ≡ panel.Three t) s command was p r is
Answered (panel.Four s) command was p r is = Kept (arithmetic Four) (λ t q. q ≡ panel.Four t) s command was p r is
Answered (panel.Sixteen s) command was p r is = Kept (arithmetic Sixteen) (λ t q. q ≡ panel.Sixteen t) s command was p r is

-- a line at a panel is answered as the one command that it says, and one that says none changes nothing
abbrev pub LineAnswered : Panel → List ℕ → List ℕ → Panel → Answer → List ℕ → Type 0
LineAnswered s line was p r is =
    ((command : Command) × Says line command × Answered s command was p r is)
    ⊎ (((command : Command) → Says line command → ⊥) × Ignored s p r × (is ≡ was))
