-- A command that a name and a text give.
use Rattle.std.proofs.Common.{◌≡◌, ℕ, ◌≤◌, List, length, get_or, Some, None, codes, Option, refl, ap, ◌∙◌, arith}
use Rattle.std.specs.Option.{option_map}
use Rattle.notation.specs.declared.command.Command.{Command}
use Rattle.notation.specs.declared.command.Command.TheVariants.{Kind, Row, Back, Seal, Send, Hear, Distance, Noise}
use Rattle.notation.specs.declared.command.Order.{Order}
use Rattle.notation.specs.Commands.{KindOf, With}
use Rattle.notation.specs.Only.{Only}
use Rattle.notation.specs.Words.{Spells, Readable}
use Rattle.notation.proofs.Spelling.{readable}

-- one of the commands that have a word
worded : (name text : List ℕ) (make : List ℕ → Command) → ((w : List ℕ) → Spells text w → With name text (make w)) → ((y : Command) → With name text y → (w : List ℕ) × Spells text w × (y ≡ make w)) → length text ≤ 80 → (o : Option (List ℕ)) → Only (Readable text) o → Only (With name text) (option_map make o)
worded name text make to from short (Some w) h =
    (to w h.0.0, λ y a. let f = from y a in f.2 ∙ ap make (h.1 f.0 (readable text f.0 f.1 short)))
worded name text make to from short None h = λ y a. let f = from y a in h f.0 (readable text f.0 f.1 short)

-- no two names begin alike
first : {name other : List ℕ} → name ≡ other → get_or name 0 0 ≡ get_or other 0 0
first e = ap (λ (xs : List ℕ). get_or xs 0 0) e

from_row : (name text : List ℕ) → name ≡ codes "row" → (y : Command) → With name text y → (w : List ℕ) × Spells text w × (y ≡ Row w)
from_row name text e (Row w) a = (w, a.1, refl)
from_row name text e (Kind q n) a = absurd (omega (arith, first e, first a.0))
from_row name text e (Send w) a = absurd (omega (arith, first e, first a.0))
from_row name text e (Hear w) a = absurd (omega (arith, first e, first a.0))
from_row name text e Back a = absurd a
from_row name text e Seal a = absurd a
from_row name text e Distance a = absurd a
from_row name text e Noise a = absurd a

pub row : (name text : List ℕ) → name ≡ codes "row" → length text ≤ 80 → (o : Option (List ℕ)) → Only (Readable text) o → Only (With name text) (option_map Row o)
row name text e = worded name text Row (λ w s. (e, s)) (from_row name text e)

from_send : (name text : List ℕ) → name ≡ codes "send" → (y : Command) → With name text y → (w : List ℕ) × Spells text w × (y ≡ Send w)
from_send name text e (Send w) a = (w, a.1, refl)
from_send name text e (Kind q n) a = absurd (omega (arith, first e, first a.0))
from_send name text e (Row w) a = absurd (omega (arith, first e, first a.0))
from_send name text e (Hear w) a = absurd (omega (arith, first e, first a.0))
from_send name text e Back a = absurd a
from_send name text e Seal a = absurd a
from_send name text e Distance a = absurd a
from_send name text e Noise a = absurd a

pub send : (name text : List ℕ) → name ≡ codes "send" → length text ≤ 80 → (o : Option (List ℕ)) → Only (Readable text) o → Only (With name text) (option_map Send o)
send name text e = worded name text Send (λ w s. (e, s)) (from_send name text e)

from_hear : (name text : List ℕ) → name ≡ codes "hear" → (y : Command) → With name text y → (w : List ℕ) × Spells text w × (y ≡ Hear w)
from_hear name text e (Hear w) a = (w, a.1, refl)
from_hear name text e (Kind q n) a = absurd (omega (arith, first e, first a.0))
from_hear name text e (Row w) a = absurd (omega (arith, first e, first a.0))
from_hear name text e (Send w) a = absurd (omega (arith, first e, first a.0))
from_hear name text e Back a = absurd a
from_hear name text e Seal a = absurd a
from_hear name text e Distance a = absurd a
from_hear name text e Noise a = absurd a

pub hear : (name text : List ℕ) → name ≡ codes "hear" → length text ≤ 80 → (o : Option (List ℕ)) → Only (Readable text) o → Only (With name text) (option_map Hear o)
hear name text e = worded name text Hear (λ w s. (e, s)) (from_hear name text e)

from_kind : (name text : List ℕ) → name ≡ codes "kind" → (y : Command) → With name text y → (p : Order × ℕ) × KindOf text p × (y ≡ Kind p.0 p.1)
from_kind name text e (Kind q n) a = ((q, n), a.1, refl)
from_kind name text e (Row w) a = absurd (omega (arith, first e, first a.0))
from_kind name text e (Send w) a = absurd (omega (arith, first e, first a.0))
from_kind name text e (Hear w) a = absurd (omega (arith, first e, first a.0))
from_kind name text e Back a = absurd a
from_kind name text e Seal a = absurd a
from_kind name text e Distance a = absurd a
from_kind name text e Noise a = absurd a

pub kind : (name text : List ℕ) → name ≡ codes "kind" → (o : Option (Order × ℕ)) → Only (KindOf text) o → Only (With name text) (option_map (λ p. Kind p.0 p.1) o)
kind name text e (Some p) h = ((e, h.0), λ y a. let f = from_kind name text e y a in f.2 ∙ ap (λ (r : Order × ℕ). Kind r.0 r.1) (h.1 f.0 f.1))
kind name text e None h = λ y a. let f = from_kind name text e y a in h f.0 f.1
