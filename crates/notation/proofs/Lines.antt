-- A line is a command's name alone, or has it before its first space.
use Rattle.std.proofs.Common.{◌≡◌, ℕ, ◌<◌, ◌≤◌, Bool, true, not, eqb, List, length, get_or, Some, None, Option, sym, ap, ◌∙◌, subst, inl, inr}
use Rattle.std.proofs.lemmas.List.Folds.{list_all_at}
use Rattle.std.proofs.lemmas.Bool.{false≢true}
use Rattle.std.specs.List.{list_all}
use Rattle.std.specs.Option.{option_zip}
use Rattle.notation.specs.declared.command.Command.{Command}
use Rattle.notation.specs.declared.command.Command.TheVariants.{Kind, Row, Back, Seal, Send, Hear, Distance, Noise}
use Rattle.notation.specs.declared.command.Order.{Order}
use Rattle.notation.specs.declared.command.Order.TheVariants.{Two, Three, Four, Sixteen}
use Rattle.notation.specs.Commands.{Alone, With, Says, KindOf, Number, OrderNamed}
use Rattle.notation.specs.Only.{Only}
use Rattle.notation.specs.Parts.{Parted}
use Rattle.notation.proofs.Only.{only_along}
use Rattle.notation.proofs.Spaces.{first_of}

abbrev spaceless : List ℕ → Bool
spaceless = list_all (λ b. not (eqb b 32))

free : (name : List ℕ) → spaceless name ≡ true → (i : ℕ) → i < length name → get_or name i 0 ≡ 32 → ⊥
free name all i h e = false≢true (sym (list_all_at (λ b. not (eqb b 32)) name i 0 h (ap (λ b. not (eqb b 32)) e)) ∙ all)

with_free : (name text : List ℕ) (y : Command) → With name text y → spaceless name ≡ true
with_free name text (Kind q n) w = ap spaceless w.0
with_free name text (Row v) w = ap spaceless w.0
with_free name text (Send v) w = ap spaceless w.0
with_free name text (Hear v) w = ap spaceless w.0
with_free name text Back w = absurd w
with_free name text Seal w = absurd w
with_free name text Distance w = absurd w
with_free name text Noise w = absurd w

alone_free : (name : List ℕ) (y : Command) → Alone name y → spaceless name ≡ true
alone_free name Back a = ap spaceless a
alone_free name Seal a = ap spaceless a
alone_free name Distance a = ap spaceless a
alone_free name Noise a = ap spaceless a
alone_free name (Kind q n) a = absurd a
alone_free name (Row v) a = absurd a
alone_free name (Send v) a = absurd a
alone_free name (Hear v) a = absurd a

order_free : (text : List ℕ) (q : Order) → OrderNamed text q → spaceless text ≡ true
order_free text Two o = ap spaceless o
order_free text Three o = ap spaceless o
order_free text Four o = ap spaceless o
order_free text Sixteen o = ap spaceless o

pub says_with : (line name text : List ℕ) → length line ≤ 80 → Only (Parted line) (Some (name, text)) → (o : Option Command) → Only (With name text) o → Only (Says line) o
says_with line name text short parts =
    only_along (With name text) (Says line) (λ y w. (short, inr (name, text, w, parts.0.1)))
    (λ y s. elim s.1 [
      | inl a ↦
          let f = first_of line (name, text) parts.0 in
          absurd (free line (alone_free line y a) (length name) f.0 f.1)
      | inr p ↦
          subst (λ (t : List ℕ × List ℕ). With t.0 t.1 y)
          (parts.1 (p.0, p.1) (free p.0 (with_free p.0 p.1 y p.2), p.3)) p.2
    ])

pub says_alone : (line : List ℕ) → length line ≤ 80 → Only (Parted line) None → (o : Option Command) → Only (Alone line) o → Only (Says line) o
says_alone line short none =
    only_along (Alone line) (Says line) (λ y a. (short, inl a))
    (λ y s. elim s.1 [
      | inl a ↦ a
      | inr p ↦ absurd (none (p.0, p.1) (free p.0 (with_free p.0 p.1 y p.2), p.3))
    ])

-- the two texts of a kind are the parts of its text
kind_at : (text a b : List ℕ) (p : Order × ℕ) → Only (Parted text) (Some (a, b)) → KindOf text p → OrderNamed a p.0 × Number b p.1
kind_at text a b p parts k =
    subst (λ (t : List ℕ × List ℕ). OrderNamed t.0 p.0 × Number t.1 p.1)
    (parts.1 (k.0, k.1) (free k.0 (order_free k.0 p.0 k.2), k.4)) (k.2, k.3)

pub kind_parted : (text a b : List ℕ) → Only (Parted text) (Some (a, b)) → (q : Option Order) (n : Option ℕ) → Only (OrderNamed a) q → Only (Number b) n → Only (KindOf text) (option_zip q n)
kind_parted text a b parts (Some q) (Some n) order number =
    ((a, b, order.0, number.0, parts.0.1), λ p k. let at = kind_at text a b p parts k in λ j. (order.1 p.0 at.0 j, number.1 p.1 at.1 j))
kind_parted text a b parts (Some q) None order number = λ p k. number p.1 (kind_at text a b p parts k).1
kind_parted text a b parts None n order number = λ p k. order p.0 (kind_at text a b p parts k).0

pub kind_unparted : (text : List ℕ) → Only (Parted text) None → Only (KindOf text) None
kind_unparted text none p k = none (k.0, k.1) (free k.0 (order_free k.0 p.0 k.2), k.4)
