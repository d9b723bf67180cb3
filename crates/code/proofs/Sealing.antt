-- The generator of a basis is the reduced form of the rows for which the basis stands.
use Rattle.std.proofs.Common.{◌≡◌, ℕ, length, ◌∙◌}
use Rattle.field.specs.Field.{Ops, Laws}
use Rattle.algebra.specs.Words.{cells}
use Rattle.algebra.specs.Reduced.{ReducedForm}
use Rattle.algebra.proofs.Elimination.{same_trans}
use Rattle.algebra.proofs.Forms.{only_form, first_place}
use Rattle.basis.specs.declared.Basis.{Basis}
use Rattle.basis.specs.Parts as Bases
use Rattle.generator.specs.declared.Generator.{Generator}
use Rattle.generator.specs.Parts as Generators
use Rattle.generator.proofs.Systematics as Systematics
use Rattle.code.specs.Drafts.{State, Holds}
use Rattle.code.specs.Codes.{Sealed}
use Rattle.code.proofs.Holding.{spans_all, holds_independent}

pub sealed : (f : Ops) → Laws f → (b : Basis) (s : State) → Holds f b s → (g : Generator) → Generators.size g ≡ Bases.size b → Generators.dimension g ≡ Bases.count b
    → ReducedForm f (Bases.count b) (Bases.rows_of f b) (Generators.dimension g) (Generators.rows_of f g) (Generators.places_of g) → Sealed f s g
sealed f l b s h g long all form =
    let m : ℕ = length s.rows in
    let k : ℕ = Generators.dimension g in
    let rs : ℕ → ℕ → ℕ = cells s.rows in
    let ss : ℕ → ℕ → ℕ = Generators.rows_of f g in
    let at : ℕ → ℕ = Generators.places_of g in
    let held : ReducedForm f m rs k ss at =
    record { span = same_trans f m (Bases.count b) k rs (Bases.rows_of f b) ss (spans_all f l b s h) form.span; reduced = form.reduced } in
    record {
      long = long ∙ h.long;
      all = all ∙ h.all;
      form = held;
      only = only_form f l m rs h.symbols k ss (Systematics.symbols_of f l g) at held;
      first = first_place f l m rs h.symbols k ss (Systematics.symbols_of f l g) at held;
      independent = holds_independent f l b s h;
    }
