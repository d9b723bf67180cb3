-- The work memory that a trellis needs.
use Rattle.std.specs.Prelude.{ℕ, ◌+◌, ◌*◌, ◌<◌, Some, Result}
use Rattle.refusal.specs.declared.Refusal.{Refusal}
use Rattle.refusal.specs.Refusals.{refused_if}
use Rattle.field.specs.Field.{Ops}
use Rattle.generator.specs.declared.Generator.{Generator}
use Rattle.generator.specs.Parts.{size}
use Rattle.cosets.specs.States.{checks, cosets}

-- how many words of work memory are needed
abbrev pub needed : Ops → Generator → ℕ
needed f g = (2 * size g + 2) * cosets f g

-- the two causes of refusal that every call has: too many cosets, and too little work memory
abbrev pub with_room : {A : Type 0} → Ops → Generator → ℕ → (Result A Refusal → Type 0) → Result A Refusal → Type 0
with_room f g room next =
    refused_if (4096 < cosets f g) 8 (Some (checks g))
    (refused_if (room < needed f g) 9 (Some (needed f g))
    next)
