-- What the calls of this crate answer and leave.
use Rattle.std.specs.Prelude.{ℕ, ◌≤◌, List, Some, Option, Result, ◌≢◌}
use Rattle.refusal.specs.declared.Refusal.{Refusal}
use Rattle.refusal.specs.Refusals.{accepted, refused_if}
use Rattle.field.specs.Field.{Ops}
use Rattle.algebra.specs.Words.{word}
use Rattle.generator.specs.declared.Generator.{Generator}
use Rattle.generator.specs.Parts.{size}
use Rattle.cosets.specs.States.{cosets}
use Rattle.reception.specs.Costs.{Costs}
use Rattle.cheapest.specs.Cheapest.{Cheapest, Sole}
use Rattle.cheapest.specs.Lightest.{Lightest}
use Rattle.trellis.specs.declared.cost.Least.{Least}
use Rattle.trellis.specs.Rooms.{with_room}

-- finding the cheapest word of the coset t, with so many words of work memory and a buffer of so many places
abbrev pub CheapestFound : Ops → Generator → Costs → ℕ → ℕ → ℕ → List ℕ → Result Least Refusal → Type 0
CheapestFound f g costs t room places out =
    with_room f g room
    (refused_if (places ≢ size g) 10 (Some (size g))
    (refused_if (cosets f g ≤ t) 11 (Some (cosets f g))
    (accepted (λ r. Cheapest f g costs t (word out) r.cost × Sole f g costs t (word out) r.cost r.sole))))

-- finding the least weight of a codeword that is not all 0
abbrev pub LightestFound : Ops → Generator → ℕ → Result (Option ℕ) Refusal → Type 0
LightestFound f g room = with_room f g room (accepted (Lightest f g))
