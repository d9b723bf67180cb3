-- Decoding: the message of the cheapest codeword, or a tie.
use Rattle.std.specs.Prelude.{◌≡◌, ℕ, ◌<◌, ◌≤◌, ◌⊎◌, List, Some, None, Ok, Err, Result, ◌≢◌}
use Rattle.refusal.specs.declared.Refusal.{Refusal}
use Rattle.refusal.specs.Refusals.{number, accepted, refused_if, refused_at}
use Rattle.field.specs.Field.{Ops}
use Rattle.generator.specs.declared.Generator.{Generator}
use Rattle.generator.specs.Parts.{size, dimension, Message, codeword}
use Rattle.cosets.specs.Cosets.{Codeword}
use Rattle.reception.specs.Costs.{Costs, word_cost}
use Rattle.cheapest.specs.Cheapest.{Same}
use Rattle.trellis.specs.Clearing.{Cleared}
use Rattle.trellis.specs.Rooms.{with_room}
use Rattle.tally.specs.declared.Tally.{Tally}
use Rattle.tally.specs.Tallies.{Counts, counts_of, Full, after_answered, after_tied}

-- m is a message whose codeword costs c, and every other codeword costs more
pub record Decoded (f : Ops) (g : Generator) (costs : Costs) (m : List ℕ) (c : ℕ) : Type 0 where
  pub message : Message f g m
  pub cost : word_cost costs (size g) (codeword f g m) ≡ c
  pub others : (v : ℕ → ℕ) → Codeword f g v → Same v (codeword f g m) ⊎ (c < word_cost costs (size g) v)

-- c is the least cost of a codeword, and two different codewords have it
pub record Tied (f : Ops) (g : Generator) (costs : Costs) (c : ℕ) : Type 0 where
  pub least : (v : ℕ → ℕ) → Codeword f g v → c ≤ word_cost costs (size g) v
  pub first : ℕ → ℕ
  pub second : ℕ → ℕ
  pub first_in : Codeword f g first
  pub second_in : Codeword f g second
  pub first_cost : word_cost costs (size g) first ≡ c
  pub second_cost : word_cost costs (size g) second ≡ c
  pub differ : Same first second → ⊥

-- decoding a reception, with so many words of work memory, a buffer of so many places, and a tally of these counts
abbrev pub MessageDecoded : Ops → Generator → Costs → ℕ → ℕ → Counts → List ℕ → Result ℕ Refusal → Type 0
MessageDecoded f g costs room places counts out =
    refused_if (costs.size ≢ size g) 4 (Some (size g))
    (with_room f g room
    (refused_if (places ≢ dimension g) 10 (Some (dimension g))
    (refused_if (Full counts) 12 None
    (refused_at (Tied f g costs) 13
    (accepted (Decoded f g costs out))))))

-- the tally then: one decoding more that was answered, or that was tied; any other refusal leaves it as it was
abbrev pub Tallied : Tally → Tally → Result ℕ Refusal → Type 0
Tallied was is (Ok c) = counts_of is ≡ after_answered (counts_of was) c
Tallied was is (Err e) = (number e ≡ 13 → counts_of is ≡ after_tied (counts_of was)) × ((number e ≢ 13) → is ≡ was)

-- the work memory then: clear, unless the call was refused for another cause than a tie, which leaves it as it was
abbrev pub WorkLeft : List ℕ → List ℕ → Result ℕ Refusal → Type 0
WorkLeft was is (Ok c) = Cleared is
WorkLeft was is (Err e) = (number e ≡ 13 → Cleared is) × ((number e ≢ 13) → is ≡ was)
