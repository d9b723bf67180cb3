use Rattle.std.proofs.Common.{◌≡◌, ℕ, ◌<◌, get_or}
use Rattle.generator.specs.Parts.{places_of}
use Rattle.decoding.proofs.reading.decode.Given as goal

abbrev pub invariant-loop-j : goal.invariant-loop-j
invariant-loop-j g l = (j : ℕ) → j < l.j → get_or l.message j 0 ≡ get_or l.word (places_of l.generator j) 0
