use Rattle.std.proofs.Common.{◌≡◌, ℕ, ◌<◌, ◌≤◌, length, get_or}
use Rattle.notation.specs.Symbols.{Writes}
use Rattle.notation.proofs.word.reading.read_word.Given as goal

abbrev pub invariant-loop-place : goal.invariant-loop-place
invariant-loop-place l =
    (length l.symbols ≡ 80)
    × ((k : ℕ) → k < l.place → Writes (get_or l.text k 0) (get_or l.symbols k 0))
    × ((k : ℕ) → l.place ≤ k → get_or l.symbols k 0 ≡ 0)
