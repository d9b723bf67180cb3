use Rattle.std.proofs.Common.{◌≡◌, ℕ, ◌<◌, ◌≤◌, length, get_or}
use Rattle.notation.proofs.word.reading.WordTryFromRefSliceU8.try_from.Given as goal

abbrev pub invariant-loop-place : goal.invariant-loop-place
invariant-loop-place l =
    (length l.padded ≡ 80)
    × ((k : ℕ) → k < l.place → get_or l.padded k 0 ≡ get_or l.symbols k 0)
    × ((k : ℕ) → l.place ≤ k → get_or l.padded k 0 ≡ 0)
