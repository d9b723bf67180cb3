use Rattle.std.proofs.Common.{◌≡◌, take, map, string_bytes}
use Rattle.notation.specs.Words.{shown}
use Rattle.notation.proofs.word.printing.spelled.Given as goal

abbrev pub invariant-loop-number : goal.invariant-loop-number
invariant-loop-number l = string_bytes l.text ≡ map shown (take l.number-index l.word)
