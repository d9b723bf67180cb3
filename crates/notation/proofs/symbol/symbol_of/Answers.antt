use Rattle.std.proofs.Common.{◌+◌, ◌-◌, arith}
use Rattle.notation.specs.Symbols.{Writes}
use Rattle.notation.proofs.Characters.{digit_writes, letter_writes, one_symbol, ranges}
use Rattle.notation.proofs.symbol.symbol_of.Goals as goal

pub returns-in-0-to-9 : goal.returns-in-0-to-9
returns-in-0-to-9 c =
    let x = c.args.c in
    let w : Writes x (x - 48) = digit_writes x (x - 48) (omega arith) (omega arith) in
    (w, λ u h. one_symbol x (x - 48) u w h)

pub returns-in-a-to-f : goal.returns-in-a-to-f
returns-in-a-to-f c =
    let x = c.args.c in
    let w : Writes x (x - 97 + 10) = letter_writes x (x - 97 + 10) (omega arith) (omega arith) (omega arith) in
    (w, λ u h. one_symbol x (x - 97 + 10) u w h)

pub returns-in_default : goal.returns-in_default
returns-in_default c = λ u h. omega (arith, ranges c.args.c u h)

pub returns-in_default-2 : goal.returns-in_default-2
returns-in_default-2 c = λ u h. omega (arith, ranges c.args.c u h)

pub returns-in_default-3 : goal.returns-in_default-3
returns-in_default-3 c = λ u h. omega (arith, ranges c.args.c u h)
