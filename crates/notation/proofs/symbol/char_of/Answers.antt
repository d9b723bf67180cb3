use Rattle.std.proofs.Common.{◌+◌, ◌-◌, arith}
use Rattle.notation.specs.Symbols.{Writes}
use Rattle.notation.proofs.Characters.{digit_writes, letter_writes, one_character, ranges}
use Rattle.notation.proofs.symbol.char_of.Goals as goal

pub returns-in-0-to-9 : goal.returns-in-0-to-9
returns-in-0-to-9 c =
    let v = c.args.symbol in
    let w : Writes (48 + v) v = digit_writes (48 + v) v (omega arith) (omega arith) in
    (w, λ d h. one_character (48 + v) d v w h)

pub returns-in-10-to-15 : goal.returns-in-10-to-15
returns-in-10-to-15 c =
    let v = c.args.symbol in
    let w : Writes (97 + (v - 10)) v = letter_writes (97 + (v - 10)) v (omega arith) (omega arith) (omega arith) in
    (w, λ d h. one_character (97 + (v - 10)) d v w h)

pub returns-in_default : goal.returns-in_default
returns-in_default c = λ d h. omega (arith, ranges d c.args.symbol h)
