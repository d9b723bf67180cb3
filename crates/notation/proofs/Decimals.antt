-- Numbers in decimal.
use Rattle.std.proofs.Common.{ℕ, ◌≤◌, ◌<◌, ◌^◌, List, length, get_or, None, Result, Ok, Err, sym, ◌∙◌, arith}
use Rattle.std.proofs.lemmas.Str.Parse.{IsNumeralModel, numerals_by_value, tells_by_index, digits_value_short, digit_at, parse_digits}
use Rattle.std.proofs.lemmas.Fmt.{IsAscii-from_digits}
use Rattle.std.proofs.lemmas.Str.{IsUtf8-from_ascii}
use Rattle.std.specs.Int.{IsInRange}
use Rattle.std.specs.Result.{result_ok}
use Rattle.std.specs.Str.{IsUtf8}
use Rattle.std.specs.Str.Parse.{ParsesUnsigned, digits_value}
use Rattle.notation.specs.Commands.{Number}
use Rattle.notation.specs.Only.{Only}

-- each byte of the text is a digit
abbrev pub EachDigit : List ℕ → Type 0
EachDigit text = (i : ℕ) → i < length text → IsInRange 48 57 (get_or text i 0)

own : IsNumeralModel EachDigit (digits_value 10)
own = numerals_by_value EachDigit tells_by_index

pub no_number : (text : List ℕ) (i : ℕ) → i < length text → (IsInRange 48 57 (get_or text i 0) → ⊥) → Only (Number text) None
no_number text i h out y k = out (digit_at text i k.2 h)

pub digits_utf8 : (text : List ℕ) → EachDigit text → IsUtf8 text
digits_utf8 text h = IsUtf8-from_ascii text (IsAscii-from_digits text (own.to text h))

pub number_parsed : {E : Type 0} (text : List ℕ) (r : Result ℕ E) → length text ≤ 3 → EachDigit text → ParsesUnsigned 64 10 text r → Only (Number text) (result_ok r)
number_parsed {E} text (Ok n) few h p =
    let k = parse_digits own {E = E} 64 text (Ok n) p h in
    ((k.0.0, few, own.to text h, k.1), λ y j. j.3 ∙ sym k.1)
number_parsed {E} text (Err e) few h p = λ y j.
    let k = parse_digits own {E = E} 64 text (Err e) p h in
    let small : digits_value 10 text < 10 ^ 3 = digits_value_short own text 3 h few in
    k (j.0, omega arith)
