use Rattle.std.proofs.Common.{◌≡◌, ℕ, List, ◌++◌, length, map, take, get_or, string_bytes, codes, encode_utf8, sym, ap, ◌∙◌, arith}
use Rattle.std.proofs.lemmas.Bool.{eqb-true, eqb-false}
use Rattle.std.proofs.lemmas.List.{take_all}
use Rattle.std.proofs.lemmas.Str.{encode_ascii}
use Rattle.notation.specs.Words.{printed, shown}
use Rattle.notation.proofs.Printing.{marked, shown_more, printed_none, printed_some, prints, spells_only, reads_back}
use Rattle.notation.proofs.word.printing.spelled.Goals as goal

pub returns-then-is_empty : goal.returns-then-is_empty
returns-then-is_empty c =
    let word = c.args.word.now in
    let text = string_bytes c.push.new.self in
    let is : text ≡ codes "-" = c.in_ok-push.ensures.bytes ∙ ap (λ (xs : List ℕ). xs ++ encode_utf8 45) c.new-text.ensures.bytes ∙ encode_ascii 45 (omega arith) in
    let none : length word ≡ 0 = eqb-true (length word) 0 (sym c.is_empty.ensures ∙ c.if-is_empty.true) in
    let e : text ≡ printed word = is ∙ sym (printed_none word none) in
    let p = prints text word e in
    record { printed = e; prints = p; spells = spells_only text word p; reads_back = reads_back text word p }

pub loop-number-preserved : goal.loop-number-preserved
loop-number-preserved c =
    let word = c.args.word.now in
    let i = c.loop-number.number-index in
    c.in_ok-push-2.ensures.bytes
    ∙ ap (λ (xs : List ℕ). xs ++ encode_utf8 c.unwrap_or.result) c.loop-number.invariant
    ∙ shown_more word i c.unwrap_or.result (omega arith) (c.unwrap_or.ensures ∙ marked (get_or word i 0) c.char_of.result c.char_of.ensures)

pub returns : goal.returns
returns c =
    let word = c.args.word.now in
    let text = string_bytes c.loop-number.text in
    let some : (length word ≡ 0 → ⊥) = eqb-false (length word) 0 (sym c.is_empty.ensures ∙ c.if-is_empty.false) in
    let all : take c.loop-number.number-index word ≡ word = take_all c.loop-number.number-index word (omega arith) in
    let e : text ≡ printed word = c.loop-number.invariant ∙ ap (map shown) all ∙ sym (printed_some word (omega arith)) in
    let p = prints text word e in
    record { printed = e; prints = p; spells = spells_only text word p; reads_back = reads_back text word p }
