use Rattle.std.proofs.Common.{get_or, rules, ◌∙◌, arith}
use Rattle.std.proofs.Output.{has_written_append, has_written_of_eq}
use Rattle.notation.proofs.Printing.{marked, shown_more}
use Rattle.notation.proofs.word.printing.InPrintDisplay.fmt.Goals as goal

pub loop-number-preserved : goal.loop-number-preserved
loop-number-preserved g c = λ plain.
    let word = c.args.self.now.0.now in
    has_written_of_eq _ _ _ _ _ (shown_more word c.loop-number.number-index c.unwrap_or.result (omega arith)
    (c.unwrap_or.ensures ∙ marked (get_or word c.loop-number.number-index 0) c.char_of.result c.char_of.ensures))
    (has_written_append _ _ _ _ _ _ (c.loop-number.invariant plain) (search rules))
