-- What the panel prints.
use Rattle.std.specs.Prelude.{ℕ, List, ◌++◌, Some, None, Ok, Err, codes}
use Rattle.std.specs.Fmt.{decimal}
use Rattle.refusal.specs.Refusals.{number}
use Rattle.notation.specs.Words.{printed}
use Rattle.panel.specs.declared.replies.Reply.{Reply}
use Rattle.panel.specs.declared.replies.Reply.TheVariants.{Done, Number, Word, Decoded, Distance, Figure}
use Rattle.panel.specs.Replies.{Answer}

-- the text of a reply
abbrev pub printed_reply : Reply → List ℕ
printed_reply Done = codes "ok"
printed_reply (Number n) = codes "ok " ++ decimal n
printed_reply (Word w) = codes "ok " ++ printed w.items
printed_reply (Decoded m cost) = codes "ok " ++ (printed m.items ++ (codes " " ++ decimal cost))
printed_reply (Distance (Some d)) = codes "ok " ++ decimal d
printed_reply (Distance None) = codes "ok none"
printed_reply (Figure n) = codes "ok " ++ decimal n

-- the text of an answer: of the reply, of the refusal by its number, or of neither
abbrev pub printed_answer : Answer → List ℕ
printed_answer (Some (Ok r)) = printed_reply r
printed_answer (Some (Err e)) = codes "no " ++ decimal (number e)
printed_answer None = codes "??"
