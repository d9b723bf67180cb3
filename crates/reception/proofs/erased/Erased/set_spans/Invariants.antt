use Rattle.std.proofs.Common.{◌≡◌, ℕ, ◌<◌, length}
use Rattle.reception.specs.SpanLists.{end_ahead, Against}
use Rattle.reception.proofs.Listing.{Written}
use Rattle.reception.proofs.erased.Erased.set_spans.Given as goal

abbrev pub invariant-loop-k : goal.invariant-loop-k
invariant-loop-k g l =
    (length l.spans ≡ 8) ×
    (l.end_ahead ≡ end_ahead l.bytes l.k) ×
    ((j : ℕ) → j < l.k → Against (g.R.Reception.costs l.self.under).size l.bytes j → ⊥) ×
    Written l.bytes l.k l.spans
