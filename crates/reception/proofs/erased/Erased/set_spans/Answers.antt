use Rattle.std.proofs.Common.{ℕ, List, ◌≡◌, add-one, ap, ◌∙◌, arith, length-set}
use Rattle.reception.specs.declared.erased.Span.{Span}
use Rattle.reception.specs.Spans.{span_end}
use Rattle.reception.specs.SpanLists.{pair}
use Rattle.reception.proofs.Listing.{pair_alone, keeps_more, written_more, written_all}
use Rattle.reception.proofs.erased.Erased.set_spans.Goals as goal

pub loop-k-preserved : goal.loop-k-preserved
loop-k-preserved g c =
    let bytes : List ℕ = c.args.bytes.now in
    let k : ℕ = c.loop-k.k in
    let span : Span = c.from-span.result in
    let e : span ≡ pair bytes k = pair_alone bytes _ k span c.as_chunks.ensures.front (omega arith) c.from-span.ensures in (
      simp length-set c.loop-k.invariant.0,
      rw add-one (c.end-end.ensures ∙ ap span_end e),
      keeps_more _ bytes k span e c.loop-k.invariant.2 c.if-span-eq0.false (omega arith) (omega (arith, c.end-end.ensures, c.len-size.ensures)),
      written_more bytes k c.loop-k.spans span e (omega arith) c.loop-k.invariant.3,
    )

pub returns-clause-spans : goal.returns-clause-spans
returns-clause-spans g c = written_all c.args.bytes.now c.loop-k.spans c.loop-k.k (omega arith) (omega arith) c.loop-k.invariant.0 c.loop-k.invariant.3
