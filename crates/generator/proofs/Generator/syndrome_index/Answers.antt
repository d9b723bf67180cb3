use Rattle.std.proofs.Common.{◌≡◌, ◌+◌, ◌-◌, ◌*◌, sym, ap, ◌∙◌, subst, ap₂, arith}
use Rattle.algebra.specs.Words.{word, total}
use Rattle.algebra.specs.Checks.{index}
use Rattle.algebra.proofs.Syndromes.{index_more}
use Rattle.generator.specs.Parts.{size, dimension, check_row_of, syndrome_of, ZeroExactly}
use Rattle.generator.proofs.Systematics.{index_room, index_tells}
use Rattle.generator.proofs.Generator.syndrome_index.Goals as goal
use Rattle.generator.proofs.Generator.syndrome_index.Goals.{in-Some, in_default}

pub overflow_mul-index : goal.overflow_mul-index
overflow_mul-index g c =
    let f = g.F.Field.ops in
    let s = c.args.self.now in
    let most = index_room f g.F.Field.laws s (word c.args.word.now) c.loop-i.i (omega arith) in
    let e : c.loop-i.index * c.from.result ≡ index f.order (syndrome_of f s (word c.args.word.now)) c.loop-i.i * f.order =
    ap₂ ◌*◌ c.loop-i.invariant (c.from.ensures ∙ c.order.ensures) in
    omega arith

pub overflow_add-index : goal.overflow_add-index
overflow_add-index g c =
    let f = g.F.Field.ops in
    let s = c.args.self.now in
    let w = word c.args.word.now in
    let most = index_room f g.F.Field.laws s w c.loop-i.i (omega arith) in
    let e : c.loop-i.index * c.from.result ≡ index f.order (syndrome_of f s w) c.loop-i.i * f.order = ap₂ ◌*◌ c.loop-i.invariant (c.from.ensures ∙ c.order.ensures) in
    let place = c.in-Some.ensures in
    let d : c.from-in-Some.result ≡ syndrome_of f s w c.loop-i.i =
    c.from-in-Some.ensures ∙ c.syndrome_symbol-symbol.ensures ∙ ap (λ p. total f (λ k. f.product (w k) (check_row_of f s p k)) (size s)) place.2 in
    omega arith

pub loop-i-preserved : goal.loop-i-preserved
loop-i-preserved g c =
    let f = g.F.Field.ops in
    let s = c.args.self.now in
    let w = word c.args.word.now in
    let few = s.few in
    elim c.match-check_place.branch [
      | in-Some x ↦
          let place = x.in-Some.ensures in
          let d : x.from-in-Some.result ≡ syndrome_of f s w c.loop-i.i =
          x.from-in-Some.ensures ∙ x.syndrome_symbol-symbol.ensures ∙ ap (λ p. total f (λ k. f.product (w k) (check_row_of f s p k)) (size s)) place.2 in
          x.index-is ∙ ap₂ ◌+◌ (ap₂ ◌*◌ c.loop-i.invariant (x.from.ensures ∙ x.order.ensures)) d ∙ sym (index_more f.order (syndrome_of f s w) c.loop-i.i)
      | in_default x ↦ absurd (omega (arith, x.in_default.ensures))
    ]

pub returns : goal.returns
returns g c =
    let f = g.F.Field.ops in
    let s = c.args.self.now in
    let w = word c.args.word.now in
    let e : c.loop-i.i ≡ size s - dimension s = omega arith in
    let value : c.loop-i.index ≡ index f.order (syndrome_of f s w) (size s - dimension s) = c.loop-i.invariant ∙ ap (index f.order (syndrome_of f s w)) e in
    record {
      value = value;
      codeword = subst (ZeroExactly f s w) (sym value) (index_tells f g.F.Field.laws s w);
    }
