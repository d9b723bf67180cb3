use Rattle.std.proofs.Common.{◌≡◌, ℕ, ◌+◌, ◌-◌, ◌<◌, ◌≤◌, length, sym, ap, ap₂, ◌∙◌, arith}
use Rattle.generator.specs.Parts.{size}
use Rattle.least.specs.Least.{better, best_of, best, best_other}
use Rattle.least.proofs.Choosing.{best_of_more, apart_zero, apart_other}
use Rattle.least.proofs.Recursion.{other_bound}
use Rattle.cheapest.specs.Trellises.{trellis_of}
use Rattle.trellis.specs.Leasts.{told, Tells}
use Rattle.trellis.proofs.Choosing.{better_told, tells_same}
use Rattle.trellis.proofs.Following.{other_rest, other_is}
use Rattle.trellis.proofs.table.LeastCosts.other_at.Goals as goal
use Rattle.trellis.proofs.table.LeastCosts.other_at.Goals.{then-x-eq0, else-x-eq0}

pub after-other-requires : goal.after-other-requires
after-other-requires g c =
    let trellis = c.args.self.now.trellis.now in
    let gen = trellis.generator.now in
    let t = trellis_of g.F.Field.ops gen (g.R.Reception.costs trellis.reception.now) trellis.coset in
    let short : size gen ≤ 24 = gen.short in
    omega (arith, ap (λ r. r.0) c.requires.zeros, other_bound t (g.R.Reception.laws trellis.reception.now).most (size gen - (c.args.place + 1)) (c.args.place + 1))

pub loop-x-preserved : goal.loop-x-preserved
loop-x-preserved g c =
    let trellis = c.args.self.now.trellis.now in
    let gen = trellis.generator.now in
    let t = trellis_of g.F.Field.ops gen (g.R.Reception.costs trellis.reception.now) trellis.coset in
    let i = c.args.place in
    let k : ℕ = size gen - (i + 1) in
    let x = c.loop-x.x in
    let zeros = best_other t k (i + 1) in
    let others : ℕ → ℕ × ℕ = λ y. best t k (i + 1) (t.next i 0 y) in
    let rest = other_rest t k (i + 1) i in
    let cost : ℕ → ℕ = λ y. t.cost i y + (rest y).0 in
    let ways : ℕ → ℕ = λ y. (rest y).1 in
    let least = told c.loop-x.least in
    let price = c.cost-price.ensures in
    let is : Tells c.if-x-eq0.other (cost x) (ways x) = elim c.if-x-eq0.branch [
      | then-x-eq0 w ↦
          let known = c.requires.zeros ∙ sym (apart_zero zeros others x w.if-x-eq0.true) in
          rw w.other-is (tells_same w.after-other.result _ _ (cost x) (ways x) w.after-other.ensures (ap₂ (λ a b. a + b) price (ap (λ r. r.0) known)) (ap (λ r. r.1) known))
      | else-x-eq0 w ↦
          let known = sym (apart_other zeros others x w.if-x-eq0.false) in
          let to = w.next.ensures.value in
          let inside : w.next.result < length c.row-next.result.costs.now = omega (arith, w.next.ensures.below, c.row-next.ensures.states) in
          rw w.other-is (
          tells_same w.via-other.result _ _ (cost x) (ways x) w.via-other.ensures
          (ap₂ (λ a b. a + b) price (c.row-next.ensures.holds.costs_are _ inside ∙ ap (λ s. (best t k (i + 1) s).0) to ∙ ap (λ r. r.0) known))
          (c.row-next.ensures.holds.ways_are _ inside ∙ ap (λ s. (best t k (i + 1) s).1) to ∙ ap (λ r. r.1) known)
          )
    ] in
    c.cheaper-least.ensures
    ∙ better_told least.0 least.1 c.if-x-eq0.other (cost x) (ways x) is
    ∙ ap (λ r. better r.0 r.1 (cost x) (ways x)) c.loop-x.invariant
    ∙ sym (best_of_more cost ways x)

pub returns : goal.returns
returns g c =
    let trellis = c.args.self.now.trellis.now in
    let gen = trellis.generator.now in
    let t = trellis_of g.F.Field.ops gen (g.R.Reception.costs trellis.reception.now) trellis.coset in
    let i = c.args.place in
    let n = size gen in
    let rest = other_rest t (n - (i + 1)) (i + 1) i in
    let all : c.loop-x.x ≡ t.symbols = omega (arith, c.order-x-end.ensures) in
    c.loop-x.invariant ∙ ap (best_of (λ y. t.cost i y + (rest y).0) (λ y. (rest y).1)) all ∙ sym (other_is t n i c.requires.inside)
