use Rattle.std.proofs.Common.{◌≡◌, ◌-◌, ◌*◌, ◌<◌, ◌≤◌, [], length, take, slice_index, sym, ap, ◌∙◌, subst, arith}
use Rattle.std.proofs.lemmas.Bool.Decides.{nat_tests}
use Rattle.algebra.specs.Words.{word}
use Rattle.cheapest.specs.Cheapest.{Sole}
use Rattle.std.proofs.lemmas.List.{take_more_set, take_all}
use Rattle.generator.specs.Parts.{size}
use Rattle.least.specs.Least.{best}
use Rattle.least.proofs.Tracing.{Traced, trace_none, trace_all}
use Rattle.cheapest.specs.Trellises.{trellis_of}
use Rattle.cheapest.proofs.Finding.{live, cheapest, sole}
use Rattle.trellis.proofs.Following.{follows}
use Rattle.trellis.proofs.Shaping.{states_are, next_state}
use Rattle.trellis.proofs.table.LeastCosts.trace.Goals as goal

pub loop-place-init : goal.loop-place-init
loop-place-init g c =
    let trellis = c.args.self.now.trellis.now in
    let gen = trellis.generator.now in
    let costs = g.R.Reception.costs trellis.reception.now in
    let t = trellis_of g.F.Field.ops gen costs trellis.coset in
    let all : size gen - 0 ≡ size gen = omega arith in (
      subst (λ k. Traced t (size gen) k 0 0 []) (sym all) (trace_none t (size gen) (live g.F.Field.ops g.F.Field.laws gen costs trellis.coset trellis.known)),
      omega (arith, trellis.known, states_are g.F.Field.ops gen trellis.shape trellis.shaped),
    )

pub loop-place-preserved : goal.loop-place-preserved
loop-place-preserved g c =
    let trellis = c.args.self.now.trellis.now in
    let gen = trellis.generator.now in
    let f = g.F.Field.ops in
    let t = trellis_of f gen (g.R.Reception.costs trellis.reception.now) trellis.coset in
    let i = c.loop-place.place in
    let s = c.loop-place.state in
    let x = c.pick-x.result in
    let out = c.loop-place.out in
    let n = size gen in
    let inside : i < n = omega (arith, c.requires) in
    let here : i < length out = omega arith in
    let traced = follows t n i s inside x (take i out) c.pick-x.ensures c.loop-place.invariant.0 in
    (rw (c.next-state.ensures.value, take_more_set out i x here) traced, rw c.next-state.ensures.value (next_state f gen trellis.shape trellis.shaped g.F.Field.laws i s x))

pub returns : goal.returns
returns g c =
    let trellis = c.args.self.now.trellis.now in
    let gen = trellis.generator.now in
    let f = g.F.Field.ops in
    let l = g.F.Field.laws in
    let costs = g.R.Reception.costs trellis.reception.now in
    let t = trellis_of f gen costs trellis.coset in
    let n = size gen in
    let out = c.loop-place.out in
    let ends : c.loop-place.place ≡ n = omega (arith, c.requires) in
    let none : n - n ≡ 0 = omega arith in
    let full : length out ≤ n = omega (arith, c.requires) in
    let known = trellis.known in
    let some : 0 < trellis.shape.highs * trellis.shape.lows = omega (arith, states_are f gen trellis.shape trellis.shaped) in
    let whole : best t (n - 0) 0 0 ≡ best t n 0 0 = let all : n - 0 ≡ n = omega arith in ap (λ k. best t k 0 0) all in
    let row = c.row-first.ensures.holds in
    let inside : 0 < length c.row-first.result.costs.now = omega (arith, c.row-first.ensures.states) in
    let cost = row.costs_are 0 inside ∙ ap (λ r. r.0) whole in
    let ways = row.ways_are 0 inside ∙ ap (λ r. r.1) whole in
    let some_way = live f l gen costs trellis.coset known in
    let had : 0 < slice_index c.row-first.result.ways.now 0 = omega (arith, ways) in
    let all = trace_all t n c.loop-place.state out (rw (ends, none, take_all n out full) at c.loop-place.invariant.0) in
    record {
      cheapest = cheapest f l gen costs trellis.coset out all.0.0 all.0.1 all.1 _ cost;
      sole = subst (Sole f gen costs trellis.coset (word out) (slice_index c.row-first.result.costs.now 0)) (grind (arith, nat_tests, had)) (sole f l gen costs trellis.coset out all.0.0 all.0.1 all.1 _ _ cost ways had);
    }
