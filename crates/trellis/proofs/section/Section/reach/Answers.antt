use Rattle.std.proofs.Common.{◌≡◌, ℕ, suc, ◌+◌, ◌-◌, ◌*◌, ◌<◌, length, get_or, sym, ap, ap₂, ◌∙◌, inl, inr, ⊎_elim, arith}
use Rattle.generator.specs.Parts.{size}
use Rattle.least.specs.Least.{better, best_of, best}
use Rattle.least.proofs.Choosing.{best_of_more, better_none, better_new, better_tied, better_old}
use Rattle.cheapest.specs.Trellises.{trellis_of}
use Rattle.trellis.specs.Branches.{lead, no_branch}
use Rattle.trellis.proofs.Shaping.{next_state}
use Rattle.trellis.proofs.section.Section.reach.Goals as goal
use Rattle.trellis.proofs.section.Section.reach.Goals.{In-loop-x, then-more-ne0+then-cost-least, then-more-ne0+else-cost-least+then-cost-least-2, then-more-ne0+else-cost-least+else-cost-least-2, else-more-ne0}

pub bounds-self-to : goal.bounds-self-to
bounds-self-to g c =
    let section = c.args.self.now in
    let trellis = section.trellis.now in
    let x = c.loop-x.x in
    let step = section.branched x (omega (arith, section.symbols)) in
    omega (arith, step.leads c.args.u c.args.v c.requires.upper c.requires.lower, next_state g.F.Field.ops trellis.generator.now trellis.shape trellis.shaped g.F.Field.laws section.place (c.args.u * trellis.shape.lows + c.args.v) x, section.states, section.after.paired)

pub overflow_add-cost : goal.overflow_add-cost
overflow_add-cost g c =
    let section = c.args.self.now in
    let trellis = section.trellis.now in
    let x = c.loop-x.x in
    let step = section.branched x (omega (arith, section.symbols)) in
    let to : ℕ = lead (get_or section.branches.now x no_branch) c.args.u c.args.v in
    let here : to < length section.after.costs.now = omega (arith, step.leads c.args.u c.args.v c.requires.upper c.requires.lower, next_state g.F.Field.ops trellis.generator.now trellis.shape trellis.shaped g.F.Field.laws section.place (c.args.u * trellis.shape.lows + c.args.v) x, section.states) in
    omega (arith, step.price, (g.R.Reception.laws trellis.reception.now).most section.place x, section.after.small to here)

pub loop-x-preserved : goal.loop-x-preserved
loop-x-preserved g c =
    let section = c.args.self.now in
    let trellis = section.trellis.now in
    let t = trellis_of g.F.Field.ops trellis.generator.now (g.R.Reception.costs trellis.reception.now) trellis.coset in
    let i = section.place in
    let k : ℕ = size trellis.generator.now - (i + 1) in
    let s : ℕ = c.args.u * trellis.shape.lows + c.args.v in
    let x = c.loop-x.x in
    let step = section.branched x (omega (arith, section.symbols)) in
    let to = step.leads c.args.u c.args.v c.requires.upper c.requires.lower in
    let at : ℕ = lead (get_or section.branches.now x no_branch) c.args.u c.args.v in
    let here : at < length section.after.costs.now = omega (arith, to, next_state g.F.Field.ops trellis.generator.now trellis.shape trellis.shaped g.F.Field.laws i s x, section.states) in
    let cost : ℕ → ℕ = λ y. t.cost i y + (best t k (i + 1) (t.next i s y)).0 in
    let ways : ℕ → ℕ = λ y. (best t k (i + 1) (t.next i s y)).1 in
    let least = c.loop-x.least in
    let count = c.loop-x.ways in
    let new : ℕ = (get_or section.branches.now x no_branch).price + get_or section.after.costs.now at 0 in
    let more : ℕ = get_or section.after.ways.now at 0 in
    let chosen : better least count new more ≡ best_of cost ways (x + 1) =
    ap₂ (better least count) (ap₂ (λ a b. a + b) step.price (section.row.costs_are at here ∙ ap (λ r. (best t k (i + 1) r).0) to)) (section.row.ways_are at here ∙ ap (λ r. (best t k (i + 1) r).1) to)
    ∙ ap (λ r. better r.0 r.1 (cost x) (ways x)) c.loop-x.invariant
    ∙ sym (best_of_more cost ways x) in
    elim c.if-more-ne0.branch [
      | then-more-ne0+then-cost-least w ↦ ap₂ (λ a b. (a, b)) w.least-is w.ways-is ∙ sym (better_new least count new more w.if-more-ne0.true (⊎_elim inl (λ h. inr h.1) w.if-cost-least.either)) ∙ chosen
      | then-more-ne0+else-cost-least+then-cost-least-2 w ↦ ap₂ (λ a b. (a, b)) w.least-is w.ways-is ∙ sym (better_tied least count new more w.if-more-ne0.true w.if-cost-least.false.0 w.if-cost-least-2.true) ∙ chosen
      | then-more-ne0+else-cost-least+else-cost-least-2 w ↦ ap₂ (λ a b. (a, b)) w.least-is w.ways-is ∙ sym (better_old least count new more w.if-more-ne0.true w.if-cost-least.false.0 (omega (arith, w.if-cost-least.false.1, w.if-cost-least-2.false))) ∙ chosen
      | else-more-ne0 w ↦ ap₂ (λ a b. (a, b)) w.least-is w.ways-is ∙ sym (better_none least count new more w.if-more-ne0.false) ∙ chosen
    ]

pub returns : goal.returns
returns g c =
    let section = c.args.self.now in
    let trellis = section.trellis.now in
    let t = trellis_of g.F.Field.ops trellis.generator.now (g.R.Reception.costs trellis.reception.now) trellis.coset in
    let i = section.place in
    let k : ℕ = size trellis.generator.now - (i + 1) in
    let s : ℕ = c.args.u * trellis.shape.lows + c.args.v in
    let cost : ℕ → ℕ = λ y. t.cost i y + (best t k (i + 1) (t.next i s y)).0 in
    let ways : ℕ → ℕ = λ y. (best t k (i + 1) (t.next i s y)).1 in
    let inside = section.inside in
    let all : c.loop-x.x ≡ t.symbols = omega (arith, section.symbols) in
    let left : suc k ≡ size trellis.generator.now - i = omega arith in
    c.loop-x.invariant ∙ ap (best_of cost ways) all ∙ ap (λ n. best t n i s) left
