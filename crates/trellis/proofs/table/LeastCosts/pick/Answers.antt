use Rattle.std.proofs.Common.{ℕ, rules}
use Rattle.generator.specs.Parts.{size}
use Rattle.cheapest.specs.Trellises.{trellis_of}
use Rattle.trellis.proofs.Descending.{last_from_find}
use Rattle.trellis.proofs.Following.{Pays, last_some, last_picked}
use Rattle.trellis.proofs.table.LeastCosts.pick.Goals as goal

pub unwrap-requires : goal.unwrap-requires
unwrap-requires g c =
    let trellis = c.args.self.now.trellis.now in
    let t = trellis_of g.F.Field.ops trellis.generator.now (g.R.Reception.costs trellis.reception.now) trellis.coset in
    let Yes : ℕ → Type 0 = Pays t (size trellis.generator.now) c.args.place c.args.state c.requires.inside in
    let found = last_from_find c.rev.result _ g.F.Field.ops.order _ c.find-found.result Yes (λ x. Yes x → ⊥) (rw (← c.order.ensures) c.rev.ensures.source) c.find-found.ensures.ran (λ x q k. search rules) (λ x q k. (search rules, search rules)) in
    last_some t (size trellis.generator.now) c.args.place c.args.state c.requires.inside c.find-found.result found c.requires.live

pub returns : goal.returns
returns g c =
    let trellis = c.args.self.now.trellis.now in
    let t = trellis_of g.F.Field.ops trellis.generator.now (g.R.Reception.costs trellis.reception.now) trellis.coset in
    let Yes : ℕ → Type 0 = Pays t (size trellis.generator.now) c.args.place c.args.state c.requires.inside in
    let found = last_from_find c.rev.result _ g.F.Field.ops.order _ c.find-found.result Yes (λ x. Yes x → ⊥) (rw (← c.order.ensures) c.rev.ensures.source) c.find-found.ensures.ran (λ x q k. search rules) (λ x q k. (search rules, search rules)) in
    last_picked t (size trellis.generator.now) c.args.place c.args.state c.requires.inside c.find-found.result c.unwrap.result c.unwrap.ensures found
