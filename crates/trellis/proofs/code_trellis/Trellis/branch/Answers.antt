use Rattle.std.proofs.Common.{◌≡◌, ℕ, subst, ◌∙◌, sym, inl, inr, arith}
use Rattle.std.proofs.lemmas.Bool.{cases_eq}
use Rattle.std.proofs.lemmas.List.{get_or-set_same, get_or-set_other}
use Rattle.cosets.specs.States.{checks}
use Rattle.cheapest.specs.Trellises.{trellis_of}
use Rattle.trellis.specs.declared.branch.Branch.{Branch}
use Rattle.trellis.specs.Branches.{Does, no_branch}
use Rattle.trellis.proofs.Halving.{halves_lead}
use Rattle.trellis.proofs.code_trellis.Trellis.branch.Goals as goal

pub loop-x-preserved : goal.loop-x-preserved
loop-x-preserved g c y h =
    let f = g.F.Field.ops in
    let trellis = c.args.self.now in
    let gen = trellis.generator.now in
    let x = c.loop-x.x in
    let t = trellis_of f gen (g.R.Reception.costs trellis.reception.now) trellis.coset in
    let all : c.digits.result ≡ checks gen = c.digits.ensures ∙ trellis.shaped.digits in
    let new : Branch = record { price = c.cost.result; high = c.tabulate.new.out; low = c.tabulate-in-loop-x.new.out } in
    let does : Does t c.args.place trellis.shape.highs trellis.shape.lows x new = record {
      price = c.cost.ensures;
      leads = halves_lead f g.F.Field.laws gen trellis.shape trellis.shaped trellis.columns trellis.made c.args.place c.digits.result c.requires.inside all x c.split_at.result.0.now c.split_at.result.1.now c.tabulate.new.out c.tabulate-in-loop-x.new.out
          c.split_at.ensures.front c.split_at.ensures.back c.tabulate.ensures c.tabulate-in-loop-x.ensures;
    } in
    let D : ℕ → Branch → Type 0 = Does t c.args.place trellis.shape.highs trellis.shape.lows in
    elim (cases_eq y x) [
      | inl e ↦ rw e (subst (D x) (sym (get_or-set_same c.loop-x.branches x new no_branch (omega arith))) does)
      | inr n ↦ subst (D y) (sym (get_or-set_other c.loop-x.branches x y new no_branch n)) (c.loop-x.invariant y (omega (arith, n)))
    ]
