use Rattle.std.proofs.Common.{ℕ, ◌<◌, get_or}
use Rattle.cheapest.specs.Trellises.{trellis_of}
use Rattle.trellis.specs.Branches.{Does, no_branch}
use Rattle.trellis.proofs.code_trellis.Trellis.branch.Given as goal

abbrev pub invariant-loop-x : goal.invariant-loop-x
invariant-loop-x g l =
    (y : ℕ) → y < l.x → Does (trellis_of g.F.Field.ops l.self.generator.now (g.R.Reception.costs l.self.reception.now) l.self.coset) l.place l.self.shape.highs l.self.shape.lows y (get_or l.branches y no_branch)
