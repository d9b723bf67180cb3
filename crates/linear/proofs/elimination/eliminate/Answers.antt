use Rattle.std.proofs.Common.{ℕ, ◌<◌, length, set, ◌∙◌, subst, arith}
use Rattle.std.proofs.lemmas.List.{length-set, get_or-set_same, get_or-set_other}
use Rattle.algebra.specs.Words.{word, cells}
use Rattle.algebra.specs.Elimination.{Progress, Pivots}
use Rattle.algebra.proofs.Cells.{cells_past}
use Rattle.algebra.proofs.Elimination.{progress_on, progress_end}
use Rattle.linear.proofs.elimination.eliminate.Goals as goal

pub loop-found-preserved : goal.loop-found-preserved
loop-found-preserved g c =
    let f = g.F.Field.ops in
    let l = g.F.Field.laws in
    let old = c.args.rows.now in
    let m = length old in
    let rows = c.loop-found.rows in
    let rank = c.loop-found.rank in
    let places = c.loop-found.places in
    let p = c.in-Some.found.place in
    let at = c.in-Some.ensures in
    let here : Progress f m (cells old) (cells rows) rank p (word places) =
    progress_on f l m (cells old) (cells rows) (cells rows) rank c.loop-found.place (word places) c.loop-found.invariant.2 p at.onward (λ i k h b x y. at.blank k x y i b (omega arith)) in
    let N : ℕ → Type 0 = λ n. Pivots f n (cells rows) (cells c.make_pivot.new.rows) rank p in
    let step : Pivots f m (cells rows) (cells c.make_pivot.new.rows) rank p = subst N c.loop-found.auto.rows c.make_pivot.ensures in
    let room : rank < length places = let n = here.counted in let b = at.inside in omega arith in (
      length-set places rank p ∙ c.loop-found.invariant.0,
      (let b = at.inside in omega arith),
      step (cells old) (word places) (word (set places rank p)) (get_or-set_same places rank p 0 room) (λ i h. get_or-set_other places rank i p 0 (omega arith)) here,
    )

pub returns : goal.returns
returns g c =
    let f = g.F.Field.ops in
    let l = g.F.Field.laws in
    let old = c.args.rows.now in
    let rows = c.loop-found.rows in
    let rank = c.loop-found.rank in
    let at = word c.loop-found.places in
    let none = c.in_default.ensures in
    let all : Progress f (length old) (cells old) (cells rows) rank 24 at =
    progress_on f l (length old) (cells old) (cells rows) (cells rows) rank c.loop-found.place at c.loop-found.invariant.2 24 c.loop-found.invariant.1 (λ i k h b x y. none k x y i b (omega arith)) in
    progress_end f l (length old) (cells old) (cells rows) (cells rows) rank 24 at all (λ i k h. cells_past old 24 c.told-rows i k h)
