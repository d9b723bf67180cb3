use Rattle.std.proofs.Common.{◌≡◌, ℕ, ◌+◌, ◌-◌, ◌*◌, ◌≤◌, length, sym, ap, subst, add-mul, arith}
use borrow.Rule.Slice.PartMut.{put_mid}
use Rattle.least.specs.Tables.{Table}
use Rattle.trellis.specs.Rows.{Filled}
use Rattle.cheapest.specs.Trellises.{trellis_of}
use Rattle.trellis.proofs.Splicing.{length_part}
use Rattle.trellis.proofs.Tabling.{last_table}
use Rattle.trellis.proofs.code_trellis.Trellis.fill.Goals as goal

pub loop-place-init : goal.loop-place-init
loop-place-init g c =
    let trellis = c.args.self.now in
    let gen = trellis.generator.now in
    let t = trellis_of g.F.Field.ops gen (g.R.Reception.costs trellis.reception.now) trellis.coset in
    let m : ℕ = trellis.shape.highs * trellis.shape.lows in
    let n : ℕ = c.length-n.result in
    let r : ℕ = 2 * c.states-row.result in
    let a : ℕ = n * r in
    let k : ℕ = a + r - a in
    let two : r ≡ m + m = omega arith in
    let at : a ≡ n * (m + m) = ap (λ b. n * b) two in
    let all : (n + 1) * (m + m) ≤ length c.args.words.now = rw c.length-n.ensures c.requires in
    let room : a + k ≤ length c.args.words.now = omega (arith, add-mul n 1 (m + m)) in
    let short : length c.fill_last.new.row ≡ k = omega (arith, length_part a k c.args.words.now room) in
    subst (λ j. Table t m j n (put_mid a k c.args.words.now c.fill_last.new.row)) c.length-n.ensures
    (last_table t m n a k c.args.words.now c.fill_last.new.row at (omega arith) room short (subst (λ j. Filled t 0 j m c.fill_last.new.row) (sym c.length-n.ensures) c.fill_last.ensures))
