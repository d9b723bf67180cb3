use Rattle.std.proofs.Common.{◌≡◌, ℕ, ◌+◌, ◌-◌, ◌*◌, ◌≤◌, length, ◌∙◌, length-take, arith}
use Rattle.generator.specs.Parts.{size}
use Rattle.least.proofs.Rows.{rows_fit}
use Rattle.cheapest.specs.Trellises.{trellis_of}
use Rattle.trellis.proofs.Splicing.{length_part}
use Rattle.trellis.proofs.Tabling.{next_filled, place_filled}
use Rattle.trellis.proofs.code_trellis.Trellis.fill_place.Goals as goal

pub split_at_mut-before-requires : goal.split_at_mut-before-requires
split_at_mut-before-requires g c =
    let trellis = c.args.self.now in
    let m : ℕ = trellis.shape.highs * trellis.shape.lows in
    let r : ℕ = 2 * c.states-row.result in
    let two : r ≡ m + m = omega arith in
    omega (arith, rows_fit c.args.place (size trellis.generator.now) r (length c.args.words.now) c.requires.inside (rw two c.requires.room))

pub slice_bounds-fill_row-end : goal.slice_bounds-fill_row-end
slice_bounds-fill_row-end g c =
    let trellis = c.args.self.now in
    let m : ℕ = trellis.shape.highs * trellis.shape.lows in
    let r : ℕ = 2 * c.states-row.result in
    let two : r ≡ m + m = omega arith in
    omega (arith, rows_fit c.args.place (size trellis.generator.now) r (length c.args.words.now) c.requires.inside (rw two c.requires.room), c.split_at_mut-before.ensures.back_len)

pub slice_bounds-fill_row-end-2 : goal.slice_bounds-fill_row-end-2
slice_bounds-fill_row-end-2 g c =
    let trellis = c.args.self.now in
    let m : ℕ = trellis.shape.highs * trellis.shape.lows in
    let r : ℕ = 2 * c.states-row.result in
    let two : r ≡ m + m = omega arith in
    let fit = rows_fit c.args.place (size trellis.generator.now) r (length c.args.words.now) c.requires.inside (rw two c.requires.room) in
    simp length-take (omega (arith, c.split_at_mut-before.ensures.back_len))

pub fill_row-requires : goal.fill_row-requires
fill_row-requires g c =
    let trellis = c.args.self.now in
    let t = trellis_of g.F.Field.ops trellis.generator.now (g.R.Reception.costs trellis.reception.now) trellis.coset in
    let m : ℕ = trellis.shape.highs * trellis.shape.lows in
    let r : ℕ = 2 * c.states-row.result in
    let before = c.split_at_mut-before.result.0.now in
    let after = c.split_at_mut-before.result.1.now in
    let two : r ≡ m + m = omega arith in
    let long = c.split_at_mut-before.ensures.front_len in
    let a : ℕ = c.args.place * r in
    let fit = rows_fit c.args.place (size trellis.generator.now) r (length c.args.words.now) c.requires.inside (rw two c.requires.room) in
    let room : r ≤ length after = omega (arith, c.split_at_mut-before.ensures.back_len) in
    record {
      inside = c.requires.inside;
      symbols = c.branch-self.auto.branches ∙ c.requires.symbols;
      branched = c.branch-self.ensures;
      next = simp length-take (omega arith);
      long = length_part a (length before - a) before (omega arith) ∙ omega arith;
      done = next_filled t m (size trellis.generator.now) c.args.place r c.args.words.now before after two c.split_at_mut-before.ensures.value long c.requires.inside room c.requires.done;
    }

pub returns : goal.returns
returns g c =
    let trellis = c.args.self.now in
    let t = trellis_of g.F.Field.ops trellis.generator.now (g.R.Reception.costs trellis.reception.now) trellis.coset in
    let m : ℕ = trellis.shape.highs * trellis.shape.lows in
    let r : ℕ = 2 * c.states-row.result in
    let before = c.split_at_mut-before.result.0.now in
    let after = c.split_at_mut-before.result.1.now in
    let two : r ≡ m + m = omega arith in
    let long = c.split_at_mut-before.ensures.front_len in
    let a : ℕ = c.args.place * r in
    let short : length c.fill_row.new.row ≡ length before - a = omega (arith, length_part a (length before - a) before (omega arith)) in
    place_filled t m (size trellis.generator.now) c.args.place r c.args.words.now before after two c.split_at_mut-before.ensures.value long c.fill_row.new.row short c.requires.done c.fill_row.ensures
