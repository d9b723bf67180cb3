use Rattle.std.proofs.Common.{◌≡◌, ap, ◌∙◌, arith}
use Rattle.cosets.specs.States.{moved, checks}
use Rattle.cosets.proofs.Partial.{next_below}
use Rattle.algebra.specs.Words.{word}
use Rattle.trellis.proofs.Columning.{column, column_fits, column_length, column_moves}
use Rattle.trellis.proofs.Shaping.{states_are, few_cosets}
use Rattle.trellis.proofs.code_trellis.Trellis.next.Given as given
use Rattle.trellis.proofs.code_trellis.Trellis.next.Goals as goal
use Rattle.trellis.proofs.code_trellis.Trellis.next.Goals.{After-digits}

digits : (g : given.Over) (c : After-digits g) → c.digits.result ≡ checks c.args.self.now.generator.now
digits g c = c.digits.ensures ∙ c.args.self.now.shaped.digits

pub slice_bounds-column-end : goal.slice_bounds-column-end
slice_bounds-column-end g c = let all = digits g c in column_fits g.F.Field.ops _ _ c.args.self.now.made c.args.place c.digits.result c.requires all

pub step-requires : goal.step-requires
step-requires g c =
    let trellis = c.args.self.now in
    let all : c.digits.result ≡ checks trellis.generator.now = c.digits.ensures ∙ trellis.shaped.digits in
    rw (column_length g.F.Field.ops trellis.generator.now trellis.columns trellis.made c.args.place c.digits.result c.requires all) (few_cosets g.F.Field.ops trellis.generator.now trellis.shape trellis.shaped)

pub returns : goal.returns
returns g c =
    let f = g.F.Field.ops in
    let trellis = c.args.self.now in
    let gen = trellis.generator.now in
    let all : c.digits.result ≡ checks gen = c.digits.ensures ∙ trellis.shaped.digits in
    let long = column_length f gen trellis.columns trellis.made c.args.place c.digits.result c.requires all in
    let is = c.step.ensures.value
    ∙ ap (λ d. moved f (word (column f gen trellis.columns trellis.made c.args.place c.digits.result c.requires all)) d c.args.state c.args.x) long
    ∙ column_moves f gen trellis.columns trellis.made c.args.place c.digits.result c.requires all c.args.state c.args.x in
    record { value = is; below = omega (arith, is, next_below f g.F.Field.laws gen c.args.place c.args.state c.args.x, states_are f gen trellis.shape trellis.shaped) }
