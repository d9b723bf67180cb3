use Rattle.std.proofs.Common.{ℕ, ◌≤◌, take, replicate, ap, ◌∙◌}
use Rattle.generator.specs.Parts.{size}
use Rattle.reception.specs.Layers.{hard_word}
use Rattle.cheapest.proofs.Weighing.{first_zeros}
use Rattle.trellis.proofs.weight.weights.Goals as goal

pub returns : goal.returns
returns c =
    let gen = c.args.generator.now in
    let short : size gen ≤ 24 = gen.short in
    ap hard_word (c.new.ensures ∙ ap (λ k. take {A = ℕ} k (replicate 24 0)) c.length.ensures ∙ first_zeros (size gen) 24 short)
