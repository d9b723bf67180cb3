use Rattle.std.proofs.Common.{◌≡◌, ℕ, ◌<◌, ◌≤◌, length, sym, refl, ◌∙◌, subst, inl, inr, ⊎_elim, arith}
use Rattle.std.proofs.lemmas.List.{length-take, get_or_append_left}
use Rattle.std.proofs.lemmas.Bool.{not-true, not-false}
use Rattle.algebra.specs.Words.{word}
use Rattle.algebra.proofs.Symbols.{zero_symbol}
use Rattle.generator.specs.Parts.{size, dimension, places_of}
use Rattle.generator.proofs.Systematics.{inside}
use Rattle.cosets.specs.States.{checks}
use Rattle.cheapest.specs.Cheapest.{Sole}
use Rattle.trellis.proofs.Powers.{power_positive}
use Rattle.decoding.proofs.Messages.{counted, never_refused, cost_small, tied, decoded, not_tied}
use Rattle.decoding.proofs.reading.decode.Goals as goal

pub returns-in_err-least : goal.returns-in_err-least
returns-in_err-least g c =
    let f = g.F.Field.ops in
    let gen = c.args.generator.now in
    let costs = g.R.Reception.costs c.args.reception.now in
    let room = c.in_ok-check_room.ensures in
    let short : size gen ≤ 24 = gen.short in
    absurd (never_refused f g.F.Field.laws gen costs _ _ c.cheapest.new.word _ room.0 room.1.0 (simp length-take (omega (arith, c.length-n.ensures))) (power_positive f.order (checks gen) (zero_symbol g.F.Field.laws)) c.in_err-least.ensures.told)

pub returns-then-not-least : goal.returns-then-not-least
returns-then-not-least g c =
    let f = g.F.Field.ops in
    let gen = c.args.generator.now in
    let costs = g.R.Reception.costs c.args.reception.now in
    let room = c.in_ok-check_room.ensures in
    let long = sym c.len.ensures ∙ c.if-len-n.false ∙ c.length-n.ensures in
    let places = c.if-message-k.false ∙ c.dimension-k.ensures in
    let least = c.in_ok-least.least in
    let out = c.in_ok-least.ensures.told.1.1.1.1 in
    let tie = tied f g.F.Field.laws gen costs (word c.cheapest.new.word) least.cost out.0 (subst (Sole f gen costs 0 (word c.cheapest.new.word) least.cost) (not-true least.sole c.if-not-least.true) out.1) in
    record {
      told = inr ((λ n. n long), inr (room.0, inr (room.1.0, inr ((λ n. n places), inr (c.if-is_full.ensures, inl (least.cost, tie, refl, refl))))));
      tally = ((λ _. counted _ _ _ _ _ c.if-is_full.ensures c.add_tied.ensures), λ n. absurd (n refl));
      work = ((λ _. c.in_ok-least.ensures.work), λ n. absurd (n refl));
      message = refl;
    }

pub returns : goal.returns
returns g c =
    let f = g.F.Field.ops in
    let gen = c.args.generator.now in
    let costs = g.R.Reception.costs c.args.reception.now in
    let lawful = g.R.Reception.laws c.args.reception.now in
    let short : size gen ≤ 24 = gen.short in
    let room = c.in_ok-check_room.ensures in
    let long = sym c.len.ensures ∙ c.if-len-n.false ∙ c.length-n.ensures in
    let places = c.if-message-k.false ∙ c.dimension-k.ensures in
    let least = c.in_ok-least.least in
    let found = c.cheapest.new.word in
    let out = c.in_ok-least.ensures.told.1.1.1.1 in
    let sole = subst (Sole f gen costs 0 (word found) least.cost) (not-false least.sole c.if-not-least.false) out.1 in
    let wide : length found ≡ size gen = c.cheapest.auto.word ∙ simp length-take (omega (arith, c.length-n.ensures)) in
    let read : (j : ℕ) → j < dimension gen → word c.loop-j.message j ≡ word found (places_of gen j) = λ j h. c.loop-j.invariant j (omega (arith, c.dimension-k.ensures)) ∙ get_or_append_left found _ 0 (places_of gen j) (omega (arith, inside gen j h, wide)) in
    let dec = decoded f g.F.Field.laws gen costs (word found) least.cost out.0 c.loop-j.message (omega arith) read sole in
    record {
      told = ((λ n. n long), (room.0, (room.1.0, ((λ n. n places), (c.if-is_full.ensures, (not_tied f g.F.Field.laws gen costs c.loop-j.message least.cost dec, dec))))));
      tally = counted _ _ _ _ _ (⊎_elim c.if-is_full.ensures (λ dear. omega (arith, cost_small f g.F.Field.laws gen costs (word found) least.cost out.0 lawful))) c.add_answered.ensures;
      work = c.in_ok-least.ensures.work;
      message = tt;
    }
