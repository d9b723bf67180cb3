use Rattle.std.proofs.Common.{rules, ◌≡◌, [], get_or, length, sym, ap, ◌∙◌, inl, inr, arith}
use Rattle.std.proofs.lemmas.List.{get_or-map, get_or_past, length-map}
use Rattle.std.proofs.lemmas.Bool.{cases_lt}
use Rattle.algebra.specs.Words.{word}
use Rattle.linear.specs.Rows.{symbols, places}
use Rattle.linear.proofs.Made.{made_at}
use Rattle.linear.proofs.Taken.{blank}
use Rattle.generator.proofs.making.placed.Goals as goal

pub returns : goal.returns
returns c =
    let table = c.args.table.now in
    let at = c.args.places.now in
    let rows = c.from_fn.result in
    let long : length rows ≡ 24 = search arith in
    let made = made_at _ _ (λ i r. (r.place ≡ word at i) × (r.symbols ≡ get_or table i [])) (λ i r q k. search rules) rows 24 c.from_fn.ensures.items in
    record {
      same = λ i p. elim (cases_lt i 24) [
        | inl b ↦ ap (λ r. word r p) (get_or-map (λ r. r.symbols) rows i blank [] (omega arith) ∙ (made i blank b).1)
        | inr b ↦ ap (λ r. word r p) (get_or_past (symbols rows) i [] (omega (arith, length-map rows (λ r. r.symbols))) ∙ sym (get_or_past table i [] (omega arith)))
      ];
      at = λ i. elim (cases_lt i 24) [
        | inl b ↦ get_or-map (λ r. r.place) rows i blank 0 (omega arith) ∙ (made i blank b).0
        | inr b ↦ get_or_past (places rows) i 0 (omega (arith, length-map rows (λ r. r.place))) ∙ sym (get_or_past at i 0 (omega arith))
      ];
    }
