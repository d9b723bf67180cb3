-- The products of two words, added up one after the other, are the total over their places.
use Rattle.std.proofs.Common.{◌≡◌, ℕ, zero, suc, ◌≤◌, List, length, get_or, take, min, refl, sym, ap, ◌∙◌, ap₂, add-one, arith}
use Rattle.std.specs.List.{fold, zip}
use Rattle.std.proofs.lemmas.List.{take_all}
use Rattle.std.proofs.lemmas.List.Sums.{fold_more}
use Rattle.std.proofs.lemmas.Slice.Zip.{get_or-zip, length-zip}
use Rattle.field.specs.Field.{Ops}
use Rattle.algebra.specs.Words.{total}

-- the first n of them
fold_products : (f : Ops) (xs ys : List ℕ) (n : ℕ) → n ≤ length (zip xs ys)
    → fold (λ s p. f.sum s (f.product p.0 p.1)) 0 (take n (zip xs ys)) ≡ total f (λ p. f.product (get_or xs p 0) (get_or ys p 0)) n
fold_products f xs ys zero h = refl
fold_products f xs ys (suc n) h =
    let e = length-zip xs ys in
    let more = fold_more (λ s p. f.sum s (f.product p.0 p.1)) 0 (zip xs ys) n (0, 0) (omega arith) in
    rw (← add-one n) more ∙ ap₂ f.sum (fold_products f xs ys n (omega arith)) (ap (λ p. f.product p.0 p.1) (get_or-zip xs ys n (0, 0) (omega arith) (omega arith)))

pub fold_total : (f : Ops) (xs ys : List ℕ)
    → fold (λ s p. f.sum s (f.product p.0 p.1)) 0 (zip xs ys) ≡ total f (λ p. f.product (get_or xs p 0) (get_or ys p 0)) (min (length xs) (length ys))
fold_total f xs ys =
    let all : ℕ = length (zip xs ys) in
    ap (fold (λ s p. f.sum s (f.product p.0 p.1)) 0) (sym (take_all all (zip xs ys) (omega arith)))
    ∙ fold_products f xs ys all (omega arith)
    ∙ ap (total f (λ p. f.product (get_or xs p 0) (get_or ys p 0))) (length-zip xs ys)
