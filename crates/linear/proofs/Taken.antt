-- The first rows, by the symbols and the places of all.
use Rattle.std.proofs.Common.{◌≡◌, ℕ, ◌<◌, List, [], length, get_or, take, sym, ap, ◌∙◌, arith}
use Rattle.std.proofs.lemmas.List.{length-take, get_or-take, get_or-map}
use Rattle.algebra.specs.Words.{word}
use Rattle.linear.specs.declared.rows.Row.{Row}
use Rattle.linear.specs.Rows.{symbols, places}

-- where there is no row
abbrev pub blank : Row
blank = record { place = 0; symbols = [] }

module _ (rows : List Row) (k i : ℕ) (d : Row) (h : i < length (take k rows)) where
  taken : get_or (take k rows) i d ≡ get_or rows i d
  taken = get_or-take k rows i d (omega (arith, length-take k rows))

  inside : i < length rows
  inside = omega (arith, length-take k rows)

  pub taken_symbols : (get_or (take k rows) i d).symbols ≡ get_or (symbols rows) i []
  taken_symbols = ap (λ r. r.symbols) taken ∙ sym (get_or-map (λ r. r.symbols) rows i d [] inside)

  pub taken_place : (get_or (take k rows) i d).place ≡ word (places rows) i
  taken_place = ap (λ r. r.place) taken ∙ sym (get_or-map (λ r. r.place) rows i d 0 inside)
