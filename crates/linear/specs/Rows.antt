-- The symbols of rows, and the places at which they have their 1s.
use Rattle.std.specs.Prelude.{ℕ, List, map}
use Rattle.linear.specs.declared.rows.Row.{Row}

abbrev pub symbols : List Row → List (List ℕ)
symbols rows = map (λ r. r.symbols) rows

abbrev pub places : List Row → List ℕ
places rows = map (λ r. r.place) rows
